use Rattle.std.proofs.Common.{◌≡◌, ◌∙◌, ◌%◌, ◌==◌, None, true, length, refl, ap, sym, eq-eqb}
use Rattle.std.specs.List.{list_all}
use Rattle.ts_packet.specs.PidList.{cut_packets}
use Rattle.tstd.specs.Refusals.{first_unreadable, is_declared, all_carried}
use Rattle.tstd.proofs.measurement.measure.Goals as goal

pub returns-clause-refused : goal.returns-clause-refused
returns-clause-refused g c =
    let d = c.args.description.now in
    let units = c.args.units.now in
    let bytes = c.args.bytes.now in
    let test : (length bytes % 188 == 0) ≡ true = eq-eqb (length bytes % 188) 0 c.if-bytes-ne0.false in
    let unread : first_unreadable 0 (cut_packets bytes) ≡ None = sym (c.first_unreadable.ensures ∙ ap (first_unreadable 0) c.as_chunks.ensures.front)
    ∙ c.in_default.is in
    let declared : list_all (is_declared d) units ≡ true = rw c.streams.ensures.value at (sym c.are_declared.ensures ∙ c.if-not-are_declared.false) in
    let carried : all_carried d units bytes 0 d.streams ≡ true = sym c.all_carried.ensures ∙ c.if-not-all_carried.false in
    rw (test, unread, declared, carried) refl
