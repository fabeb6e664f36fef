use Rattle.std.proofs.Common.{◌≡◌, ◌∙◌, ℕ, ◌+◌, ◌==◌, true, false, List, drop, length, refl, sym, ap, nat_eq}
use Rattle.std.specs.List.{starts_with, concat}
use Rattle.pes_packet.specs.StreamIds.{fits_packet}
use Rattle.tstd.specs.PayloadWalk.{bytes_ahead}
use Rattle.pes_packet.specs.Units.{units_of, pes_packets_of}
use Rattle.tstd.specs.StreamFit.{fits_of}
use Rattle.tstd.proofs.CarriedBytes.{texts_first, texts_past, texts_none, all_at, own_fits, end_agrees}
use Rattle.tstd.proofs.carried.carries.Goals as goal

pub loop-entry-preserved-then-not-is_of : goal.loop-entry-preserved-then-not-is_of
loop-entry-preserved-then-not-is_of g c =
    let u = c.entry-item.result in
    let other : (u.0 == c.args.number) ≡ false = sym c.is_of.ensures ∙ c.if-not-is_of.true in
    rw (texts_past c.args.id c.args.base0 c.args.number c.loop-entry.entry-index c.args.units.now u c.loop-entry-test.true c.entry-item.is other) at
    c.loop-entry.invariant

pub entry_agrees-requires : goal.entry_agrees-requires
entry_agrees-requires g c =
    let u = c.entry-item.result in
    let own : (u.0 == c.args.number) ≡ true = sym c.is_of.ensures ∙ c.if-not-is_of.false in
    let fits = all_at (fits_of c.args.number c.args.id) c.args.units.now c.loop-entry.entry-index u c.loop-entry-test.true c.requires in
    own_fits (u.0 == c.args.number) (fits_packet c.args.id (length u.1.bytes)) own (rw (sym c.entry-item.is) at fits)

pub loop-entry-preserved : goal.loop-entry-preserved
loop-entry-preserved g c =
    let u = c.entry-item.result in
    let i = c.loop-entry.entry-index in
    let own : (u.0 == c.args.number) ≡ true = sym c.is_of.ensures ∙ c.if-not-is_of.false in
    let first = texts_first c.args.id c.args.base0 c.args.number i c.args.units.now u c.loop-entry-test.true c.entry-item.is own in
    let rest = concat (pes_packets_of c.args.id c.args.base0 (units_of c.args.number (drop (i + 1) c.args.units.now))) in
    c.loop-entry.invariant ∙ ap (λ (expected : List ℕ). starts_with nat_eq expected (bytes_ahead c.loop-entry.payloads)) first ∙ c.entry_agrees.ensures rest
    ∙ rw c.if-not-entry_agrees.false refl

pub returns-then-not-entry_agrees : goal.returns-then-not-entry_agrees
returns-then-not-entry_agrees g c =
    let u = c.entry-item.result in
    let i = c.loop-entry.entry-index in
    let own : (u.0 == c.args.number) ≡ true = sym c.is_of.ensures ∙ c.if-not-is_of.false in
    let first = texts_first c.args.id c.args.base0 c.args.number i c.args.units.now u c.loop-entry-test.true c.entry-item.is own in
    let rest = concat (pes_packets_of c.args.id c.args.base0 (units_of c.args.number (drop (i + 1) c.args.units.now))) in
    sym (c.loop-entry.invariant ∙ ap (λ (expected : List ℕ). starts_with nat_eq expected (bytes_ahead c.loop-entry.payloads)) first
    ∙ c.entry_agrees.ensures rest
    ∙ rw c.if-not-entry_agrees.true refl)

pub returns : goal.returns
returns g c =
    let none = texts_none c.args.id c.args.base0 c.args.number c.loop-entry.entry-index c.args.units.now c.loop-entry-test.false in
    sym (c.loop-entry.invariant ∙ ap (λ (expected : List ℕ). starts_with nat_eq expected (bytes_ahead c.loop-entry.payloads)) none
    ∙ end_agrees c.next.result c.is_none.result (bytes_ahead c.loop-entry.payloads) (bytes_ahead c.next.new.self) c.next.ensures.ahead c.is_none.ensures)
