use Rattle.std.proofs.Common.{◌≡◌, ◌∙◌, ◌*◌, ◌∷◌, nat_le, true, false, length, refl, sym}
use Rattle.std.proofs.lemmas.Bool.{le-leb}
use Rattle.unit_timing.specs.Arrived.{is_due, has_left}
use Rattle.unit_timing.specs.PesPacket.{PesPacket}
use Rattle.tstd.specs.PayloadBytes.{bytes_ahead, last_of, drain_of}
use Rattle.tstd.proofs.EntryPeaks.{left_whole, left_short}
use Rattle.tstd.proofs.UnitBytes.{most_begun}
use Rattle.tstd.proofs.units_in_buffer.measure_unit.Goals.{then-whole, else-whole}
use Rattle.tstd.proofs.units_in_buffer.measure_unit.Goals as goal

pub returns-then-is_due-clause-peak : goal.returns-then-is_due-clause-peak
returns-then-is_due-clause-peak g c = λ pes_packets.
    let e = c.enter_unit-whole.ensures in
    let b = c.in_ok-begin.ensures in
    let pes_packet : PesPacket = record { dts = c.args.due; size = c.args.size; front = 0 } in
    e.peak c.args.due pes_packets (b.until ∙ c.moments_of-last.ensures.first)
    ∙ most_begun c.args.walk.now c.args.buffer.now c.begin.new.self (pes_packet ∷ pes_packets) b.there b.peak

pub returns-else-is_due-clause-peak : goal.returns-else-is_due-clause-peak
returns-else-is_due-clause-peak g c = λ pes_packets.
    let e = c.enter_unit-whole.ensures in
    let b = c.in_ok-begin.ensures in
    let pes_packet : PesPacket = record { dts = c.args.due; size = c.args.size; front = 0 } in
    e.peak c.args.due pes_packets (b.until ∙ c.moments_of-last.ensures.first)
    ∙ most_begun c.args.walk.now c.args.buffer.now c.begin.new.self (pes_packet ∷ pes_packets) b.there b.peak

pub returns-then-is_due-clause-late : goal.returns-then-is_due-clause-late
returns-then-is_due-clause-late g c =
    let e = c.enter_unit-whole.ensures in
    let walk = c.args.walk.now in
    let drain = drain_of walk in
    let ahead = bytes_ahead walk in
    let unit : PesPacket = record { dts = c.args.due; size = c.args.size; front = 0 } in
    let due : is_due walk.rate c.args.slots unit ≡ true =
    le-leb (c.args.due * walk.rate) (c.args.slots * 135360000) (rw (c.from.ensures, c.from-2.ensures, c.from-3.ensures, e.rate) at c.if-is_due.true) in
    elim c.if-whole.branch [
      | then-whole w ↦
          let whole : nat_le c.args.size (length ahead) ≡ true = sym e.whole ∙ w.if-whole.true in
          let all = rw w.if-whole.true at e.in_time in
          let left : has_left walk.rate drain unit ahead ≡ c.if-whole.in_time =
          left_whole walk.rate drain c.args.due c.args.size (last_of c.enter_unit-whole.new.walk) c.moments_of-last.result.0 ahead c.if-whole.in_time whole
          (all c.requires.positive (c.args.due * walk.rate * drain)) c.moments_of-last.ensures.last (rw w.last.ensures at w.in_time-is) in
          rw (due, left) refl
      | else-whole w ↦
          let short : nat_le c.args.size (length ahead) ≡ false = sym e.whole ∙ w.if-whole.false in
          rw (due, left_short walk.rate drain c.args.due c.args.size ahead short, w.in_time-is, w.if-whole.false) refl
    ]
