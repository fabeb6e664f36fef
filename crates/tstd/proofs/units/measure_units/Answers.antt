use Rattle.std.proofs.Common.{◌≡◌, ◌∙◌, ℕ, ◌+◌, ◌≤◌, ◌==◌, ◌∷◌, true, false, length, drop, arith, ap, sym, refl}
use Rattle.unit_timing.specs.Arrived.{first_late}
use Rattle.unit_timing.specs.PesPacket.{PesPacket}
use Rattle.pes_packet.specs.Marks.{field_size}
use Rattle.pes_packet.specs.Units.{units_of}
use Rattle.tstd.specs.Carried.{timed_pes_packets}
use Rattle.tstd.specs.Entry.{peak_of}
use Rattle.tstd.specs.PayloadBytes.{bytes_ahead, drain_of}
use Rattle.tstd.proofs.UnitLists.{peak_front, texts_own, texts_other, texts_end, late_more, late_end, size_next, fewer_left}
use Rattle.tstd.proofs.DepartureWalks.{nothing}
use Rattle.tstd.proofs.units.measure_units.Goals as goal

pub loop-entry-preserved-then-not-is_of : goal.loop-entry-preserved-then-not-is_of
loop-entry-preserved-then-not-is_of g c =
    let inv = c.loop-entry.invariant in
    let u = c.entry-item.result in
    let i = c.loop-entry.entry-index in
    let other : (u.0 == c.args.stream) ≡ false = sym c.is_of.ensures ∙ c.if-not-is_of.true in
    let same = λ (id : ℕ). texts_other id c.args.base0 c.args.stream i c.args.units.now u c.loop-entry-test.true c.entry-item.is other in
    record {
      late = λ id. rw (same id) at (inv.late id);
      peak = λ id. rw (same id) at (inv.peak id);
      carried = let id = inv.carried.0 in (id, rw (same id) at inv.carried.1);
      residences = inv.residences;
      rate = inv.rate;
      rx = inv.rx;
      rbx = inv.rbx;
      step = inv.step;
      sound = inv.sound;
      fullness = inv.fullness;
      number = omega (arith, inv.number);
    }

pub loop-entry-preserved : goal.loop-entry-preserved
loop-entry-preserved g c =
    let inv = c.loop-entry.invariant in
    let e = c.in_ok-is_late.ensures in
    let units = c.args.units.now in
    let i = c.loop-entry.entry-index in
    let u = c.entry-item.result in
    let due = c.due_of.result in
    let size = c.size_of.result in
    let front = field_size u.1.marks.random_access in
    let pes_packet : PesPacket = record { dts = due; size = size; front = field_size u.1.marks.random_access } in
    let drain : drain_of c.loop-entry.walk ≡ drain_of c.args.walk.now = rw (inv.rx, inv.rbx) refl in
    let own : (u.0 == c.args.stream) ≡ true = sym c.is_of.ensures ∙ c.if-not-is_of.false in
    let same : (id : ℕ) → timed_pes_packets id c.args.base0 (units_of c.args.stream (drop i units)) ≡ pes_packet ∷ timed_pes_packets id c.args.base0
    (units_of c.args.stream (drop (i + 1) units)) =
    λ id. texts_own id c.args.base0 c.args.stream i due size units u c.loop-entry-test.true c.entry-item.is own c.due_of.ensures (c.size_of.ensures.size id) in
    record {
      late = λ id. rw c.first_of-late.ensures
          (late_more c.args.walk.now.rate (drain_of c.args.walk.now) c.args.slots c.loop-entry.number size front due c.loop-entry.late c.in_ok-is_late.is_late
          (timed_pes_packets id c.args.base0 (units_of c.args.stream (drop (i + 1) units))) (bytes_ahead c.loop-entry.walk)
          (bytes_ahead c.measure_unit.new.walk)
          c.loop-entry.walk.rate (drain_of c.loop-entry.walk) inv.rate drain e.late e.left ∙ rw (same id) at (inv.late id));
      peak = λ id. e.peak (timed_pes_packets id c.args.base0 (units_of c.args.stream (drop (i + 1) units)))
          ∙ peak_front c.loop-entry.walk c.loop-entry.buffer due size front (timed_pes_packets id c.args.base0 (units_of c.args.stream (drop (i + 1) units)))
          ∙ ap (peak_of c.loop-entry.walk c.loop-entry.buffer) (sym (same id)) ∙ inv.peak id;
      carried = let id = inv.carried.0 in (
        id,
        rw e.left (fewer_left size _ (bytes_ahead c.loop-entry.walk)
            (rw (same id, size_next pes_packet (timed_pes_packets id c.args.base0 (units_of c.args.stream (drop (i + 1) units)))) at inv.carried.1)),
      );
      residences = e.residences ∙ inv.residences;
      rate = e.rate ∙ inv.rate;
      rx = e.rx ∙ inv.rx;
      rbx = e.rbx ∙ inv.rbx;
      step = e.step ∙ inv.step;
      sound = e.sound;
      fullness = e.fullness;
      number = omega (arith, inv.number);
    }

pub returns-clause-late : goal.returns-clause-late
unfolding first_late
returns-clause-late g c = λ id.
    let none = texts_end id c.args.base0 c.args.stream c.loop-entry.entry-index c.args.units.now c.loop-entry-test.false in
    sym (late_end c.loop-entry.late) ∙ rw none at (c.loop-entry.invariant.late id)

pub returns-clause-left : goal.returns-clause-left
returns-clause-left g c =
    let id = c.loop-entry.invariant.carried.0 in
    let none = texts_end id c.args.base0 c.args.stream c.loop-entry.entry-index c.args.units.now c.loop-entry-test.false in
    let few : length (bytes_ahead c.loop-entry.walk) ≤ 0 = rw none at c.loop-entry.invariant.carried.1 in
    nothing (bytes_ahead c.loop-entry.walk) (omega (arith, few))
