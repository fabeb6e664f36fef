use Rattle.std.proofs.Common.{◌≡◌, ◌∙◌, ℕ, suc, ◌+◌, ◌-◌, ◌≤◌, ◌∷◌, length, drop, ◌*◌, nat_le, nat_eq, arith, ap, sym, add-one, refl}
use Rattle.std.proofs.lemmas.Bool.{lt-leb}
use Rattle.std.proofs.lemmas.List.{drop_all}
use Rattle.tstd.specs.Entry.{peak_of}
use Rattle.tstd.specs.Removal.{removal_time}
use Rattle.tstd.specs.PayloadBytes.{bytes_ahead, last_of, drain_of}
use Rattle.tstd.proofs.UnitBytes.{most_none, most_byte, most_whole, all_next, drop_next, there_next, none_next, last_decides, none_of_some}
use Rattle.tstd.proofs.PayloadWalks.{next_climbs}
use Rattle.tstd.proofs.units_in_buffer.enter_unit.Goals as goal

pub returns-in_default-clause-whole : goal.returns-in_default-clause-whole
returns-in_default-clause-whole g c =
    let inv = c.loop-taken.invariant in
    let all = bytes_ahead c.args.walk.now in
    let over : length all ≡ c.loop-taken.taken = none_next c.loop-taken.taken all inv.there (sym inv.left ∙ c.in_default.ensures.ahead) in
    sym (lt-leb c.args.size (length all) (omega (arith, over, c.loop-taken-test.true)))

pub returns-in_default-clause-left : goal.returns-in_default-clause-left
returns-in_default-clause-left g c =
    let inv = c.loop-taken.invariant in
    let all = bytes_ahead c.args.walk.now in
    let over : length all ≡ c.loop-taken.taken = none_next c.loop-taken.taken all inv.there (sym inv.left ∙ c.in_default.ensures.ahead) in
    c.in_default.ensures.none ∙ sym (drop_all c.args.size all (omega (arith, over, c.loop-taken-test.true)))

pub returns-in_default-clause-peak : goal.returns-in_default-clause-peak
returns-in_default-clause-peak g c = λ due pes_packets until.
    let inv = c.loop-taken.invariant in
    most_none c.loop-taken.walk c.next.new.self c.loop-taken.buffer pes_packets
    (record { dts = due; size = c.args.size - c.loop-taken.taken; front = 0 } ∷ pes_packets)
    c.in_default.ensures.ahead c.in_default.ensures.none ∙ inv.peak due pes_packets until

pub loop-taken-preserved : goal.loop-taken-preserved
loop-taken-preserved g c =
    let inv = c.loop-taken.invariant in
    let e = c.in-Some.ensures in
    let all = bytes_ahead c.args.walk.now in
    let i = c.loop-taken.taken in
    let time = c.in-Some.time in
    let rest = bytes_ahead c.next.new.self in
    let next : drop i all ≡ time ∷ rest = sym inv.left ∙ e.ahead in
    let one : i + 1 ≡ suc i = add-one i in
    let drain : drain_of c.next.new.self ≡ drain_of c.loop-taken.walk = rw (e.rx, e.rbx) refl in
    let before : drain_of c.loop-taken.walk ≡ drain_of c.args.walk.now = rw (inv.rx, inv.rbx) refl in
    let later : last_of c.loop-taken.walk ≤ time = next_climbs c.loop-taken.walk time rest e.ahead in
    let left : c.args.size - i ≡ suc (c.args.size - (i + 1)) = omega (arith, c.loop-taken-test.true) in
    record {
      within = omega (arith, c.loop-taken-test.true);
      there = rw one (there_next i all time rest next);
      left = rw one (sym (drop_next i all time rest next));
      in_time = λ limit. rw (one, e.last, none_of_some i)
          (all_next (λ d. nat_le (d * 720000) limit) i all time rest next
          ∙ rw (inv.in_time limit) (last_decides (nat_eq i 0) (last_of c.loop-taken.walk) time limit later));
      peak = λ due pes_packets until.
          let ends : c.loop-taken.buffer.current.until ≡ removal_time c.loop-taken.walk.rate (drain_of c.loop-taken.walk) due =
          inv.until ∙ until
          ∙ sym (ap (λ (n : ℕ). removal_time n (drain_of c.loop-taken.walk) due) inv.rate ∙ ap (λ (n : ℕ). removal_time c.args.walk.now.rate n due) before)
          in
          most_byte c.loop-taken.walk c.next.new.self c.loop-taken.buffer c.enter.new.self due (c.args.size - (i + 1)) time pes_packets
          e.ahead e.last drain e.rate c.enter.ensures.there c.enter.ensures.peak ends
          ∙ ap (λ (n : ℕ). peak_of c.loop-taken.walk c.loop-taken.buffer (record { dts = due; size = n; front = 0 } ∷ pes_packets)) (sym left)
          ∙ inv.peak due pes_packets until;
      residences = e.residences ∙ inv.residences;
      rate = e.rate ∙ inv.rate;
      rx = e.rx ∙ inv.rx;
      rbx = e.rbx ∙ inv.rbx;
      step = e.step ∙ inv.step;
      until = c.enter.ensures.until ∙ inv.until;
      sound = c.enter.ensures.sound;
      fullness = omega (arith, c.enter.ensures.fullness, inv.fullness, e.beyond);
    }

pub returns-clause-peak : goal.returns-clause-peak
returns-clause-peak g c = λ due pes_packets until.
    let inv = c.loop-taken.invariant in
    let none : c.args.size - c.loop-taken.taken ≡ 0 = omega (arith, c.loop-taken-test.false) in
    most_whole c.loop-taken.walk c.loop-taken.buffer due pes_packets ∙ rw none at (inv.peak due pes_packets until)
