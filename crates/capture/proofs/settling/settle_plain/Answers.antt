use Rattle.std.proofs.Common.{◌≡◌, ◌≤◌, ◌+◌, ◌++◌, ℕ, List, None, arith, drop, length, subst, sym}
use Rattle.std.proofs.lemmas.List.{length-drop}
use Rattle.packet_sync.specs.Stretches.{IsOfPackets, IsSteppedSoFar}
use Rattle.capture.specs.Reading.{after_stretch, stretch_parts, stretch_size}
use Rattle.capture.specs.declared.place.Place.{Place}
use Rattle.capture.proofs.SettledParts.{Keeps, keeps_more, rest_at, stretch_rest}
use Rattle.capture.proofs.settling.settle_plain.Goals as goal

pub loop-at-preserved : goal.loop-at-preserved
loop-at-preserved g c =
    let bs = c.args.bytes.now in
    let at = c.loop-at.at in
    let p = c.loop-at.place in
    let s = c.next_stretch-stretch.result in
    let e = rest_at at bs in
    let stepped : IsSteppedSoFar (drop at bs) c.args.ended s =
    subst (λ (r : List ℕ). IsSteppedSoFar r c.args.ended s) e c.next_stretch-stretch.ensures.stepped in
    let packets : IsOfPackets (length (drop at bs)) c.args.ended s =
    subst (λ (r : List ℕ). IsOfPackets (length r) c.args.ended s) e c.next_stretch-stretch.ensures.packets in
    let fits : s.in_step + s.slipped ≤ length (drop at bs) = subst (λ (r : List ℕ). s.in_step + s.slipped ≤ length r) e c.next_stretch-stretch.ensures.within in
    let size : c.in_ok-size.size ≡ stretch_size s = c.in_ok-size.ensures.size in
    record {
      within = omega (arith, size, fits, length-drop at bs, c.loop-at.invariant.within);
      settled =
          subst (λ (n : ℕ). Keeps g.T.PartTaker.has_taken None c.args.place.now bs c.args.ended c.args.taker.now c.take_stretch.new.place
          c.take_stretch.new.taker (at + n)) (sym size)
          (subst (λ (q : Place). Keeps g.T.PartTaker.has_taken None c.args.place.now bs c.args.ended c.args.taker.now q c.take_stretch.new.taker
          (at + stretch_size s)) (sym c.in_ok-size.ensures.place)
          (keeps_more g.T.PartTaker.has_taken None c.args.place.now p (after_stretch s p) bs c.args.ended c.args.taker.now c.loop-at.taker
          c.take_stretch.new.taker at (stretch_size s)
          (stretch_parts (drop at bs) s p) c.loop-at.invariant.settled
          (λ first some taken. subst (λ (r : List ℕ). g.T.PartTaker.has_taken first (some ++ stretch_parts r s p) c.take_stretch.new.taker) e
          (c.in_ok-size.ensures.taken first some taken))
          (λ form more last. stretch_rest form p bs more at c.args.ended s c.loop-at.invariant.within (stepped more last) packets fits)));
    }
