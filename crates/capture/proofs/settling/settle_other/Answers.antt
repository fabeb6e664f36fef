use Rattle.std.proofs.Common.{◌≡◌, ◌≤◌, ◌+◌, ◌∷◌, ℕ, [], Some, arith, drop, length, subst, sym}
use Rattle.capture.specs.Captures.{part_in}
use Rattle.packet_sync.specs.OtherPackets.{size_of}
use Rattle.capture.proofs.SettledParts.{Keeps, keeps_more, other_rest}
use Rattle.capture.proofs.settling.settle_other.Goals as goal

pub loop-at-preserved : goal.loop-at-preserved
loop-at-preserved g c =
    let other = c.args.other in
    let bs = c.args.bytes.now in
    let at = c.loop-at.at in
    let size : c.bytes_apart-size.result ≡ size_of other = c.bytes_apart-size.ensures.value in
    let fits : at + size_of other ≤ length bs = omega (arith, c.loop-at-test.true, c.loop-at.invariant.within, size) in
    record {
      within = omega (arith, fits, size);
      settled = λ p ended.
          subst (λ (n : ℕ). Keeps g.T.PartTaker.has_taken (Some other) p bs ended c.args.taker.now p c.take_other.new.taker (at + n)) (sym size)
          (keeps_more g.T.PartTaker.has_taken (Some other) p p p bs ended c.args.taker.now c.loop-at.taker c.take_other.new.taker at (size_of other)
          (part_in other (drop at bs) ∷ []) (c.loop-at.invariant.settled p ended)
          (λ first some taken. c.in_ok-take_other.ensures first some taken) (λ form more last. other_rest form other p bs more at fits));
    }

pub returns-clause-taken : goal.returns-clause-taken
returns-clause-taken g c = λ first parts p ended taken. c.loop-at.invariant.settled p ended first parts taken
