use Rattle.std.proofs.Common.{ℕ, ◌+◌, ◌-◌, ◌^◌, min, arith, ap₂, sym, ◌∙◌}
use Rattle.std.specs.Prelude.{slice_index}
use Rattle.own_slots.proofs.Extremes.{least_none, least_more}
use Rattle.stream_choice.specs.Shares.{group_share}
use Rattle.stream_choice.proofs.shares.least_share.Goals as goal

pub loop-i-init : goal.loop-i-init
loop-i-init c = record {
  least = sym (least_none (2 ^ 64 - 1) (λ i. group_share c.args.needs (i + 1) (slice_index c.args.max_packets.now i)));
  lower = omega arith;
  upper = λ lt. absurd (omega (arith, lt));
}

pub loop-i-preserved : goal.loop-i-preserved
loop-i-preserved c =
    let f = λ (i : ℕ). group_share c.args.needs (i + 1) (slice_index c.args.max_packets.now i) in
    let both = c.min-least.ensures in
    record {
      least = both ∙ ap₂ min c.loop-i.invariant.least c.group_share.ensures.value ∙ sym (least_more (2 ^ 64 - 1) c.loop-i.i f);
      lower = omega (arith, both, c.loop-i.invariant.lower, c.group_share.ensures.lower);
      upper = λ lt. omega (arith, both, c.group_share.ensures.upper);
    }
