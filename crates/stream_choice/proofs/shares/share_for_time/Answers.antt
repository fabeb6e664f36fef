use Rattle.std.proofs.Common.{ℕ, ◌+◌, max, arith, ap₂, sym, ◌∙◌}
use Rattle.own_slots.proofs.Extremes.{greatest_none, greatest_more}
use Rattle.stream_choice.specs.Shares.{row_share}
use Rattle.clock27.proofs.MinMax.{max_is}
use Rattle.stream_choice.proofs.shares.share_for_time.Goals as goal

pub loop-before-init : goal.loop-before-init
loop-before-init c = record {
  greatest = sym (greatest_none (λ before. row_share c.args.needs c.args.packets c.args.free (before + 1)));
  upper = omega arith;
}

pub loop-before-preserved : goal.loop-before-preserved
loop-before-preserved c =
    let f = λ (before : ℕ). row_share c.args.needs c.args.packets c.args.free (before + 1) in
    let both = c.max-greatest.ensures ∙ max_is c.loop-before.greatest c.row_share.result in
    record {
      greatest = both ∙ ap₂ max c.loop-before.invariant.greatest c.row_share.ensures.value ∙ sym (greatest_more c.loop-before.before f);
      upper = omega (arith, both, c.loop-before.invariant.upper, c.row_share.ensures.upper);
    }
