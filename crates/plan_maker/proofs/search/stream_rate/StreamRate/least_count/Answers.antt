use Rattle.std.proofs.Common.{◌≡◌, ◌+◌, ℕ, arith, ap, ap₂, sym, ◌∙◌}
use Rattle.unit_timing.specs.Allowances.{allowance_rows}
use Rattle.plan_maker.specs.Joined.{greater, greatest_of}
use Rattle.plan_maker.specs.StreamNeeds.{stream_view, steady_count, row_count}
use Rattle.plan_maker.proofs.JoinedNumbers.{greatest_of_none, greatest_of_more}
use Rattle.plan_maker.proofs.search.stream_rate.StreamRate.least_count.Goals as goal

pub loop-before-init : goal.loop-before-init
loop-before-init c =
    let v = stream_view c.args.self.now in
    c.steady_count-count.ensures ∙ sym (greatest_of_none (steady_count v c.args.period) (λ before. row_count v c.args.period (before + 1)))

pub loop-before-preserved : goal.loop-before-preserved
loop-before-preserved c =
    let v = stream_view c.args.self.now in
    let f = λ (before : ℕ). row_count v c.args.period (before + 1) in
    c.greater-count.ensures ∙ ap₂ greater c.loop-before.invariant c.row_count.ensures
    ∙ sym (greatest_of_more (steady_count v c.args.period) c.loop-before.before f)

pub returns : goal.returns
returns c =
    let v = stream_view c.args.self.now in
    let end : c.loop-before.before ≡ allowance_rows v.stream.allowance = omega (arith, c.rows-before-end.ensures) in
    c.loop-before.invariant ∙ ap (λ (n : ℕ). greatest_of (steady_count v c.args.period) n (λ before. row_count v c.args.period (before + 1))) end
