use Rattle.std.proofs.Common.{◌≡◌, ◌+◌, max, ℕ, arith, ap, ap₂, sym, ◌∙◌}
use Rattle.own_slots.specs.Extremes.{greatest}
use Rattle.own_slots.proofs.Extremes.{greatest_none, greatest_more}
use Rattle.clock27.proofs.MinMax.{max_is}
use Rattle.unit_timing.specs.Allowances.{allowance_rows}
use Rattle.plan_maker.specs.Reasons.{units_lead}
use Rattle.plan_maker.proofs.reason.streams.least_lead.Goals as goal

pub loop-before-init : goal.loop-before-init
loop-before-init c = sym (greatest_none (λ before. units_lead c.args.description.now c.args.stream.now (before + 1)))

pub loop-before-preserved : goal.loop-before-preserved
loop-before-preserved c =
    let f = λ (before : ℕ). units_lead c.args.description.now c.args.stream.now (before + 1) in
    c.max-least.ensures ∙ max_is c.loop-before.least c.units_lead.result
    ∙ ap₂ max c.loop-before.invariant c.units_lead.ensures.lead ∙ sym (greatest_more c.loop-before.before f)

pub returns : goal.returns
returns c =
    let end : c.loop-before.before ≡ allowance_rows c.args.stream.now.allowance = omega (arith, c.rows-before-end.ensures) in
    record { lead = c.loop-before.invariant ∙ ap (λ (n : ℕ). greatest n (λ before. units_lead c.args.description.now c.args.stream.now (before + 1))) end }
