use Rattle.std.proofs.Common.{◌≡◌, ◌∙◌, sym, None, rules}
use Rattle.job_inputs.proofs.FirstWhy.{why_here, why_later, why_end}
use Rattle.job_inputs.proofs.nothing_carried.first_why.Goals as goal

pub loop-warning-preserved : goal.loop-warning-preserved
loop-warning-preserved c =
    let none : c.why_nothing.result ≡ None = search rules in
    c.loop-warning.invariant ∙ why_later c.args.warnings.now c.loop-warning.warning-index _ c.loop-warning-test.true
    (sym c.why_nothing.ensures ∙ none)

pub returns-in-Some : goal.returns-in-Some
returns-in-Some c =
    sym (c.loop-warning.invariant ∙ why_here c.args.warnings.now c.loop-warning.warning-index _ c.in-Some.refusal c.loop-warning-test.true
    (sym c.why_nothing.ensures ∙ c.in-Some.is))

pub returns : goal.returns
returns c = sym (c.loop-warning.invariant ∙ why_end c.args.warnings.now c.loop-warning.warning-index c.loop-warning-test.false)
