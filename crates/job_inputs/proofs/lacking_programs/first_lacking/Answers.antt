use Rattle.std.proofs.Common.{◌≡◌, ◌∙◌, sym, None, rules}
use Rattle.job_inputs.proofs.LackingPrograms.{lacking_here, lacking_later, lacking_end}
use Rattle.job_inputs.proofs.lacking_programs.first_lacking.Goals as goal

pub loop-warning-preserved : goal.loop-warning-preserved
loop-warning-preserved c =
    let none : c.lacking_by.result ≡ None = search rules in
    c.loop-warning.invariant ∙ lacking_later c.args.streams.now c.args.warnings.now c.loop-warning.warning-index _ c.loop-warning-test.true
    (sym c.lacking_by.ensures ∙ none)

pub returns-in-Some : goal.returns-in-Some
returns-in-Some c =
    sym (c.loop-warning.invariant ∙ lacking_here c.args.streams.now c.args.warnings.now c.loop-warning.warning-index _ c.in-Some.refusal
    c.loop-warning-test.true
    (sym c.lacking_by.ensures ∙ c.in-Some.is))

pub returns : goal.returns
returns c = sym (c.loop-warning.invariant ∙ lacking_end c.args.streams.now c.args.warnings.now c.loop-warning.warning-index c.loop-warning-test.false)
