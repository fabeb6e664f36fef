use Rattle.std.proofs.Common.{◌∙◌, sym, ap, ℕ}
use Rattle.job_units.specs.FrameRests.{rest_after}
use Rattle.job_units.proofs.FrameRests.{rest_none, rest_some}
use Rattle.job_units.proofs.frame_rests.least_rest.Goals as goal

pub returns-in_default-clause-value : goal.returns-in_default-clause-value
returns-in_default-clause-value c = sym (rest_none c.args.kind c.args.time c.args.units.now c.in_default.ensures.cases)

pub returns-clause-value : goal.returns-clause-value
returns-clause-value c =
    c.rest_after.ensures.value ∙ ap (λ (due : ℕ). rest_after c.args.kind c.args.time due c.in-Some.others.now) c.last_due.ensures
    ∙ sym (rest_some c.args.kind c.args.time c.args.units.now c.in-Some.others.now c.in-Some.first.now c.in-Some.ensures.cases.0)
