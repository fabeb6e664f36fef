use Rattle.std.proofs.Common.{string_bytes}
use Rattle.std.proofs.lemmas.Str.{IsUtf8-string_bytes}
use Rattle.job_run.proofs.JobOutcomes.{found_in_input, given_job, given_job_in}
use Rattle.job_run.proofs.outcome.job_output.Goals as goal

pub returns-clause-given : goal.returns-clause-given
returns-clause-given c findings streams =
    given_job c.args.options.now findings c.args.input (string_bytes c.in_ok-text.field-0.text) (string_bytes c.in_ok-plan.plan)
    c.in_ok-text.field-0.plan.description c.in_ok-text.field-0.plan.plan c.plan-2.result.now c.in_ok-text.field-0.units.items
    c.in_ok-text.ensures.job (c.in_ok-text.ensures.units c.args.options.now.make_dts findings streams) c.in_ok-text.ensures.agree c.plan-2.ensures.serving
    (IsUtf8-string_bytes c.in_ok-text.field-0.text) c.in_ok-plan.ensures.within c.in_ok-plan.ensures.text c.plan-2.ensures.plan

pub returns-clause-given_in : goal.returns-clause-given_in
returns-clause-given_in c inputs j same streams =
    let of = found_in_input c.args.options.now.make_dts inputs j c.args.input same streams in
    given_job_in c.args.options.now inputs j c.args.input (string_bytes c.in_ok-text.field-0.text) (string_bytes c.in_ok-plan.plan)
    c.in_ok-text.field-0.plan.description c.in_ok-text.field-0.plan.plan c.plan-2.result.now c.in_ok-text.field-0.units.items same
    c.in_ok-text.ensures.job (c.in_ok-text.ensures.units_in c.args.options.now.make_dts inputs j.origins of.0 of.1) c.in_ok-text.ensures.agree
    c.plan-2.ensures.serving
    (IsUtf8-string_bytes c.in_ok-text.field-0.text) c.in_ok-plan.ensures.within c.in_ok-plan.ensures.text c.plan-2.ensures.plan
