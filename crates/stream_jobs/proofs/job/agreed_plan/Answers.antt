use Rattle.std.proofs.Common.{rules, ◌≡◌, Some, subst}
use Rattle.stream_jobs.specs.Jobs.{disagreeing}
use Rattle.stream_jobs.specs.Rates.{IsText}
use Rattle.stream_jobs.proofs.job.agreed_plan.Goals as goal

pub returns-in-Some-clause-refused : goal.returns-in-Some-clause-refused
returns-in-Some-clause-refused c =
    let planned = c.in_ok-planned.planned in
    let disagree : disagreeing c.args.options.now.clock planned.plan.description c.args.input.now ≡ Some c.in-Some.pid = search rules in
    record {
      rate = planned.rate;
      rate_is = c.in_ok-planned.ensures.rate;
      description = planned.plan.description;
      plan = planned.plan.plan;
      read = subst (IsText planned.plan.description) c.in_ok-planned.ensures.planned.text_is c.in_ok-planned.ensures.planned.read;
      serving = search rules;
      disagree = disagree;
    }
