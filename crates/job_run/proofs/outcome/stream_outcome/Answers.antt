use Rattle.std.proofs.Common.{sym}
use Rattle.job_run.proofs.JobOutcomes.{none_lead}
use Rattle.job_run.proofs.outcome.stream_outcome.Goals as goal

pub returns-in_ok-carried_outcome-in-None : goal.returns-in_ok-carried_outcome-in-None
returns-in_ok-carried_outcome-in-None c = λ bytes so.
    let e = c.in-None.ensures bytes so in
    none_lead c.args.arguments.now bytes c.in_ok-carried_outcome-in-None.field-0 e (c.in_ok-carried_outcome-in-None.ensures bytes so (sym e))
