use Rattle.std.proofs.Common.{◌∙◌, ap, sym}
use Rattle.job_run.specs.JobArguments.{JobArgumentsView}
use Rattle.job_run.proofs.JobOutcomes.{whole_given}
use Rattle.job_run.proofs.outcome.output_for.Goals as goal

pub returns-in-Whole-clause-given : goal.returns-in-Whole-clause-given
returns-in-Whole-clause-given c findings streams =
    whole_given c.args.arguments.now.subcommand _ c.args.arguments.now.options findings c.args.input c.job_output.result
    (sym (ap (λ (a : JobArgumentsView). a.subcommand) c.arguments.view_is) ∙ c.in-Whole.is) c.options-options.ensures c.job_output.ensures.given streams
