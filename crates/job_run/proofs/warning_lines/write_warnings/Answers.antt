use Rattle.std.proofs.Common.{string_bytes}
use Rattle.job_run.proofs.WarningLines.{warnings_all, warnings_more}
use Rattle.job_run.proofs.warning_lines.write_warnings.Goals as goal

pub loop-warning-preserved : goal.loop-warning-preserved
loop-warning-preserved c =
    warnings_more c.args.falling.now c.loop-warning.before _ c.args.all.now c.loop-warning.warning-index _ (string_bytes c.loop-warning.text) _ _ c.loop-warning-test.true
    c.in_ok-write_after.ensures c.run_of-before.ensures c.loop-warning.invariant

pub returns : goal.returns
returns c = warnings_all c.args.falling.now c.loop-warning.before c.args.all.now c.loop-warning.warning-index (string_bytes c.loop-warning.text) _ c.loop-warning-test.false
    c.loop-warning.invariant
