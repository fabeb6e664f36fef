use Rattle.std.proofs.Common.{◌≡◌, ◌≤◌, take}
use Rattle.job_run.specs.LeftOutCount.{left_out_count}
use Rattle.job_run.proofs.left_out_count.left_out_count.Given as goal

abbrev pub invariant-loop-warning : goal.invariant-loop-warning
invariant-loop-warning l = record {
  counted : l.count ≡ left_out_count (take l.warning-index l.warnings);
  few : l.count ≤ l.warning-index;
}
