use Rattle.std.proofs.Common.{append_assoc}
use Rattle.job_run.specs.WarningLines.{warning_line}
use Rattle.job_run.proofs.warning_lines.write_warning.Goals as goal

pub returns-in-NoUnit : goal.returns-in-NoUnit
unfolding warning_line
returns-in-NoUnit c = rw c.in-NoUnit.is (simp append_assoc c.write-in-NoUnit.ensures.bytes)

pub returns-in-MapMoved : goal.returns-in-MapMoved
unfolding warning_line
returns-in-MapMoved c = rw c.in-MapMoved.is (simp append_assoc c.write-in-MapMoved.ensures.bytes)

pub returns-in-StrayPes : goal.returns-in-StrayPes
unfolding warning_line
returns-in-StrayPes c = rw c.in-StrayPes.is (simp append_assoc c.write-in-StrayPes.ensures.bytes)
