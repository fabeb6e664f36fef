use Rattle.std.proofs.Common.{append_assoc}
use Rattle.job_run.specs.WarningLines.{table_line}
use Rattle.job_run.proofs.warning_lines.write_table.Goals as goal

pub returns-in-NoPes : goal.returns-in-NoPes
unfolding table_line
returns-in-NoPes c = rw c.in-NoPes.is (simp append_assoc c.write-in-NoPes.ensures.bytes)

pub returns-in-Reserved : goal.returns-in-Reserved
unfolding table_line
returns-in-Reserved c = rw c.in-Reserved.is (simp append_assoc c.write-in-Reserved.ensures.bytes)

pub returns-in-Taken : goal.returns-in-Taken
unfolding table_line
returns-in-Taken c = rw c.in-Taken.is (simp append_assoc c.write-in-Taken.ensures.bytes)

pub returns-in-SharedOtherwise : goal.returns-in-SharedOtherwise
unfolding table_line
returns-in-SharedOtherwise c = rw c.in-SharedOtherwise.is (simp append_assoc c.write-in-SharedOtherwise.ensures.bytes)
