use Rattle.std.proofs.Common.{append_assoc}
use Rattle.job_run.specs.InformationLines.{information_line}
use Rattle.job_run.proofs.information_lines.write_information.Goals as goal

pub returns-in-BadSection : goal.returns-in-BadSection
unfolding information_line
returns-in-BadSection c = rw c.in-BadSection.is (simp append_assoc c.write-in-BadSection.ensures.bytes)
