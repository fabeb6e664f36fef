use Rattle.std.proofs.Common.{[], append_assoc, string_bytes}
use Rattle.std.specs.Prelude.{codes}
use Rattle.diagnosis.specs.FaultLines.{fault_line}
use Rattle.job_run.specs.RefusalLine.{refusal_line}
use Rattle.job_run.proofs.refusal_line.write_description.Goals as goal

pub returns : goal.returns
unfolding refusal_line
returns c =
    rw (append_assoc (string_bytes c.args.text.now) (codes "the description is refused: ") (fault_line [] c.args.fault)) at
    (rw c.in_ok-push_str.ensures.bytes at c.write_fault.ensures)
