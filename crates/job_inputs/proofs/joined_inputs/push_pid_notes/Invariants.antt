use Rattle.std.proofs.Common.{◌≡◌, ◌++◌, map, drop}
use Rattle.job_inputs.specs.JoinedInputs.{pid_note}
use Rattle.job_inputs.proofs.joined_inputs.push_pid_notes.Given as goal

abbrev pub invariant-loop-number : goal.invariant-loop-number
invariant-loop-number l = l.notes.items ++ map (pid_note l.input) (drop l.number-index l.changed) ≡ l.initial.notes.items ++ map (pid_note l.input) l.changed
