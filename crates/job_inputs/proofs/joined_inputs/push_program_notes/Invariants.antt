use Rattle.std.proofs.Common.{◌≡◌, ◌++◌, map, drop}
use Rattle.job_inputs.specs.JoinedInputs.{program_note}
use Rattle.job_inputs.proofs.joined_inputs.push_program_notes.Given as goal

abbrev pub invariant-loop-number : goal.invariant-loop-number
invariant-loop-number l = l.notes.items ++ map (program_note l.input) (drop l.number-index l.changed) ≡ l.initial.notes.items
    ++ map (program_note l.input) l.changed
