use Rattle.std.proofs.Common.{◌≡◌, ◌++◌, drop, map, string_bytes}
use Rattle.job_run.specs.InputLines.{note_lines}
use Rattle.job_run.proofs.input_lines.write_notes.Given as goal

abbrev pub invariant-loop-note : goal.invariant-loop-note
invariant-loop-note l =
    string_bytes l.text ++ note_lines (map (λ s. s.now) l.names) (drop l.note-index l.notes)
    ≡ string_bytes l.fn.text ++ note_lines (map (λ s. s.now) l.names) l.notes
