use Rattle.std.proofs.Common.{◌≡◌, ◌+◌, drop, map}
use Rattle.diagnosis.specs.TomlNotes.{row_at}
use Rattle.diagnosis.proofs.toml_note.row_at.Given as goal

abbrev pub invariant-loop-i : goal.invariant-loop-i
invariant-loop-i l = row_at l.place 1 (map (λ s. s.now) l.lines) ≡ row_at l.left (l.i + 1) (map (λ s. s.now) (drop l.i l.lines))
