use Rattle.std.proofs.Common.{◌≡◌, ◌+◌, drop, map}
use Rattle.diagnosis.specs.UnknownWords.{document, unknown_row}
use Rattle.diagnosis.proofs.unknown_words.unknown_row.Given as goal

abbrev pub invariant-loop-i : goal.invariant-loop-i
invariant-loop-i l =
    unknown_row document 1 (map (λ s. s.now) l.lines) ≡ unknown_row l.part (l.i + 1) (map (λ s. s.now) (drop l.i l.lines))
