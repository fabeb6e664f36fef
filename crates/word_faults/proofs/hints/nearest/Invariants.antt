use Rattle.std.proofs.Common.{◌≡◌, None, drop, map, option_map}
use Rattle.std.specs.Prelude.{string_bytes}
use Rattle.word_faults.specs.Hints.{nearest_from}
use Rattle.word_faults.proofs.hints.nearest.Given as goal

abbrev pub invariant-loop-other : goal.invariant-loop-other
invariant-loop-other l =
    nearest_from l.word None (map (λ s. string_bytes s) l.others)
    ≡ nearest_from l.word (option_map (λ s. s.now) l.best) (map (λ s. string_bytes s) (drop l.other-index l.others))
