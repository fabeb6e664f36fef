use Rattle.std.proofs.Common.{◌≡◌, ◌++◌, drop, map}
use Rattle.std.specs.Prelude.{option_map}
use Rattle.word_faults.specs.Lists.{all_buffers}
use Rattle.word_faults.proofs.lists.all_buffers.Given as goal

abbrev pub invariant-loop-part : goal.invariant-loop-part
invariant-loop-part l =
    option_map (λ rest. l.all.items ++ rest) (all_buffers (map (λ s. s.now) (drop l.part-index l.parts))) ≡ all_buffers (map (λ s. s.now) l.parts)
