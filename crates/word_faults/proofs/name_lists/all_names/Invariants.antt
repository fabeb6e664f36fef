use Rattle.std.proofs.Common.{◌≡◌, ◌++◌, drop, map}
use Rattle.std.specs.Prelude.{option_map}
use Rattle.word_faults.specs.NameLists.{all_names}
use Rattle.word_faults.proofs.name_lists.all_names.Given as goal

abbrev pub invariant-loop-part : goal.invariant-loop-part
invariant-loop-part l =
    option_map (λ rest. l.all.items ++ rest) (all_names (map (λ s. s.now) (drop l.part-index l.parts))) ≡ all_names (map (λ s. s.now) l.parts)
