use Rattle.std.proofs.Common.{◌≡◌, map}
use Rattle.std.specs.List.{range_with_len}
use Rattle.changed_texts.specs.Versions as spec
use Rattle.changed_texts.proofs.versions.changed.Given as goal

abbrev pub invariant-loop-number : goal.invariant-loop-number
invariant-loop-number l = l.changed.items ≡ map (spec.changed l.now l.texts l.moment) (range_with_len 0 l.number)
