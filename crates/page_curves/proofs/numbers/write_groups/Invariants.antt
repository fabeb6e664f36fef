use Rattle.std.proofs.Common.{◌≡◌, ◌++◌, drop, string_bytes}
use Rattle.std.specs.Prelude.{flat_map}
use Rattle.page_curves.specs.Numbers.{group}
use Rattle.page_curves.proofs.numbers.write_groups.Given as goal

abbrev pub invariant-loop-unit : goal.invariant-loop-unit
invariant-loop-unit l = string_bytes l.text ++ flat_map (group l.value) (drop l.unit-index l.units) ≡ string_bytes l.fn.text
    ++ flat_map (group l.value) l.units
