use Rattle.std.proofs.Common.{◌≡◌, ◌≤◌, map, take, length}
use Rattle.std.specs.List.{filter_map}
use Rattle.toml.specs.View.{view}
use Rattle.description_keys.specs.StreamKeys.{number_in}
use Rattle.description_keys.proofs.sharers.numbers_in.Given as goal

abbrev pub invariant-loop-value : goal.invariant-loop-value
invariant-loop-value l = record {
  items : l.numbers.items ≡ filter_map number_in (map view (take l.value-index l.values));
  few : length l.numbers.items ≤ l.value-index;
}
