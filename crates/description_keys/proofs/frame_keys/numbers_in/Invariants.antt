use Rattle.std.proofs.Common.{◌≡◌, ◌≤◌, map, take, length}
use Rattle.std.specs.List.{filter_map}
use Rattle.toml.specs.View.{view}
use Rattle.description_keys.specs.StreamKeys.{bytes_in}
use Rattle.description_keys.proofs.frame_keys.numbers_in.Given as goal

abbrev pub invariant-loop-value : goal.invariant-loop-value
invariant-loop-value l = record {
  items : l.numbers.items ≡ filter_map (bytes_in (view l.stream)) (map view (take l.value-index l.values));
  few : length l.numbers.items ≤ l.value-index;
}
