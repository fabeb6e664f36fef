use Rattle.std.proofs.Common.{◌≡◌, ◌≤◌, ◌*◌, ◌++◌, length, map, drop}
use Rattle.toml.specs.View.{view}
use Rattle.description_parts.specs.Channels.{channel_entries}
use Rattle.description_parts.proofs.channels.entries_of.Given as goal

abbrev pub invariant-loop-program : goal.invariant-loop-program
invariant-loop-program l = record {
  few : length l.out.items ≤ 4 * l.program-index;
  read : channel_entries (map view l.programs) ≡ l.out.items ++ channel_entries (map view (drop l.program-index l.programs));
}
