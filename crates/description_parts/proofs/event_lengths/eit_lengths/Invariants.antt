use Rattle.std.proofs.Common.{◌≡◌, ◌≤◌, ◌*◌, ◌++◌, filter, drop, length}
use Rattle.description_parts.specs.Tables.{is_scheduled, eit_lengths}
use Rattle.description_parts.proofs.event_lengths.eit_lengths.Given as goal

abbrev pub invariant-loop-program : goal.invariant-loop-program
invariant-loop-program l = record {
  items : eit_lengths l.packets (filter (is_scheduled l.all) l.programs)
      ≡ l.lengths.items ++ eit_lengths l.packets (filter (is_scheduled l.all) (drop l.program-index l.programs));
  few : length l.lengths.items ≤ 2 * l.program-index;
}
