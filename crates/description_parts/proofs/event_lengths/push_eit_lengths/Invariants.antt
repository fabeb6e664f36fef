use Rattle.std.proofs.Common.{◌≡◌, ◌≤◌, ◌+◌, ◌++◌, map, filter, drop, length}
use Rattle.description_parts.specs.Tables.{is_scheduled, schedule_length}
use Rattle.description_parts.proofs.event_lengths.push_eit_lengths.Given as goal

abbrev pub invariant-loop-program : goal.invariant-loop-program
invariant-loop-program l = record {
  items : l.initial.lengths.items ++ map (schedule_length l.packets) (filter (is_scheduled l.all) l.programs)
      ≡ l.lengths.items ++ map (schedule_length l.packets) (filter (is_scheduled l.all) (drop l.program-index l.programs));
  few : length l.lengths.items ≤ length l.initial.lengths.items + l.program-index;
}
