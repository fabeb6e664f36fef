use Rattle.std.proofs.Common.{◌≡◌, ◌++◌, map, take, drop}
use Rattle.std.specs.Prelude.{flat_map}
use Rattle.system_tables.specs.Programs.{entered, excesses_in}
use Rattle.system_tables.proofs.system_tables.take_each.Given as goal

abbrev pub invariant-loop-at : goal.invariant-loop-at
invariant-loop-at l = record {
  programs : l.programs ≡ map (entered l.arrival l.index l.pid) (take l.at l.fn.programs) ++ drop l.at l.fn.programs;
  excesses : l.excesses.items ++ flat_map (excesses_in l.arrival l.index l.pid) (drop l.at l.fn.programs)
      ≡ l.fn.excesses.items ++ flat_map (excesses_in l.arrival l.index l.pid) l.fn.programs;
}
