use Rattle.std.proofs.Common.{◌≡◌, map, take}
use Rattle.tsjob_cli.specs.StreamedUnits.{map_of}
use Rattle.tsjob_cli.proofs.streaming.program_maps.Given as goal

abbrev pub invariant-loop-program : goal.invariant-loop-program
invariant-loop-program l = l.maps.items ≡ map (map_of l.streams) (take l.program-index l.programs)
