use Rattle.std.proofs.Common.{◌≡◌, drop}
use Rattle.psi_tables.specs.ProgramMap.{streams_of}
use Rattle.fed_streams.specs.Maps.{first_other}
use Rattle.fed_streams.proofs.fed_map.first_other.Given as goal

abbrev pub invariant-loop-one : goal.invariant-loop-one
invariant-loop-one l = first_other (streams_of l.streams) l.named ≡ first_other (streams_of l.streams) (drop l.one-index l.named)
