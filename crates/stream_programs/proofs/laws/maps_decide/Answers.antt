use Rattle.stream_programs.proofs.laws.maps_decide.Goals as goal
use Rattle.stream_programs.proofs.TablesAlone.{maps_are_all}

pub returns : goal.returns
returns c = maps_are_all
