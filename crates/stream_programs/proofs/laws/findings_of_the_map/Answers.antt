use Rattle.stream_programs.proofs.laws.findings_of_the_map.Goals as goal
use Rattle.stream_programs.proofs.TablesAlone.{of_the_map}

pub returns : goal.returns
returns c = of_the_map
