use Rattle.description.proofs.Pids.{stream_range, program_range}
use Rattle.description.proofs.laws.ranges.Goals as goal

pub returns-clause-streams : goal.returns-clause-streams
returns-clause-streams c = stream_range

pub returns-clause-programs : goal.returns-clause-programs
returns-clause-programs c = program_range
