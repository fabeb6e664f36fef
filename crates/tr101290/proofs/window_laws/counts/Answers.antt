use Rattle.tr101290.proofs.Counted.{clock_law, count_law}
use Rattle.tr101290.proofs.window_laws.counts.Goals as goal

pub returns-clause-packets : goal.returns-clause-packets
returns-clause-packets c = count_law

pub returns-clause-clocks : goal.returns-clause-clocks
returns-clause-clocks c = clock_law
