use Rattle.packet_times.proofs.ClockCounts.{count_law, inaccuracy_law, interval_law}
use Rattle.packet_times.proofs.laws.clocks_by_window.Goals as goal

pub returns-clause-counts : goal.returns-clause-counts
returns-clause-counts c = count_law

pub returns-clause-intervals : goal.returns-clause-intervals
returns-clause-intervals c = interval_law

pub returns-clause-inaccuracies : goal.returns-clause-inaccuracies
returns-clause-inaccuracies c = inaccuracy_law
