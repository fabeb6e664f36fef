use Rattle.laws_view.proofs.ClockedStreams.{clocked_stream_law}
use Rattle.laws_view.proofs.TimedOrder.{rate_order_law}
use Rattle.laws_view.proofs.TimedWhole.{timed_stream_law}
use Rattle.laws_view.proofs.laws.timed_streams.Goals as goal

pub returns-clause-timed : goal.returns-clause-timed
returns-clause-timed c = timed_stream_law

pub returns-clause-rate : goal.returns-clause-rate
returns-clause-rate c = rate_order_law

pub returns-clause-clocked : goal.returns-clause-clocked
returns-clause-clocked c = clocked_stream_law
