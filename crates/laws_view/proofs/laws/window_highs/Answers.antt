use Rattle.laws_view.proofs.FirstWindows.{first_high_law}
use Rattle.laws_view.proofs.ClockedWindows.{clocked_first_law, clocked_high_law, clocked_transport_law}
use Rattle.laws_view.proofs.HeldWindows.{timed_high_law}
use Rattle.laws_view.proofs.RateWindows.{rate_high_law, rate_transport_law}
use Rattle.laws_view.proofs.TransportHighs.{timed_transport_law, transport_high_law, transport_without_law, window_transport_law}
use Rattle.laws_view.proofs.WindowHighs.{high_without_law, whole_high_law, window_high_law, window_most_law}
use Rattle.laws_view.proofs.laws.window_highs.Goals as goal

pub returns-clause-counted : goal.returns-clause-counted
returns-clause-counted c = window_most_law

pub returns-clause-main : goal.returns-clause-main
returns-clause-main c = window_high_law

pub returns-clause-whole : goal.returns-clause-whole
returns-clause-whole c = whole_high_law

pub returns-clause-without : goal.returns-clause-without
returns-clause-without c = high_without_law

pub returns-clause-timed : goal.returns-clause-timed
returns-clause-timed c = timed_high_law

pub returns-clause-report : goal.returns-clause-report
returns-clause-report c = rate_high_law

pub returns-clause-clocked : goal.returns-clause-clocked
returns-clause-clocked c = clocked_high_law

pub returns-clause-first : goal.returns-clause-first
returns-clause-first c = first_high_law

pub returns-clause-clocked_first : goal.returns-clause-clocked_first
returns-clause-clocked_first c = clocked_first_law

pub returns-clause-counted_transport : goal.returns-clause-counted_transport
returns-clause-counted_transport c = window_transport_law

pub returns-clause-transport : goal.returns-clause-transport
returns-clause-transport c = transport_high_law

pub returns-clause-without_transport : goal.returns-clause-without_transport
returns-clause-without_transport c = transport_without_law

pub returns-clause-timed_transport : goal.returns-clause-timed_transport
returns-clause-timed_transport c = timed_transport_law

pub returns-clause-rate_transport : goal.returns-clause-rate_transport
returns-clause-rate_transport c = rate_transport_law

pub returns-clause-clocked_transport : goal.returns-clause-clocked_transport
returns-clause-clocked_transport c = clocked_transport_law
