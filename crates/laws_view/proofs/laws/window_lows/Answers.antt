use Rattle.laws_view.proofs.FirstWindows.{first_window_law}
use Rattle.laws_view.proofs.HeldWindows.{timed_window_law, timed_without_law}
use Rattle.laws_view.proofs.RateWindows.{held_window_law, rate_without_law}
use Rattle.laws_view.proofs.WindowLows.{whole_window_law, window_least_law, window_low_law, window_without_law}
use Rattle.laws_view.proofs.laws.window_lows.Goals as goal

pub returns-clause-counted : goal.returns-clause-counted
returns-clause-counted c = window_least_law

pub returns-clause-low : goal.returns-clause-low
returns-clause-low c = window_low_law

pub returns-clause-whole : goal.returns-clause-whole
returns-clause-whole c = whole_window_law

pub returns-clause-without : goal.returns-clause-without
returns-clause-without c = window_without_law

pub returns-clause-timed : goal.returns-clause-timed
returns-clause-timed c = timed_window_law

pub returns-clause-timed_without : goal.returns-clause-timed_without
returns-clause-timed_without c = timed_without_law

pub returns-clause-first : goal.returns-clause-first
returns-clause-first c = first_window_law

pub returns-clause-report : goal.returns-clause-report
returns-clause-report c = held_window_law

pub returns-clause-report_without : goal.returns-clause-report_without
returns-clause-report_without c = rate_without_law
