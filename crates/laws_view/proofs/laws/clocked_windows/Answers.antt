use Rattle.laws_view.proofs.ClockedTables.{clocked_tables_law}
use Rattle.laws_view.proofs.ClockedWindows.{clocked_window_law, clocked_without_law}
use Rattle.laws_view.proofs.laws.clocked_windows.Goals as goal

pub returns-clause-tables : goal.returns-clause-tables
returns-clause-tables c = clocked_tables_law

pub returns-clause-window : goal.returns-clause-window
returns-clause-window c = clocked_window_law

pub returns-clause-without : goal.returns-clause-without
returns-clause-without c = clocked_without_law
