-- The PIDs of a program as a list.
use Rattle.std.specs.Prelude.{ℕ, ◌==◌, if◌then◌else◌, List, [], ◌++◌, codes, decimal, flat_map}
use Rattle.events.specs.declared.pid_name.PidName.{PidName}
use Rattle.events.specs.PidNames.{word}
use Rattle.page_curves.specs.PidLabels.{LabelsState, program_number}
use Rattle.page_charts.specs.Stacks.{program_text}

-- a PID and what it carries
unfoldable pub item : ℕ → PidName → List ℕ
item pid name = codes "<li>PID " ++ (decimal pid ++ (codes " " ++ (word name ++ codes "\n")))

-- a PID of a program; 0: of none
abbrev pub item_if : LabelsState → ℕ → ℕ × PidName → List ℕ
item_if l program e = if program_number l e.0 == program then item e.0 e.1 else []

-- a program, with the PIDs that are of it in the end
unfoldable pub branch : LabelsState → ℕ → List ℕ
branch l program =
    codes "<li>" ++ (program_text l program ++ (codes "<ul>\n" ++ (flat_map (item_if l program) l.names ++ codes "</ul>\n")))
