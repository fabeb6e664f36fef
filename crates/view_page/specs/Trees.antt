-- All programs and their PIDs as a list.
use Rattle.std.specs.Prelude.{ℕ, ◌==◌, if◌then◌else◌, List, [], ◌++◌, codes, flat_map}
use Rattle.page_charts.specs.Branches.{branch}
use Rattle.page_curves.specs.PidLabels.{LabelsState}
use Rattle.view_page.specs.declared.services.ProgramRate.{ProgramRate}

-- 0 is no program
abbrev pub branch_if : LabelsState → ℕ → List ℕ
branch_if labels program = if program == 0 then [] else branch labels program

abbrev pub entry_branch : LabelsState → ℕ × ProgramRate → List ℕ
entry_branch labels e = branch_if labels e.0

-- each program in the order of the first line of each, then the PIDs of no program
unfoldable pub tree : LabelsState → List (ℕ × ProgramRate) → List ℕ
tree labels programs = flat_map (entry_branch labels) programs ++ (branch labels 0 ++ codes "</ul>\n")
