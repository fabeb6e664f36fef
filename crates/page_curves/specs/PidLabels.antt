-- Labels of PIDs, by the lines so far: the program of each PID and a word for what it carries, the names of programs' services, and all PIDs.
use Rattle.std.specs.Prelude.{ℕ, nat_eq, List, [], ◌++◌, codes, decimal, Option, Some, None}
use Rattle.std.specs.Map.{lookup}
use Rattle.indexmap.specs.IndexMap.{insert_entry}
use Rattle.events.specs.declared.pid_name.PidName.{PidName}
use Rattle.page_curves.specs.declared.pid_labels.PidProgram.{PidProgram}
use Rattle.events.specs.PidNames.{of_pid, word}

-- by PID, by program, and by PID; a name of a service is text of a page
pub record LabelsState : Type 0 where
  pub programs : List (ℕ × PidProgram)
  pub services : List (ℕ × List ℕ)
  pub names : List (ℕ × PidName)

abbrev pub no_labels : LabelsState
no_labels = record { programs = []; services = []; names = [] }

-- the last one counts
abbrev pub with_program : ℕ → PidProgram → LabelsState → LabelsState
with_program pid p l = record { programs = insert_entry nat_eq l.programs pid p; services = l.services; names = l.names }

abbrev pub with_service : ℕ → List ℕ → LabelsState → LabelsState
with_service program name l = record { programs = l.programs; services = insert_entry nat_eq l.services program name; names = l.names }

abbrev pub with_pid : ℕ → PidName → LabelsState → LabelsState
with_pid pid name l = record { programs = l.programs; services = l.services; names = insert_entry nat_eq l.names pid name }

-- the number of the program of a PID, 0 if none is known
unfoldable pub number_of : Option PidProgram → ℕ
number_of None = 0
number_of (Some p) = p.program

abbrev pub program_number : LabelsState → ℕ → ℕ
program_number l pid = number_of (lookup (nat_eq pid) l.programs)

-- `, NAME`, if a name is known
unfoldable pub service_text : Option (List ℕ) → List ℕ
service_text None = []
service_text (Some name) = codes ", " ++ name

abbrev pub program_text : ℕ → List ℕ
program_text program = codes " (program " ++ (decimal program ++ codes ")")

-- `WORD, NAME (program N)`, or another name's word if no program is known
unfoldable pub carried_text : LabelsState → PidName → Option PidProgram → List ℕ
carried_text l name None = word name
carried_text l name (Some p) = word p.name ++ (service_text (lookup (nat_eq p.program) l.services) ++ program_text p.program)

abbrev pub carried_or : LabelsState → ℕ → PidName → List ℕ
carried_or l pid name = carried_text l name (lookup (nat_eq pid) l.programs)

-- what a PID carries
unfoldable pub label_text : LabelsState → ℕ → List ℕ
label_text l pid = carried_or l pid (of_pid pid)

-- a PID and what it carries
unfoldable pub pid_text : LabelsState → ℕ → PidName → List ℕ
pid_text l pid name = codes "PID " ++ (decimal pid ++ (codes " " ++ carried_or l pid name))
