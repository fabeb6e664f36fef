-- The sections of one table, one after another.
use Rattle.std.specs.Prelude.{ℕ, ◌==◌, ◌&&◌, if◌then◌else◌}
use Rattle.monitor.specs.Recurrences.{RecurrenceState, marked, no_marks}

pub record TableState : Type 0 where
  pub pid : ℕ
  pub table_id : ℕ
  pub marks : RecurrenceState

abbrev pub new_watch : ℕ → ℕ → ℕ → TableState
new_watch pid table_id limit_times_rate = record { pid = pid; table_id = table_id; marks = no_marks limit_times_rate }

abbrev pub table_marked : TableState → ℕ → TableState
table_marked s packet = record { pid = s.pid; table_id = s.table_id; marks = marked s.marks s.pid packet }

abbrev pub watched : TableState → ℕ → ℕ → ℕ → TableState
watched s pid table_id packet = if (pid == s.pid) && (table_id == s.table_id)
    then record { pid = s.pid; table_id = s.table_id; marks = marked s.marks pid packet } else s
