-- The same place by place: the state has the last place of each PID, and the places that came late.
use Rattle.std.specs.Prelude.{ℕ, ◌-◌, if◌then◌else◌, List, [], ◌∷◌, ◌++◌, nat_eq, Option, Some, None}
use Rattle.std.specs.Map.{lookup}
use Rattle.indexmap.specs.IndexMap.{insert_entry}
use Rattle.monitor.specs.declared.recurrence.LatePacket.{LatePacket}
use Rattle.monitor.specs.Gaps.{is_long}

pub record RecurrenceState : Type 0 where
  pub limit_times_rate : ℕ
  pub last : List (ℕ × ℕ)
  pub late : List LatePacket

abbrev pub no_marks : ℕ → RecurrenceState
no_marks limit_times_rate = record { limit_times_rate = limit_times_rate; last = []; late = [] }

unfoldable pub late_at : ℕ → ℕ → Option ℕ → ℕ → List LatePacket
late_at limit_times_rate pid None packet = []
late_at limit_times_rate pid (Some before) packet = if is_long limit_times_rate (packet - before) then record { pid = pid; packet = packet } ∷ [] else []

abbrev pub marked : RecurrenceState → ℕ → ℕ → RecurrenceState
marked s pid packet = record {
  limit_times_rate = s.limit_times_rate;
  last = insert_entry nat_eq s.last pid packet;
  late = s.late ++ late_at s.limit_times_rate pid (lookup (nat_eq pid) s.last) packet;
}

-- places of PIDs, one after another
unfoldable pub marked_all : RecurrenceState → List (ℕ × ℕ) → RecurrenceState
marked_all s [] = s
marked_all s (place ∷ places) = marked_all (marked s place.0 place.1) places
