-- One line-up after another on air: a description and a plan take the place of others between two slots. What each slot carries, and which line-up may follow
-- those before it.
use Rattle.std.specs.Prelude.{◌≡◌, ◌≢◌, ◌⊎◌, ◌≤◌, ℕ, Bool, true, false, nat_lt, cond, List, [], ◌∷◌, Some, ⊤}
use Rattle.ts_packet.specs.PidList.{pid_list}
use Rattle.slot_contents.specs.Contents.{Content, run_bytes}
use Rattle.description_parts.specs.Ranges.{IsInRange}
use Rattle.slot_plan.specs.declared.slot.Slot.{Slot}
use Rattle.slot_plan.specs.declared.slot.Slot.TheVariants.{Stream, Pcr, Table, Null}
use Rattle.slot_plan.specs.SlotPids.{slot_pid}
use Rattle.slot_plan.specs.Promised.{Promised}
use Rattle.mux_core.specs.Scheduled.{Scheduled}
use Rattle.mux_core.specs.Histories.{History, content_over}
use Rattle.mux_core.specs.Headline.{UnitsKept}

-- a line-up on air: the slot from which on it is in force, its description with its schedule, and the history of a multiplexer that has this line-up alone,
-- and has it from slot 0 on
pub record Turn : Type 0 where
  pub from : ℕ
  pub scheduled : Scheduled
  pub history : History

abbrev pub turn_with : ℕ → Scheduled → History → Turn
turn_with from d h = record { from = from; scheduled = d; history = h }

-- what each slot of that history carries
abbrev pub content_of : Turn → ℕ → Content
content_of turn slot = content_over turn.scheduled turn.history.changes turn.history.units slot

-- the turn in force in a slot. `now` is in force from its first slot on, `earlier` are those before it, the last one first
abbrev pub turn_at : Turn → List Turn → ℕ → Turn
turn_at now [] slot = now
turn_at now (before ∷ earlier) slot = cond (nat_lt slot now.from) (turn_at before earlier slot) now

-- what each slot carries: what the turn in force there has in it
abbrev pub content_by : Turn → List Turn → ℕ → Content
content_by now earlier slot = content_of (turn_at now earlier slot) slot

-- the bytes of the first slots, and those of the history of a turn alone
abbrev pub bytes_by : Turn → List Turn → ℕ → List ℕ
bytes_by now earlier slots = run_bytes (content_by now earlier) 0 slots

abbrev pub own_bytes : Turn → ℕ → List ℕ
own_bytes turn slots = run_bytes (content_of turn) 0 slots

-- ---- PIDs

-- something that a slot may carry has the PID, or nothing has
abbrev pub IsOn : Turn → ℕ → Type 0
IsOn turn pid = (slot : Slot) × (slot_pid turn.scheduled.description slot ≡ Some pid)

abbrev pub IsOff : Turn → ℕ → Type 0
IsOff turn pid = (slot : Slot) → slot_pid turn.scheduled.description slot ≢ Some pid

abbrev pub AreOff : List Turn → ℕ → Type 0
AreOff [] pid = ⊤
AreOff (turn ∷ turns) pid = IsOff turn pid × AreOff turns pid

-- the slot from which on a PID is on air
abbrev pub ComesAt : ℕ → Turn → List Turn → ℕ → Type 0
ComesAt pid now [] at = at ≡ now.from
ComesAt pid now (before ∷ earlier) at = (IsOn before pid × ComesAt pid before earlier at) ⊎ (IsOff before pid × (at ≡ now.from))

abbrev pub is_clock : Slot → Bool
is_clock (Stream k) = false
is_clock (Pcr i) = true
is_clock (Table t) = false
is_clock Null = false

-- ---- which line-up may follow

-- the line-up before has the same on the PID: clock references, or streams or tables, with the same packets before this turn
pub record StaysOn (now before : Turn) (pid : ℕ) (slot : Slot) : Type 0 where
  pub slot_before : Slot
  pub named : slot_pid before.scheduled.description slot_before ≡ Some pid
  pub clock : is_clock slot_before ≡ is_clock slot
  pub same : pid_list pid (own_bytes before now.from) ≡ pid_list pid (own_bytes now now.from)

-- no line-up before has the PID, and in its own history nothing but clock references is on it before this turn
pub record ComesOn (now : Turn) (earlier : List Turn) (pid : ℕ) (slot : Slot) : Type 0 where
  pub off : AreOff earlier pid
  pub silent : is_clock slot ≡ false → pid_list pid (own_bytes now now.from) ≡ []

-- a turn follows: whatever it has on a PID stays or comes
pub record Follows (now before : Turn) (earlier : List Turn) : Type 0 where
  pub later : before.from ≤ now.from
  pub pids : (pid : ℕ) (slot : Slot) → slot_pid now.scheduled.description slot ≡ Some pid →
      StaysOn now before pid slot ⊎ ComesOn now (before ∷ earlier) pid slot

-- the plan of a turn serves its description, and its units were accepted
pub record IsKept (turn : Turn) : Type 0 where
  pub ranges : IsInRange turn.scheduled.description
  pub promised : Promised turn.scheduled.description turn.scheduled.schedule
  pub units : UnitsKept turn.scheduled turn.history.units

-- each turn follows those before it, and the first one begins with the run
abbrev pub TurnsFit : Turn → List Turn → Type 0
TurnsFit now [] = IsKept now × (now.from ≡ 0)
TurnsFit now (before ∷ earlier) = IsKept now × (Follows now before earlier × TurnsFit before earlier)
