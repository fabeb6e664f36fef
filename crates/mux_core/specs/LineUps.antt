-- A description and a plan that take the place of those on air, between two slots. What stays has its own slots as before, so the run goes on as a run does in
-- which the new ones were on air from slot 0 on: only what the tables carried before is of the past.
use Rattle.std.specs.Prelude.{◌≡◌, ◌⊎◌, ◌<◌, ℕ, ◌+◌, ◌-◌, ◌*◌, ◌/◌, ◌&&◌, Bool, false, true, nat_lt, List, [], length, find, Option, Some, None, slice_get, option_map}
use Rattle.std.specs.Prelude.{option_and_then, Result, Ok, Err}
use Rattle.std.specs.List.{range_with_len}
use Rattle.std.specs.Option.{option_or}
use Rattle.clock27.specs.Units.{slot_seconds_at_1bps}
use Rattle.pes_packet.specs.AccessUnits.{AccessUnit}
use Rattle.ts_packet.specs.PidList.{pid_list}
use Rattle.description_parts.specs.Described.{Described, DescribedStream}
use Rattle.description_parts.specs.Tables.{table_count, table_pid}
use Rattle.slot_plan.specs.Schedule.{single}
use Rattle.plan_checker.specs.Served.{Served}
use Rattle.line_ups.specs.Kept.{slot_with, is_null, stream_before, table_before, is_gone}
use Rattle.line_ups.specs.Faults.{line_up_fault}
use Rattle.line_ups.specs.Versions.{follow_versions}
use Rattle.mux_core.specs.Scheduled.{Scheduled}
use Rattle.mux_core.specs.Histories.{Past, TextsSoFar, FirstTexts, History, past_of, from_of, first_of, last_texts, start_over, bytes_over, bytes_of}
use Rattle.mux_core.specs.TextChanges.{sent_of, events_moment}
use Rattle.mux_core.specs.MuxStates.{MuxState, Represents, waiting_of}
use Rattle.mux_core.specs.declared.line_up.TakeOverError.{TakeOverError}
use Rattle.mux_core.specs.declared.line_up.TakeOverError.TheVariants as error

-- a description with its plan, which is repeated
abbrev pub scheduled_by : Served → Scheduled
scheduled_by served = record { description = served.description; schedule = single served.plan.slots }

-- the description and the plan of a run of one plan; what the plan claims does not count
abbrev pub served_by : Scheduled → Served
served_by d = record {
  description = d.description;
  plan = record { slots = d.schedule.first; certificate = record { streams = []; programs = [] } };
}

-- ---- what was before

-- the units of a stream of the new description: those of the stream that it was, none of a stream that comes
abbrev pub units_over : Described → Described → (ℕ → List AccessUnit) → ℕ → List AccessUnit
units_over old new units k = elim (stream_before old new k) [ None ↦ [] | Some i ↦ units i ]

-- the moment at which a slot begins
abbrev pub moment_in : Described → ℕ → ℕ
moment_in d slot = d.start + slot * slot_seconds_at_1bps / d.rate

-- a table that stays is on air since it came, one that comes from the next slot on
abbrev pub from_before : Described → Described → TextsSoFar → ℕ → ℕ → Option ℕ
from_before old new changes slots t = elim (table_before old new t) [ None ↦ Some slots | Some i ↦ from_of (past_of changes) i ]

-- the moments of the rounds so far: those of the table that it was; of a table that comes the moment at which it comes
abbrev pub first_before : Described → Described → TextsSoFar → ℕ → ℕ → ℕ
first_before old new changes slots t = elim (table_before old new t) [ None ↦ moment_in new slots | Some i ↦ first_of (past_of changes) old i ]

abbrev pub start_before : Described → Described → TextsSoFar → ℕ → ℕ → ℕ → ℕ
start_before old new changes slots t slot = elim (table_before old new t) [
  | None ↦ moment_in new slots - slot * slot_seconds_at_1bps / new.rate
  | Some i ↦ start_over old changes i slot
]

-- the bytes of the sections so far: those of the table that it was, none of a table that comes
abbrev pub bytes_before : Described → Described → TextsSoFar → ℕ → ℕ → ℕ → ℕ → List ℕ
bytes_before old new changes t slot j moment = elim (table_before old new t) [ None ↦ [] | Some i ↦ bytes_over old changes i slot j moment ]

-- the past of a new description that comes on air in the next slot: each of its sub-tables that was on air has a version that follows the one sent
abbrev pub next_past : Scheduled → History → Described → Past
next_past d h new = record {
  until = h.slots;
  from = from_before d.description new h.changes h.slots;
  first = first_before d.description new h.changes h.slots;
  start = start_before d.description new h.changes h.slots;
  bytes = bytes_before d.description new h.changes;
  texts = λ e. follow_versions (last_texts d.description h.changes) e (events_moment d h.changes h.slots) (sent_of d h);
}

-- the history of the new description
abbrev pub next_history : Scheduled → History → Described → History
next_history d h new = record {
  units = units_over d.description new h.units;
  changes = FirstTexts (Some (next_past d h new));
  slots = h.slots;
}

-- ---- refusals

-- some unit waits
abbrev pub some_wait : Option ℕ → Bool
some_wait None = false
some_wait (Some units) = nat_lt 0 units

-- a stream goes although a unit of it waits
abbrev pub goes_waiting : Scheduled → History → Described → ℕ → Bool
goes_waiting d h new i = is_gone d.description new i && some_wait (waiting_of d h i)

abbrev pub pid_at : Described → ℕ → Option ℕ
pid_at d i = option_map (λ s. s.pid) (slice_get d.streams i)

-- the PID of the first such stream
abbrev pub waiting_pid : Scheduled → History → Described → Option ℕ
waiting_pid d h new = option_and_then (pid_at d.description) (find (goes_waiting d h new) (range_with_len 0 (length d.description.streams)))

-- why a description and a plan may not take the place of those of a run of one plan, except out of memory: the first fault of the line-up, or a stream that
-- goes too early
abbrev pub line_up_cause : Scheduled → History → Served → Option TakeOverError
line_up_cause d h next =
    option_or (option_map error.Fault (line_up_fault (served_by d) next)) (option_map error.Waiting (waiting_pid d h next.description))

-- the cause in an answer
abbrev pub take_over_refusal : Result (Unit {0}) TakeOverError → Option TakeOverError
take_over_refusal (Ok x) = None
take_over_refusal (Err cause) = Some cause

-- if there is a cause, the answer is this cause; otherwise the only possible refusal is out of memory
abbrev pub JudgesLineUp : Option TakeOverError → Option TakeOverError → Type 0
JudgesLineUp (Some cause) refused = refused ≡ Some cause
JudgesLineUp None refused = (refused ≡ None) ⊎ (refused ≡ Some error.Memory)

-- ---- the effect

-- the effect of a change of the line-up
pub record TakesOver (h : History) (old : MuxState) (next : Served) (refused : Option TakeOverError) (new : MuxState) : Type 0 where
  -- the answer is the first cause, or out of memory
  pub first : JudgesLineUp (line_up_cause old.schedule h next) refused
  -- the new line-up is in force from the next slot on
  pub represents : refused ≡ None → Represents (next_history old.schedule h next.description) new
  pub schedule : refused ≡ None → new.schedule ≡ scheduled_by next
  pub same_capacity : new.capacity ≡ old.capacity

-- the bytes that the new line-up would have written so far
abbrev pub bytes_by : Scheduled → History → Served → List ℕ
bytes_by d h next = bytes_of (scheduled_by next) (next_history d h next.description)

-- what stays is untouched: on a PID that both have, the packets that were written are those of the new line-up
abbrev pub UntouchedOver : Scheduled → History → Served → Type 0
UntouchedOver d h next = (pid : ℕ) → is_null (slot_with d.description pid) ≡ false → is_null (slot_with next.description pid) ≡ false →
    pid_list pid (bytes_of d h) ≡ pid_list pid (bytes_by d h next)

-- a stream, and a table, that comes has no packet before
pub record SilentBefore (d : Scheduled) (h : History) (next : Served) : Type 0 where
  pub streams : (k : ℕ) (s : DescribedStream) → slice_get next.description.streams k ≡ Some s → stream_before d.description next.description k ≡ None →
      pid_list s.pid (bytes_by d h next) ≡ []
  pub tables : (t : ℕ) → t < table_count next.description → table_before d.description next.description t ≡ None →
      pid_list (table_pid next.description t) (bytes_by d h next) ≡ []

-- what goes is whole: each unit that was accepted has left
abbrev pub WholeGone : Scheduled → History → Described → Type 0
WholeGone d h new = (i : ℕ) → i < length d.description.streams → is_gone d.description new i ≡ true → waiting_of d h i ≡ Some 0
