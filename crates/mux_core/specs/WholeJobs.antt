-- A whole job: all units are fed before the first slot, and then a number of slots is written.
use Rattle.std.specs.Prelude.{◌≡◌, ◌≤◌, ◌^◌, ℕ, zero, suc, ◌+◌, min, max, nat_lt, Bool, if◌then◌else◌, List, [], ◌∷◌, ◌++◌, length, take, slice_get, Option}
use Rattle.std.specs.Prelude.{Some, None, Result, Ok, Err, ⊤}
use Rattle.std.specs.Io.KnownBytes.{Appends}
use Rattle.pes_packet.specs.AccessUnits.{AccessUnit}
use Rattle.pes_packet.specs.Units.{units_of}
use Rattle.slot_contents.specs.Contents.{Content, packet_of}
use Rattle.counted_io.specs.Device.{Failed}
use Rattle.slot_plan.specs.Schedule.{single, switched}
use Rattle.plan_checker.specs.Served.{Served}
use Rattle.switch_checker.specs.Followed.{Followed}
use Rattle.unit_queue.specs.declared.refusal.FeedError.{FeedError}
use Rattle.mux_core.specs.Scheduled.{Scheduled}
use Rattle.mux_core.specs.Histories.{History, unchanged, content_over}
use Rattle.mux_core.specs.MuxStates.{MuxState, Represents, feed_cause}
use Rattle.mux_core.specs.NewMux.{is_periods}
use Rattle.mux_core.specs.Buffer.{byte_count, Took}
use Rattle.mux_core.specs.Formats.{formatted}
use Rattle.mux_core.specs.declared.room.Room.{Room}
use Rattle.mux_core.specs.declared.room.Room.TheVariants.{Units}
use Rattle.mux_core.specs.declared.multiplexing.MuxError.{MuxError}
use Rattle.mux_core.specs.declared.multiplexing.MuxError.TheVariants.{TooManySlots, Periods, Feed, Device, Memory}

-- ---- the schedule

-- a checked plan, repeated for ever
abbrev pub plan_schedule : Served → Scheduled
plan_schedule plan = record { description = plan.description; schedule = single plan.plan.slots }

-- the first plan of a checked switch for a number of its periods, then the second
abbrev pub switch_schedule : Followed → ℕ → Scheduled
switch_schedule switch periods = record { description = switch.first.description; schedule = switched switch.first.plan.slots periods switch.second.slots }

-- ---- the units

-- the maximum number of units of one stream, over all streams
unfoldable pub max_stream_units : List (ℕ × AccessUnit) → ℕ
max_stream_units [] = 0
max_stream_units (entry ∷ rest) = max (1 + length (units_of entry.0 rest)) (max_stream_units rest)

-- the room for the units of a stream: this maximum, at least 1 and at most 1,048,576
abbrev pub capacity_for : List (ℕ × AccessUnit) → Room
capacity_for units = Units (min (max 1 (max_stream_units units)) 1048576)

-- the history with all these units accepted and `slots` slots written
abbrev pub job_history : List (ℕ × AccessUnit) → ℕ → History
job_history units slots = record { units = λ k. units_of k units; changes = unchanged; slots = slots }

-- ---- why nothing is written

-- the first of two causes
unfoldable pub or_cause : Option MuxError → Option MuxError → Option MuxError
or_cause (Some cause) next = Some cause
or_cause None next = next

-- a run has at most 2^40 slots
abbrev pub slots_cause : ℕ → Option MuxError
slots_cause slots = if nat_lt (2 ^ 40) slots then Some TooManySlots else None

-- the first plan, of this period, runs for at least one period, and for at most 2^40 slots
abbrev pub periods_cause : ℕ → ℕ → Option MuxError
periods_cause period periods = if is_periods period periods then None else Some Periods

-- the unit of this index is refused
unfoldable pub unit_refused : ℕ → Option FeedError → Option MuxError
unit_refused index None = None
unit_refused index (Some cause) = Some (Feed index cause)

-- the first cause in the numbers of a switch: its slots, then its periods
abbrev pub switch_slots_cause : Followed → ℕ → ℕ → Option MuxError
switch_slots_cause switch periods slots = or_cause (slots_cause slots) (periods_cause (length switch.first.plan.slots) periods)

-- why a unit is refused after these were accepted, before the first slot
abbrev pub cause_after : Scheduled → Room → List (ℕ × AccessUnit) → ℕ × AccessUnit → Option FeedError
cause_after d capacity fed entry = feed_cause d capacity (job_history fed 0) entry.0 entry.1 (slice_get d.description.streams entry.0)

-- the first refused unit and its cause, after the units of `fed` were accepted
unfoldable pub first_refused : Scheduled → Room → List (ℕ × AccessUnit) → List (ℕ × AccessUnit) → Option MuxError
first_refused d capacity fed [] = None
first_refused d capacity fed (entry ∷ rest) =
    or_cause (unit_refused (length fed) (cause_after d capacity fed entry)) (first_refused d capacity (fed ++ (entry ∷ [])) rest)

-- all units were fed to a multiplexer with an empty history: it represents their history, or the answer names the first refused unit
pub record AllFed (old : MuxState) (units : List (ℕ × AccessUnit)) (new : MuxState) : Type 0 where
  pub none_refused : first_refused old.schedule old.capacity [] units ≡ None
  pub represents : Represents (job_history units 0) new
  pub same_schedule : new.schedule ≡ old.schedule

abbrev pub FeedsAll : MuxState → List (ℕ × AccessUnit) → Result (Unit {0}) (ℕ × FeedError) → MuxState → Type 0
FeedsAll old units (Ok x) new = AllFed old units new
FeedsAll old units (Err e) new = first_refused old.schedule old.capacity [] units ≡ Some (Feed e.0 e.1)

-- the cause for a job: a cause in its numbers, otherwise the first refused unit
abbrev pub job_cause : Option MuxError → Scheduled → List (ℕ × AccessUnit) → Option MuxError
job_cause early d units = or_cause early (first_refused d (capacity_for units) [] units)

-- the room of a job is enough: the same units are refused as if 1,048,576 units of each stream might wait
abbrev pub RoomForAll : Type 0
RoomForAll = (d : Scheduled) (units : List (ℕ × AccessUnit)) → first_refused d (capacity_for units) [] units ≡ first_refused d (Units 1048576) [] units

-- the answer, if `early` is the cause in the numbers of the job and `cause` the cause of the whole job: the cause, if any; out of memory only if the numbers
-- are right
abbrev pub Refuses : Option MuxError → Option MuxError → Result ℕ MuxError → Type 0
Refuses early cause (Ok sent) = cause ≡ None
Refuses early cause (Err TooManySlots) = cause ≡ Some TooManySlots
Refuses early cause (Err Periods) = cause ≡ Some Periods
Refuses early cause (Err (Feed index refused)) = cause ≡ Some (Feed index refused)
Refuses early cause (Err (Device sent)) = cause ≡ None
Refuses early cause (Err Memory) = early ≡ None

-- ---- the output

-- the output of the next n slots from slot s on: their packets, or a line of digits for each
unfoldable pub run_output : Bool → (ℕ → Content) → ℕ → ℕ → List ℕ
run_output hex content s zero = []
run_output hex content s (suc n) = formatted hex (packet_of (content s)) ++ run_output hex content (suc s) n

-- the output of a history
abbrev pub output_of : Bool → Scheduled → History → List ℕ
output_of hex d h = run_output hex (content_over d h.changes h.units) 0 h.slots

-- the number of output bytes for a slot
abbrev pub slot_size : Bool → ℕ
slot_size hex = if hex then 377 else 188

-- what the writer took of an output: all of it, exactly its first `sent` bytes, or nothing
abbrev pub Writes : List ℕ → Option (List ℕ) → Option (List ℕ) → Result ℕ MuxError → Type 0
Writes out old new (Ok sent) = Appends old new out
Writes out old new (Err (Device sent)) = (sent ≤ length out) × Appends old new (take sent out)
Writes out old new (Err TooManySlots) = new ≡ old
Writes out old new (Err Periods) = new ≡ old
Writes out old new (Err (Feed index cause)) = new ≡ old
Writes out old new (Err Memory) = new ≡ old

-- all of an output was written, or exactly its first bytes; counts stop at 2^64 - 1
abbrev pub WritesAll : List ℕ → Option (List ℕ) → Option (List ℕ) → Result ℕ MuxError → Type 0
WritesAll out old new (Ok sent) = (sent ≡ byte_count (length out)) × Appends old new out
WritesAll out old new (Err (Device sent)) = Took old new sent out
WritesAll out old new (Err TooManySlots) = ⊥
WritesAll out old new (Err Periods) = ⊥
WritesAll out old new (Err (Feed index cause)) = ⊥
WritesAll out old new (Err Memory) = ⊥

-- a claim about the output, for each answer after which part of it may have been written
abbrev pub OnWriting : Result ℕ MuxError → Type 0 → Type 0
OnWriting (Ok sent) claim = claim
OnWriting (Err (Device sent)) claim = claim
OnWriting (Err TooManySlots) claim = ⊤
OnWriting (Err Periods) claim = ⊤
OnWriting (Err (Feed index cause)) claim = ⊤
OnWriting (Err Memory) claim = ⊤

-- the writer is named exactly if a call of it failed
abbrev pub NamesWriter : Result ℕ MuxError → ℕ → ℕ → Type 0
NamesWriter (Ok sent) old new = new ≡ old
NamesWriter (Err (Device sent)) old new = Failed old new
NamesWriter (Err TooManySlots) old new = new ≡ old
NamesWriter (Err Periods) old new = new ≡ old
NamesWriter (Err (Feed index cause)) old new = new ≡ old
NamesWriter (Err Memory) old new = new ≡ old
