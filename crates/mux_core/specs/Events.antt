-- Units fed and slots written in any order, and the resulting history.
use Rattle.std.specs.Prelude.{◌≡◌, ◌^◌, ℕ, nat_lt, cond, List, [], ◌∷◌, ◌++◌, slice_get, Option, Some, None}
use Rattle.pes_packet.specs.AccessUnits.{AccessUnit}
use Rattle.unit_queue.specs.declared.refusal.FeedError.{FeedError}
use Rattle.mux_core.specs.Scheduled.{Scheduled}
use Rattle.mux_core.specs.declared.room.Room.{Room}
use Rattle.mux_core.specs.Histories.{History, bytes_of, empty_history, next_slot, with_unit}
use Rattle.mux_core.specs.MuxStates.{MuxState, Represents, feed_cause}
use Rattle.mux_core.specs.declared.driving.Event.{Event}
use Rattle.mux_core.specs.declared.driving.Event.TheVariants.{Feed, Slot}

-- an event: a unit is fed to a stream, or a slot is written
pub data Step : Type 0 where
  FeedStep : ℕ → AccessUnit → Step
  SlotStep : Step

abbrev pub shown : {A : Type 0} → Event A → Step
shown (Feed stream unit) = FeedStep stream unit
shown Slot = SlotStep

-- a refused unit is not part of the history
unfoldable pub fed_history : History → ℕ → AccessUnit → Option FeedError → History
fed_history h k u None = with_unit h k u
fed_history h k u (Some cause) = h

-- a history after one event; after 2^40 slots no slot is added
unfoldable pub step_history : Scheduled → Room → History → Step → History
step_history d capacity h (FeedStep k u) = fed_history h k u (feed_cause d capacity h k u (slice_get d.description.streams k))
step_history d capacity h SlotStep = cond (nat_lt h.slots (2 ^ 40)) (next_slot h) h

-- a history after events in their order, if there is this room for units
unfoldable pub history_after : Scheduled → Room → History → List Step → History
history_after d capacity h [] = h
history_after d capacity h (step ∷ rest) = history_after d capacity (step_history d capacity h step) rest

-- the bytes of a history are the bytes of an earlier history followed by the bytes added to an output
pub record Adds (d : Scheduled) (h later : History) (old new : List ℕ) : Type 0 where
  pub added : List ℕ
  pub bytes : bytes_of d later ≡ bytes_of d h ++ added
  pub output : new ≡ old ++ added

-- a multiplexer represents a history, with the same schedule and capacity as before
pub record StillRepresents (h : History) (old new : MuxState) : Type 0 where
  pub represents : Represents h new
  pub same_schedule : new.schedule ≡ old.schedule
  pub same_capacity : new.capacity ≡ old.capacity

-- ---- laws

-- whatever events follow, the bytes written before them do not change
abbrev pub WrittenStays : Type 0
WrittenStays = (d : Scheduled) (capacity : Room) (h : History) (steps : List Step) →
    (added : List ℕ) × (bytes_of d (history_after d capacity h steps) ≡ bytes_of d h ++ added)

-- the same units of each stream and the same number of slots give the same bytes, whatever the order of units and slots
pub record SameRun (first second : History) : Type 0 where
  pub units : (k : ℕ) → first.units k ≡ second.units k
  pub slots : first.slots ≡ second.slots

abbrev pub OrderIsFree : Type 0
OrderIsFree = (d : Scheduled) (capacity other : Room) (first second : List Step) →
    SameRun (history_after d capacity empty_history first) (history_after d other empty_history second) →
    bytes_of d (history_after d capacity empty_history first) ≡ bytes_of d (history_after d other empty_history second)
