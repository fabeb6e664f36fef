-- The state of a multiplexer, and the history that it represents.
use Rattle.std.specs.Prelude.{◌≡◌, ◌≤◌, ◌<◌, ◌^◌, ℕ, Bool, false, if◌then◌else◌, slice_index_or, List, Option, Some, None, slice_get, length, option_map, Result}
use Rattle.std.specs.Prelude.{Ok, Err, ⊤}
use Rattle.pes_packet.specs.AccessUnits.{AccessUnit}
use Rattle.slot_contents.specs.Contents.{packet_of}
use Rattle.description_parts.specs.Described.{Described, DescribedStream}
use Rattle.description_parts.specs.Tables.{table_kinds, stream_on_air}
use Rattle.description_parts.specs.declared.table_kind.TableKind.{TableKind}
use Rattle.unit_queue.specs.declared.refusal.FeedError.{FeedError}
use Rattle.unit_queue.specs.declared.refusal.FeedError.TheVariants.{UnknownStream, OffAir}
use Rattle.unit_queue.specs.Places.{left_before}
use Rattle.unit_queue.specs.Causes.{unit_cause}
use Rattle.unit_queue.specs.Queues.{Queue, QueueHolds}
use Rattle.table_rounds.specs.Carousels.{Carousel, CarouselHolds}
use Rattle.description.specs.SubTables.{sub_table_count}
use Rattle.changed_texts.specs.declared.fault.TextFault.{TextFault}
use Rattle.mux_core.specs.Rooms.{room_in}
use Rattle.mux_core.specs.Scheduled.{Scheduled}
use Rattle.mux_core.specs.Histories.{History, last_texts, owned_stream, table_over, content_over, bytes_of, next_slot, with_unit, with_change}
use Rattle.mux_core.specs.TextChanges.{ChangesFit, AreMade, text_cause, since_of, began_since, next_change}
use Rattle.mux_core.specs.declared.done.Done.{Done}
use Rattle.mux_core.specs.declared.room.Room.{Room}

-- the schedule, the texts in force, for each sub-table whether a section of it was sent since its last change, a queue for each stream, the carousel of each
-- table, the room for the units of each stream, and the number of slots written
pub record MuxState : Type 0 where
  pub schedule : Scheduled
  pub texts : Described
  pub sent : List Bool
  pub queues : List Queue
  pub carousels : List Carousel
  pub capacity : Room
  pub slots : ℕ

-- the queue of a stream represents the stream's units
abbrev pub QueueRepresents : Scheduled → History → Room → ℕ → Option Queue → Option DescribedStream → Type 0
QueueRepresents d h capacity k (Some q) (Some s) = QueueHolds (owned_stream d k s) h.slots (room_in capacity s) (h.units k) q
QueueRepresents d h capacity k (Some q) None = ⊥
QueueRepresents d h capacity k None (Some s) = ⊥
QueueRepresents d h capacity k None None = ⊤

-- the carousel of a table represents the table's own slots so far
abbrev pub CarouselRepresents : Scheduled → History → ℕ → Option Carousel → Option TableKind → Type 0
CarouselRepresents d h t (Some carousel) (Some kind) = CarouselHolds (table_over d h.changes t) h.slots carousel
CarouselRepresents d h t (Some carousel) None = ⊥
CarouselRepresents d h t None (Some kind) = ⊥
CarouselRepresents d h t None None = ⊤

-- a multiplexer represents a history
pub record Represents (h : History) (m : MuxState) : Type 0 where
  pub written : m.slots ≡ h.slots
  pub changes : ChangesFit m.schedule.description h.slots h.changes
  pub made : AreMade m.schedule h.changes
  pub texts : m.texts ≡ last_texts m.schedule.description h.changes
  pub sent_size : length m.sent ≡ sub_table_count
  pub sent : (x : ℕ) → x < sub_table_count →
      slice_index_or m.sent x false ≡ began_since m.schedule h.changes x (since_of h.changes x) h.slots
  pub streams : (k : ℕ) → QueueRepresents m.schedule h m.capacity k (slice_get m.queues k) (slice_get m.schedule.description.streams k)
  pub tables : (t : ℕ) → CarouselRepresents m.schedule h t (slice_get m.carousels t) (slice_get (table_kinds m.schedule.description) t)

-- the next 188 bytes of the history, and the history with one more slot; nothing after 2^40 slots
abbrev pub Gives : History → MuxState → Result (List ℕ) Done → MuxState → Type 0
Gives h old (Ok packet) new =
    (h.slots < 2 ^ 40) × (packet ≡ packet_of (content_over old.schedule h.changes h.units h.slots)) × (new.schedule ≡ old.schedule) × Represents (next_slot h) new ×
    (new.capacity ≡ old.capacity)
Gives h old (Err e) new = (2 ^ 40 ≤ h.slots) × (new ≡ old)

-- a cause of a unit, if a program on air has its stream; otherwise that none has it
abbrev pub if_on_air : Bool → Option FeedError → Option FeedError
if_on_air on_air cause = if on_air then cause else Some OffAir

-- why a unit of a stream is refused: the stream is unknown, no program that the texts in force have on air has it, or a cause applies to the unit
unfoldable pub feed_cause : Scheduled → Room → History → ℕ → AccessUnit → Option DescribedStream → Option FeedError
feed_cause d capacity h k u None = Some UnknownStream
feed_cause d capacity h k u (Some s) =
    if_on_air (stream_on_air (last_texts d.description h.changes) k) (unit_cause (owned_stream d k s) h.slots (room_in capacity s) (h.units k) u)

abbrev pub refusal_of : MuxState → History → ℕ → AccessUnit → Option FeedError
refusal_of m h k u = feed_cause m.schedule m.capacity h k u (slice_get m.schedule.description.streams k)

-- the effect of feeding a unit
pub record Takes (h : History) (old : MuxState) (k : ℕ) (u : AccessUnit) (refused : Option FeedError) (new : MuxState) : Type 0 where
  -- the answer is the first cause that applies
  pub first : refused ≡ refusal_of old h k u
  -- an accepted unit is added to the units of its stream
  pub represents : refused ≡ None → Represents (with_unit h k u) new
  -- the bytes written before do not change
  pub before : refused ≡ None → bytes_of old.schedule (with_unit h k u) ≡ bytes_of old.schedule h
  pub same_schedule : new.schedule ≡ old.schedule
  pub same_capacity : new.capacity ≡ old.capacity

-- the units of a stream that are not sent whole
abbrev pub waiting_of : Scheduled → History → ℕ → Option ℕ
waiting_of d h k = option_map (λ s. length (left_before (owned_stream d k s) h.slots (h.units k)).units) (slice_get d.description.streams k)

-- why a multiplexer refuses texts: the answer of a change of texts
abbrev pub text_refusal : Result (Unit {0}) TextFault → Option TextFault
text_refusal (Ok x) = None
text_refusal (Err fault) = Some fault

-- the effect of a change of texts
pub record Changes (h : History) (old : MuxState) (texts : Described) (refused : Option TextFault) (new : MuxState) : Type 0 where
  -- the answer is the first fault
  pub first : refused ≡ text_cause old.schedule h texts
  -- accepted texts are in force from the next slot on
  pub represents : refused ≡ None → Represents (with_change h (next_change old.schedule h texts)) new
  -- the bytes written before do not change
  pub before : refused ≡ None → bytes_of old.schedule (with_change h (next_change old.schedule h texts)) ≡ bytes_of old.schedule h
  pub same_schedule : new.schedule ≡ old.schedule
  pub same_capacity : new.capacity ≡ old.capacity
