-- The steps of the state: one slot, and one unit fed.
use Rattle.std.specs.Prelude.{ℕ, suc, cond, nat_lt, ◌&&◌, not, Bool, true, false, List, [], set, map, Option, Some, None, slice_get, slice_index_or}
use Rattle.std.specs.Prelude.{option_and_then, option_map}
use Rattle.std.specs.List.{range_with_len}
use Rattle.slot_contents.specs.Contents.{Content, NullContent}
use Rattle.description_parts.specs.Described.{Described}
use Rattle.description_parts.specs.Tables.{table_count, section_count}
use Rattle.description.specs.SectionBytes.{table_bytes}
use Rattle.description.specs.SubTables.{sub_table_count, sub_table_number}
use Rattle.changed_texts.specs.Versions.{next_texts, changed}
use Rattle.slot_plan.specs.declared.slot.Slot.{Slot}
use Rattle.slot_plan.specs.declared.slot.Slot.TheVariants.{Stream, Pcr, Table, Null}
use Rattle.slot_plan.specs.SlotPids.{slot_pid}
use Rattle.unit_queue.specs.Queues.{Queue}
use Rattle.pes_packet.specs.AccessUnits.{AccessUnit}
use Rattle.unit_queue.specs.declared.refusal.FeedError.{FeedError}
use Rattle.unit_queue.specs.declared.refusal.FeedError.TheVariants.{UnknownStream}
use Rattle.unit_queue.specs.QueueSteps.{queue_content, sent_in, state_cause, accepted}
use Rattle.table_rounds.specs.Carousels.{Carousel, next_section, carousel_content, carousel_after}
use Rattle.mux_core.specs.Histories.{pcr_content}
use Rattle.mux_core.specs.TextChanges.{sub_table_there, events_table}
use Rattle.mux_core.specs.MuxStates.{MuxState, if_on_air}

-- what a queue puts into its slot, and the queues after it
unfoldable pub queue_sends : ℕ → Option Queue → Content
queue_sends slot None = NullContent
queue_sends slot (Some q) = queue_content slot q

unfoldable pub queues_after : ℕ → List Queue → ℕ → Option Queue → List Queue
queues_after slot queues k None = queues
queues_after slot queues k (Some q) = set queues k (sent_in slot q)

-- the bytes of a section of a table at a moment; none if there is no such section
abbrev pub section_bytes : Described → ℕ → ℕ → ℕ → List ℕ
section_bytes d t j moment = cond (nat_lt t (table_count d)) (cond (nat_lt j (section_count d t)) (table_bytes d t j moment) []) []

-- what a table puts into its slot by the moment `start` of slot 0, and the carousels after it
unfoldable pub carousel_sends : (ℕ → ℕ → List ℕ) → ℕ → ℕ → Option Carousel → Content
carousel_sends source start slot None = NullContent
carousel_sends source start slot (Some carousel) = carousel_content source start slot carousel

unfoldable pub carousels_after : (ℕ → ℕ → List ℕ) → ℕ → ℕ → List Carousel → ℕ → Option Carousel → List Carousel
carousels_after source start slot carousels t None = carousels
carousels_after source start slot carousels t (Some carousel) = set carousels t (carousel_after source start slot carousel)

-- what the next slot carries, if it is of this kind
unfoldable pub sends : MuxState → Slot → Content
sends m (Stream k) = queue_sends m.slots (slice_get m.queues k)
sends m (Pcr p) = pcr_content m.schedule.description m.slots (slot_pid m.schedule.description (Pcr p))
sends m (Table t) = carousel_sends (section_bytes m.texts t) m.texts.start m.slots (slice_get m.carousels t)
sends m Null = NullContent

-- the texts after the last change, or else the first
abbrev pub texts_in : Option Described → Described → Described
texts_in None first = first
texts_in (Some texts) first = texts

-- a section of the sub-table of this number was sent
abbrev pub marked : List Bool → Option ℕ → List Bool
marked sent None = sent
marked sent (Some number) = set sent number true

-- the number of the sub-table of a section that begins, if one begins
abbrev pub number_there : Described → ℕ → Option ℕ → Option ℕ
number_there texts t section = option_map sub_table_number (option_and_then (sub_table_there texts t) section)

-- what was sent of the sub-tables after an own slot of a table: the section that begins there
unfoldable pub sent_after : Described → ℕ → List Bool → Option Carousel → List Bool
sent_after texts t sent None = sent
sent_after texts t sent (Some carousel) = marked sent (number_there texts t (next_section carousel))

-- the state with these queues and carousels, one slot later
abbrev pub later : MuxState → List Bool → List Queue → List Carousel → MuxState
later m sent queues carousels = record {
  schedule = m.schedule;
  texts = m.texts;
  sent = sent;
  queues = queues;
  carousels = carousels;
  capacity = m.capacity;
  slots = suc m.slots;
}

unfoldable pub after : MuxState → Slot → MuxState
after m (Stream k) = later m m.sent (queues_after m.slots m.queues k (slice_get m.queues k)) m.carousels
after m (Pcr p) = later m m.sent m.queues m.carousels
after m (Table t) = later m (sent_after m.texts t m.sent (slice_get m.carousels t)) m.queues
    (carousels_after (section_bytes m.texts t) m.texts.start m.slots m.carousels t (slice_get m.carousels t))
after m Null = later m m.sent m.queues m.carousels

-- ---- a unit fed

-- why a unit is refused, if a program on air has its stream or if none has it: by the queue of the stream
unfoldable pub queue_cause : Bool → ℕ → AccessUnit → Option Queue → Option FeedError
queue_cause on_air slots u None = Some UnknownStream
queue_cause on_air slots u (Some q) = if_on_air on_air (state_cause slots q u)

unfoldable pub queues_with : List Queue → ℕ → AccessUnit → Option Queue → List Queue
queues_with queues k u None = queues
queues_with queues k u (Some q) = set queues k (accepted q u)

-- the state with the unit in its stream's queue
abbrev pub fed : MuxState → ℕ → AccessUnit → MuxState
fed m k u = record {
  schedule = m.schedule;
  texts = m.texts;
  sent = m.sent;
  queues = queues_with m.queues k u (slice_get m.queues k);
  carousels = m.carousels;
  capacity = m.capacity;
  slots = m.slots;
}

-- ---- a change of texts

-- the moment for which the EIT shows its events
abbrev pub moment_of_events : MuxState → ℕ
moment_of_events m = elim (slice_get m.carousels (events_table m.schedule.description)) [
  | None ↦ m.schedule.description.start
  | Some carousel ↦ carousel.moment
]

-- what was sent, but for the sub-tables that change
abbrev pub still_at : List Bool → (ℕ → Bool) → ℕ → Bool
still_at sent change n = slice_index_or sent n false && not (change n)

abbrev pub sent_still : List Bool → (ℕ → Bool) → List Bool
sent_still sent change = map (still_at sent change) (range_with_len 0 sub_table_count)

-- the state with other texts
abbrev pub with_texts : MuxState → Described → MuxState
with_texts m texts = record {
  schedule = m.schedule;
  texts = next_texts m.texts texts (moment_of_events m) (λ n. slice_index_or m.sent n false);
  sent = sent_still m.sent (changed m.texts texts (moment_of_events m));
  queues = m.queues;
  carousels = m.carousels;
  capacity = m.capacity;
  slots = m.slots;
}
