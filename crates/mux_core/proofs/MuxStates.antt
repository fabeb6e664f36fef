-- The multiplexer's state does what its history says.
use Rattle.std.specs.Prelude.{ℕ, ◌<◌, ◌≤◌, ◌^◌, List, Option, Some, None, Result, Ok, Err, OnOk, slice_get, option_map, length}
use Rattle.std.proofs.Common.{◌≡◌, refl, sym, ◌∙◌, ap, subst}
use Rattle.std.proofs.lemmas.List.{length-map}
use Rattle.pes_packet.specs.AccessUnits.{AccessUnit}
use Rattle.slot_contents.specs.Contents.{packet_of}
use Rattle.description_parts.specs.Ranges.{IsInRange}
use Rattle.description_parts.specs.Described.{DescribedStream}
use Rattle.description_parts.specs.Tables.{stream_on_air}
use Rattle.description.proofs.SectionCounts.{sections_law}
use Rattle.slot_plan.specs.declared.slot.Slot.{Slot}
use Rattle.slot_plan.specs.declared.slot.Slot.TheVariants.{Stream, Pcr, Table, Null}
use Rattle.slot_plan.specs.Schedule.{slot_of}
use Rattle.unit_queue.specs.declared.refusal.FeedError.{FeedError}
use Rattle.unit_queue.specs.Causes.{refusal}
use Rattle.unit_queue.specs.Places.{left_before}
use Rattle.unit_queue.specs.Queues.{Queue}
use Rattle.unit_queue.proofs.QueueStates.{own_slot_law, other_slot_law, cause_law, fed_law, later_unit_law}
use Rattle.table_rounds.proofs.CarouselSteps.{own_slot, other_slot}
use Rattle.mux_core.specs.Scheduled.{Scheduled}
use Rattle.mux_core.specs.Histories.{History, owned_stream, content_in, content_over, next_slot}
use Rattle.mux_core.specs.MuxStates.{MuxState, Represents, QueueRepresents, Gives, waiting_of}
use Rattle.mux_core.specs.SlotSteps.{sends, after, queue_cause, queues_with}
use Rattle.mux_core.specs.declared.done.Done.{Done}
use Rattle.mux_core.specs.declared.room.Room.{Room}
use Rattle.mux_core.proofs.SlotSteps.{Laws, Advances, advances}
use Rattle.mux_core.proofs.FedUnits.{FeedLaws, Feeds}
use Rattle.mux_core.proofs.KnownRanges.{tables_known}

laws : Laws
laws = record { own_stream = own_slot_law; other_stream = other_slot_law; own_table = own_slot; other_table = other_slot }

pub feed_laws : FeedLaws
feed_laws = record { cause = cause_law; fed = fed_law; later = later_unit_law }

slot_advances : (h : History) (m : MuxState) → IsInRange m.schedule.description → Represents h m → Advances h m (slot_of m.schedule.schedule m.slots)
slot_advances h m ranges st = advances laws h m (tables_known sections_law m.schedule h m.texts ranges st.changes st.texts) st

-- A slot does not change the schedule.
schedule_stays : (m : MuxState) (slot : Slot) → (after m slot).schedule ≡ m.schedule
unfolding after
schedule_stays m (Stream k) = refl
schedule_stays m (Pcr p) = refl
schedule_stays m (Table t) = refl
schedule_stays m Null = refl

capacity_stays : (m : MuxState) (slot : Slot) → (after m slot).capacity ≡ m.capacity
unfolding after
capacity_stays m (Stream k) = refl
capacity_stays m (Pcr p) = refl
capacity_stays m (Table t) = refl
capacity_stays m Null = refl

-- The packet that fills a slot is the packet of the history.
pub gives : (h : History) (old : MuxState) (packet : List ℕ) (new : MuxState) → IsInRange old.schedule.description → Represents h old → old.slots < 2 ^ 40 →
    packet ≡ packet_of (sends old (slot_of old.schedule.schedule old.slots)) → new ≡ after old (slot_of old.schedule.schedule old.slots) →
    Gives h old (Ok packet) new
unfolding content_over
gives h old packet new ranges st below is state =
    let slot = slot_of old.schedule.schedule old.slots in
    let g = slot_advances h old ranges st in (
      subst (λ (n : ℕ). n < 2 ^ 40) st.written below,
      is ∙ g.packet ∙ ap (λ (n : ℕ). packet_of (content_in old.schedule h.changes h.units h.slots (slot_of old.schedule.schedule n))) st.written,
      ap (λ (m : MuxState). m.schedule) state ∙ schedule_stays old slot,
      subst (λ (m : MuxState). Represents (next_slot h) m) (sym state) g.represents,
      ap (λ (m : MuxState). m.capacity) state ∙ capacity_stays old slot,
    )

-- After 2^40 slots there is no further slot.
pub done : (h : History) (m : MuxState) (e : Done) → Represents h m → 2 ^ 40 ≤ m.slots → Gives h m (Err e) m
done h m e st over = (subst (λ (n : ℕ). 2 ^ 40 ≤ n) st.written over, refl)

-- The state with its queues replaced.
abbrev pub with_queues : MuxState → List Queue → MuxState
with_queues m queues = record {
  schedule = m.schedule;
  texts = m.texts;
  sent = m.sent;
  queues = queues;
  carousels = m.carousels;
  capacity = m.capacity;
  slots = m.slots;
}

-- The state takes or refuses a unit exactly as its queues do.
pub feeds : {V : Type 0} (m : MuxState) (k : ℕ) (u : AccessUnit) (result : Result V (FeedError × AccessUnit)) (queues : List Queue) →
    refusal result ≡ queue_cause (stream_on_air m.texts k) m.slots u (slice_get m.queues k) → OnOk result (queues ≡ queues_with m.queues k u (slice_get m.queues k)) →
    Feeds m k u (refusal result) (with_queues m queues)
feeds m k u (Ok x) queues first taken = record { first = first; taken = λ none. ap (with_queues m) taken; same_schedule = refl; same_capacity = refl }
feeds m k u (Err e) queues first taken = record { first = first; taken = λ none. absurd (cc); same_schedule = refl; same_capacity = refl }

-- The number of waiting units is the number that the history gives.
pub waits : (h : History) (m : MuxState) (k : ℕ) → Represents h m → option_map (λ q. length q.units) (slice_get m.queues k) ≡ waiting_of m.schedule h k
waits h m k st = waits_in m.schedule h m.capacity k (slice_get m.queues k) (slice_get m.schedule.description.streams k) (st.streams k)
  where
    waits_in : (d : Scheduled) (h : History) (capacity : Room) (k : ℕ) (q : Option Queue) (s : Option DescribedStream) → QueueRepresents d h capacity k q s →
        option_map (λ x. length x.units) q ≡ option_map (λ x. length (left_before (owned_stream d k x) h.slots (h.units k)).units) s
    waits_in d h capacity k (Some q) (Some s) st = ap Some (ap (λ (x : Queue). length x.units) st.state ∙ length-map _ _)
    waits_in d h capacity k (Some q) None st = absurd st
    waits_in d h capacity k None (Some s) st = absurd st
    waits_in d h capacity k None None st = refl
