-- Feeding one unit: a refused unit is refused for the cause that the history gives. An accepted unit is appended to its stream and changes no earlier slot.
use Rattle.std.specs.Prelude.{ℕ, suc, zero, ◌+◌, ◌<◌, cond, Bool, true, false, List, [], ◌∷◌, ◌++◌, Option, Some, None, slice_get, option_map}
use Rattle.std.proofs.Common.{◌≡◌, ◌≢◌, inl, inr, refl, sym, ◌∙◌, ap, subst, arith}
use Rattle.std.proofs.lemmas.Bool.{eq-eqb, ne_eqb, cases_eq}
use Rattle.std.proofs.lemmas.Option.{slice_get_within}
use Rattle.circular_buffer.proofs.Places.{slice_get-set_same, slice_get-set_other}
use Rattle.pes_packet.specs.AccessUnits.{AccessUnit}
use Rattle.slot_contents.specs.Contents.{Content, packet_of, run_bytes}
use Rattle.description_parts.specs.Described.{Described, DescribedStream}
use Rattle.description_parts.specs.Tables.{stream_on_air}
use Rattle.slot_plan.specs.declared.slot.Slot.{Slot}
use Rattle.slot_plan.specs.declared.slot.Slot.TheVariants.{Stream, Pcr, Table, Null}
use Rattle.slot_plan.specs.declared.slot.Item.TheVariants.{Stream as StreamItem}
use Rattle.slot_plan.specs.Items.{is_own}
use Rattle.slot_plan.specs.Schedule.{slot_of, owned}
use Rattle.unit_queue.specs.declared.refusal.FeedError.{FeedError}
use Rattle.unit_queue.specs.Places.{stream_content}
use Rattle.unit_queue.specs.Queues.{Queue, QueueHolds, ParametersInRange}
use Rattle.unit_queue.specs.QueueSteps.{accepted}
use Rattle.unit_queue.specs.Laws.{CauseLaw, FedLaw, LaterUnitLaw}
use Rattle.mux_core.specs.Rooms.{room_in}
use Rattle.mux_core.specs.Scheduled.{Scheduled}
use Rattle.mux_core.specs.Histories.{History, last_texts, owned_stream, parameters_of, stream_in, content_in, content_over, bytes_of, with_unit}
use Rattle.mux_core.specs.MuxStates.{MuxState, Represents, QueueRepresents, Takes, if_on_air, feed_cause, refusal_of}
use Rattle.mux_core.specs.SlotSteps.{queue_cause, queues_with, fed}
use Rattle.mux_core.specs.declared.room.Room.{Room}

pub record FeedLaws : Type 0 where
  pub cause : CauseLaw
  pub fed : FedLaw
  pub later : LaterUnitLaw

-- The parameters of each stream are in the ranges that its queue requires.
abbrev pub ParametersKnown : Scheduled → Type 0
ParametersKnown d = (k : ℕ) (s : DescribedStream) → slice_get d.description.streams k ≡ Some s → ParametersInRange (parameters_of d.description s)

-- The cause of a refusal

-- An accepted unit is of a stream that a program on air has.
pub accepted_on_air : (on_air : Bool) (cause : Option FeedError) → if_on_air on_air cause ≡ None → (on_air ≡ true) × (cause ≡ None)
accepted_on_air true cause e = (refl, e)
accepted_on_air false cause e = absurd (let no : ⊥ = cc in no)

cause_is : CauseLaw → (d : Scheduled) (h : History) (capacity : Room) (k : ℕ) (u : AccessUnit) (q : Option Queue) (s : Option DescribedStream) →
    QueueRepresents d h capacity k q s → queue_cause (stream_on_air (last_texts d.description h.changes) k) h.slots u q ≡ feed_cause d capacity h k u s
unfolding queue_cause feed_cause
cause_is law d h capacity k u (Some q) (Some s) st =
    ap (λ (o : Option FeedError). if_on_air (stream_on_air (last_texts d.description h.changes) k) o)
    (law (owned_stream d k s) h.slots (room_in capacity s) (h.units k) q u st)
cause_is law d h capacity k u (Some q) None st = absurd st
cause_is law d h capacity k u None (Some s) st = absurd st
cause_is law d h capacity k u None None st = refl

-- The queues after a unit

stream_fed : FedLaw → (d : Scheduled) (h : History) (capacity : Room) (k : ℕ) (u : AccessUnit) (q : Option Queue) (s : Option DescribedStream) →
    ParametersKnown d → slice_get d.description.streams k ≡ s → feed_cause d capacity h k u s ≡ None → QueueRepresents d h capacity k q s →
    QueueRepresents d (with_unit h k u) capacity k (option_map (λ x. accepted x u) q) s
unfolding feed_cause
stream_fed law d h capacity k u (Some q) (Some s) rules is none st =
    subst (λ (b : Bool). QueueHolds (owned_stream d k s) h.slots (room_in capacity s) (cond b (h.units k ++ (u ∷ [])) (h.units k)) (accepted q u)) (sym (eq-eqb k k refl))
    (law (owned_stream d k s) h.slots (room_in capacity s) (h.units k) q u (rules k s is) (accepted_on_air _ _ none).1 st)
stream_fed law d h capacity k u (Some q) None rules is none st = st
stream_fed law d h capacity k u None (Some s) rules is none st = st
stream_fed law d h capacity k u None None rules is none st = st

stream_unfed : (d : Scheduled) (h : History) (capacity : Room) (j k : ℕ) (u : AccessUnit) (q : Option Queue) (s : Option DescribedStream) → j ≢ k →
    QueueRepresents d h capacity j q s → QueueRepresents d (with_unit h k u) capacity j q s
stream_unfed d h capacity j k u (Some q) (Some s) ne st =
    subst (λ (b : Bool). QueueHolds (owned_stream d j s) h.slots (room_in capacity s) (cond b (h.units j ++ (u ∷ [])) (h.units j)) q) (sym (ne_eqb j k ne)) st
stream_unfed d h capacity j k u (Some q) None ne st = st
stream_unfed d h capacity j k u None (Some s) ne st = st
stream_unfed d h capacity j k u None None ne st = st

fed_same : (k : ℕ) (u : AccessUnit) (queues : List Queue) (o : Option Queue) → slice_get queues k ≡ o →
    slice_get (queues_with queues k u o) k ≡ option_map (λ q. accepted q u) o
unfolding queues_with
fed_same k u queues None e = e
fed_same k u queues (Some q) e = slice_get-set_same queues k (accepted q u) (slice_get_within queues k q e)

fed_other : (j k : ℕ) (u : AccessUnit) (queues : List Queue) (o : Option Queue) → j ≢ k → slice_get (queues_with queues k u o) j ≡ slice_get queues j
unfolding queues_with
fed_other j k u queues None ne = refl
fed_other j k u queues (Some q) ne = slice_get-set_other queues k j (accepted q u) ne

streams_fed : FedLaw → (d : Scheduled) (h : History) (capacity : Room) (k : ℕ) (u : AccessUnit) (queues : List Queue) → ParametersKnown d →
    feed_cause d capacity h k u (slice_get d.description.streams k) ≡ None →
    ((j : ℕ) → QueueRepresents d h capacity j (slice_get queues j) (slice_get d.description.streams j)) → (j : ℕ) →
    QueueRepresents d (with_unit h k u) capacity j (slice_get (queues_with queues k u (slice_get queues k)) j) (slice_get d.description.streams j)
streams_fed law d h capacity k u queues rules none st j = elim (cases_eq j k) [
  | inl e ↦ subst
      (λ (n : ℕ). QueueRepresents d (with_unit h k u) capacity n (slice_get (queues_with queues k u (slice_get queues k)) n)
      (slice_get d.description.streams n))
      (sym e) (subst (λ (o : Option Queue). QueueRepresents d (with_unit h k u) capacity k o (slice_get d.description.streams k))
      (sym (fed_same k u queues (slice_get queues k) refl))
      (stream_fed law d h capacity k u (slice_get queues k) (slice_get d.description.streams k) rules refl none (st k)))
  | inr ne ↦ subst (λ (o : Option Queue). QueueRepresents d (with_unit h k u) capacity j o (slice_get d.description.streams j))
      (sym (fed_other j k u queues (slice_get queues k) ne))
      (stream_unfed d h capacity j k u (slice_get queues j) (slice_get d.description.streams j) ne (st j))
]

-- A new unit changes no slot that is already written

own_kept : LaterUnitLaw → (d : Scheduled) (h : History) (capacity : Room) (k t : ℕ) (u : AccessUnit) (s : Option DescribedStream) →
    feed_cause d capacity h k u s ≡ None → owned d.schedule (StreamItem k) t ≡ true → t < h.slots →
    stream_in d (with_unit h k u).units t k s ≡ stream_in d h.units t k s
unfolding stream_in feed_cause
own_kept law d h capacity k t u None none own lt = refl
own_kept law d h capacity k t u (Some s) none own lt =
    ap (λ (b : Bool). stream_content (owned_stream d k s) (cond b (h.units k ++ (u ∷ [])) (h.units k)) t) (eq-eqb k k refl)
    ∙ law (owned_stream d k s) h.slots (room_in capacity s) (h.units k) u t (accepted_on_air _ _ none).1 own lt

other_kept : (d : Scheduled) (h : History) (j k t : ℕ) (u : AccessUnit) (s : Option DescribedStream) → j ≢ k →
    stream_in d (with_unit h k u).units t j s ≡ stream_in d h.units t j s
unfolding stream_in
other_kept d h j k t u None ne = refl
other_kept d h j k t u (Some s) ne =
    ap (λ (b : Bool). stream_content (owned_stream d j s) (cond b (h.units j ++ (u ∷ [])) (h.units j)) t) (ne_eqb j k ne)

pub content_kept : LaterUnitLaw → (d : Scheduled) (h : History) (capacity : Room) (k t : ℕ) (u : AccessUnit) (slot : Slot) →
    slot_of d.schedule t ≡ slot → feed_cause d capacity h k u (slice_get d.description.streams k) ≡ None → t < h.slots →
    content_in d h.changes (with_unit h k u).units t slot ≡ content_in d h.changes h.units t slot
unfolding content_in
content_kept law d h capacity k t u (Stream j) is none lt = elim (cases_eq j k) [
  | inl e ↦ subst
      (λ (n : ℕ). stream_in d (with_unit h k u).units t n (slice_get d.description.streams n) ≡ stream_in d h.units t n (slice_get d.description.streams n))
      (sym e) (own_kept law d h capacity k t u (slice_get d.description.streams k) none (ap (is_own (StreamItem k)) is ∙ eq-eqb k j (sym e)) lt)
  | inr ne ↦ other_kept d h j k t u (slice_get d.description.streams j) ne
]
content_kept law d h capacity k t u (Pcr p) is none lt = refl
content_kept law d h capacity k t u (Table x) is none lt = refl
content_kept law d h capacity k t u Null is none lt = refl

-- Equal contents give equal bytes.
pub run_same : (f g : ℕ → Content) (s n : ℕ) → ((t : ℕ) → t < s + n → f t ≡ g t) → run_bytes f s n ≡ run_bytes g s n
unfolding run_bytes
run_same f g s zero same = refl
run_same f g s (suc n) same =
    ap (λ (c : Content). packet_of c ++ run_bytes f (suc s) n) (same s (omega arith))
    ∙ ap (λ (bytes : List ℕ). packet_of (g s) ++ bytes) (run_same f g (suc s) n (λ t lt. same t (omega arith)))

pub bytes_kept : LaterUnitLaw → (d : Scheduled) (h : History) (capacity : Room) (k : ℕ) (u : AccessUnit) →
    feed_cause d capacity h k u (slice_get d.description.streams k) ≡ None → bytes_of d (with_unit h k u) ≡ bytes_of d h
unfolding content_over
bytes_kept law d h capacity k u none = run_same (content_over d h.changes (with_unit h k u).units) (content_over d h.changes h.units) 0 h.slots
    (λ t lt. content_kept law d h capacity k t u (slot_of d.schedule t) refl none (omega (arith, lt)))

-- The state and the history after a unit

-- The state after a unit is offered: it is refused for the queue's cause, or the state is `fed`.
pub record Feeds (old : MuxState) (k : ℕ) (u : AccessUnit) (refused : Option FeedError) (new : MuxState) : Type 0 where
  pub first : refused ≡ queue_cause (stream_on_air old.texts k) old.slots u (slice_get old.queues k)
  pub taken : refused ≡ None → new ≡ fed old k u
  pub same_schedule : new.schedule ≡ old.schedule
  pub same_capacity : new.capacity ≡ old.capacity

cause_of : CauseLaw → (h : History) (m : MuxState) (k : ℕ) (u : AccessUnit) → Represents h m →
    queue_cause (stream_on_air m.texts k) m.slots u (slice_get m.queues k) ≡ refusal_of m h k u
cause_of law h m k u st =
    ap (λ (e : Described). queue_cause (stream_on_air e k) m.slots u (slice_get m.queues k)) st.texts
    ∙ ap (λ (n : ℕ). queue_cause (stream_on_air (last_texts m.schedule.description h.changes) k) n u (slice_get m.queues k)) st.written
    ∙ cause_is law m.schedule h m.capacity k u (slice_get m.queues k) (slice_get m.schedule.description.streams k) (st.streams k)

pub takes : FeedLaws → (h : History) (old : MuxState) (k : ℕ) (u : AccessUnit) (refused : Option FeedError) (new : MuxState) → ParametersKnown old.schedule →
    Represents h old → Feeds old k u refused new → Takes h old k u refused new
takes laws h old k u refused new rules st feeds =
    let first = feeds.first ∙ cause_of laws.cause h old k u st in
    record {
      first = first;
      represents = λ none. subst (λ (m : MuxState). Represents (with_unit h k u) m) (sym (feeds.taken none)) (record {
        written = st.written;
        changes = st.changes;
        made = st.made;
        texts = st.texts;
        sent_size = st.sent_size;
        sent = st.sent;
        streams = streams_fed laws.fed old.schedule h old.capacity k u old.queues rules (sym first ∙ none) st.streams;
        tables = st.tables;
      });
      before = λ none. bytes_kept laws.later old.schedule h old.capacity k u (sym first ∙ none);
      same_schedule = feeds.same_schedule;
      same_capacity = feeds.same_capacity;
    }
