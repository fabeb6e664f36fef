-- What a queue and a carousel represent before a line-up changes they represent after it, if their stream and their table stay; those of a stream and a table
-- that comes represent what they have carried, which is nothing.
use Rattle.std.proofs.Common.{◌≡◌, ℕ, zero, suc, ◌+◌, ◌-◌, ◌*◌, ◌/◌, ◌<◌, ◌≤◌, ◌==◌, min, Bool, true, false, cond, length, List, [], ◌∷◌, Option, Some, None, slice_get, option_map}
use Rattle.std.proofs.Common.{refl, sym, ap, subst, ◌∙◌, arith, inl, inr}
use Rattle.std.proofs.Math.Path.{fun_ext}
use Rattle.std.proofs.lemmas.Bool.{cases_lt, eq-eqb, lt-ltb}
use Rattle.std.proofs.lemmas.Option.{slice_get_within}
use Rattle.std.specs.Option.{option_or}
use Rattle.clock27.specs.Units.{slot_seconds_at_1bps}
use Rattle.own_slots.specs.Slots.{own_before}
use Rattle.pes_packet.specs.AccessUnits.{AccessUnit}
use Rattle.unit_timing.proofs.GroupLemmas.{div_rises}
use Rattle.description_parts.specs.Described.{Described, DescribedStream}
use Rattle.description_parts.specs.Ranges.{IsInRange}
use Rattle.description_parts.specs.Tables.{table_kinds}
use Rattle.description_parts.specs.declared.table_kind.TableKind.{TableKind}
use Rattle.description.specs.SectionBytes.{table_bytes}
use Rattle.description.proofs.SectionCounts.{sections_law}
use Rattle.changed_texts.specs.Fixed.{FixedStream, fixed_stream}
use Rattle.slot_plan.specs.declared.slot.Item.TheVariants.{Stream as StreamItem}
use Rattle.slot_plan.specs.Schedule.{owned}
use Rattle.plan_checker.specs.Served.{Served}
use Rattle.unit_queue.specs.declared.parameters.StreamParameters.{StreamParameters}
use Rattle.unit_queue.specs.OwnedStreams.{OwnedStream}
use Rattle.unit_queue.specs.Places.{left_at, begun}
use Rattle.unit_queue.specs.Queues.{Queue, QueueHolds}
use Rattle.unit_queue.specs.QueueSteps.{empty_queue}
use Rattle.unit_queue.proofs.QueueStates.{first_law}
use Rattle.table_rounds.specs.Tables.{Table, place_at, round_before, round_places, moment_before, last_moment}
use Rattle.table_rounds.specs.Carousels.{Carousel, CarouselHolds, silent_carousel}
use Rattle.table_rounds.proofs.SilentTables.{silent_carousel_holds}
use Rattle.line_ups.specs.Kept.{stream_before, table_before}
use Rattle.line_ups.specs.Laws.{StreamStays, TableStays, IsKept}
use Rattle.mux_core.specs.Exchanges.{taken_by, IsEach, AreTaken}
use Rattle.mux_core.specs.Rooms.{room_in, declared_units, spaced_units}
use Rattle.mux_core.specs.Scheduled.{Scheduled}
use Rattle.mux_core.specs.Histories.{History, past_of, from_of, first_of, start_over, bytes_over, parameters_of, owned_stream, table_over}
use Rattle.mux_core.specs.MuxStates.{QueueRepresents, CarouselRepresents}
use Rattle.mux_core.specs.LineUps.{scheduled_by, moment_in, next_past, next_history}
use Rattle.mux_core.specs.LineUpSteps.{fresh_queue, come_carousel, made_carousel, stream_number_before, table_number_before}
use Rattle.mux_core.specs.declared.room.Room.{Room}
use Rattle.mux_core.specs.declared.room.Room.TheVariants.{Units, Due}
use Rattle.mux_core.proofs.MovedTables.{IsMoved, carousel_moves}
use Rattle.mux_core.proofs.TextChanges.{round_began}

-- The declaration and the room of a stream depend on what is fixed of it.

abbrev parameters_by : ℕ → ℕ → FixedStream → StreamParameters
parameters_by rate base0 s = record {
  pid = s.pid;
  stream_id = s.stream_id;
  rate = rate;
  base0 = base0;
  lead = s.lead;
  interval = s.interval;
  pts_limit = s.pts_limit;
  size = s.size;
  allowance = s.allowance;
}

same_parameters : (old new : Described) (before now : DescribedStream) → new.rate ≡ old.rate → new.base0 ≡ old.base0 → fixed_stream before ≡ fixed_stream now →
    parameters_of old before ≡ parameters_of new now
same_parameters old new before now rate base0 fixed =
    ap (λ (r : ℕ). parameters_by r old.base0 (fixed_stream before)) (sym rate)
    ∙ ap (λ (b : ℕ). parameters_by new.rate b (fixed_stream before)) (sym base0)
    ∙ ap (parameters_by new.rate new.base0) fixed

same_room : (capacity : Room) (before now : DescribedStream) → fixed_stream before ≡ fixed_stream now → room_in capacity before ≡ room_in capacity now
same_room (Units units) before now fixed = refl
same_room (Due time) before now fixed =
    ap (λ (s : FixedStream). min (declared_units s.allowance time (spaced_units time s.interval)) 1048576) fixed

-- An empty queue represents no units, in any slot.
comes : (l : OwnedStream) (slots capacity : ℕ) → QueueHolds l slots capacity [] (empty_queue l.parameters capacity)
unfolding left_at begun
comes l slots capacity = record { state = (first_law l capacity).state; kept = (first_law l capacity).kept }

module _ (before next : Served) (kept : IsKept before next) (h : History) where
  abbrev d : Scheduled
  d = scheduled_by before

  abbrev z : Scheduled
  z = scheduled_by next

  abbrev now : History
  now = next_history d h next.description

  -- Queues

  pub same_stream : (k i : ℕ) (st : StreamStays before next k i) → owned_stream d i st.before ≡ owned_stream z k st.stream
  same_stream k i st =
      ap (λ (f : ℕ → Bool). let l : OwnedStream = record { own = f; parameters = parameters_of before.description st.before } in l) (fun_ext st.own)
      ∙ ap (λ (p : StreamParameters). let l : OwnedStream = record { own = owned z.schedule (StreamItem k); parameters = p } in l)
      (same_parameters before.description next.description st.before st.stream kept.rate kept.base0 st.declares)

  queue_moves : (k i : ℕ) (st : StreamStays before next k i) (capacity : Room) (units : List AccessUnit) (q : Queue) →
      QueueHolds (owned_stream d i st.before) h.slots (room_in capacity st.before) units q →
      QueueHolds (owned_stream z k st.stream) h.slots (room_in capacity st.stream) units q
  queue_moves k i st capacity units q holds =
      subst (λ (n : ℕ). QueueHolds (owned_stream z k st.stream) h.slots n units q) (same_room capacity st.before st.stream st.declares)
      (subst (λ (l : OwnedStream). QueueHolds l h.slots (room_in capacity st.before) units q) (same_stream k i st) holds)

  queue_stays : (k i : ℕ) (st : StreamStays before next k i) (capacity : Room) (own q : Option Queue) →
      stream_before before.description next.description k ≡ Some i → QueueRepresents d h capacity i q (Some st.before) →
      QueueRepresents z now capacity k (option_or q own) (Some st.stream)
  queue_stays k i st capacity own None is represents = absurd represents
  queue_stays k i st capacity own (Some q) is represents =
      subst (λ (b : Option ℕ). QueueHolds (owned_stream z k st.stream) h.slots (room_in capacity st.stream) (elim b [ None ↦ [] | Some j ↦ h.units j ]) q)
      (sym is) (queue_moves k i st capacity (h.units i) q represents)

  queue_comes : (k : ℕ) (s : DescribedStream) (capacity : Room) → stream_before before.description next.description k ≡ None →
      QueueRepresents z now capacity k (Some (fresh_queue before.description next.description capacity k s)) (Some s)
  queue_comes k s capacity is =
      subst (λ (b : Option ℕ). QueueHolds (owned_stream z k s) h.slots (room_in capacity s) (elim b [ None ↦ [] | Some j ↦ h.units j ])
      (empty_queue (parameters_of next.description s) (elim b [ None ↦ room_in capacity s | Some j ↦ 0 ])))
      (sym is) (comes (owned_stream z k s) h.slots (room_in capacity s))

  queue_at : (k : ℕ) (s : DescribedStream) (capacity : Room) (queues from : List Queue) (b : Option ℕ) →
      slice_get next.description.streams k ≡ Some s → stream_before before.description next.description k ≡ b →
      slice_get queues k ≡ Some (fresh_queue before.description next.description capacity k s) →
      ((i : ℕ) → QueueRepresents d h capacity i (slice_get from i) (slice_get before.description.streams i)) →
      QueueRepresents z now capacity k (taken_by queues from k b) (Some s)
  queue_at k s capacity queues from None there is fresh represents =
      subst (λ (q : Option Queue). QueueRepresents z now capacity k q (Some s)) (sym fresh) (queue_comes k s capacity is)
  queue_at k s capacity queues from (Some i) there is fresh represents =
      let st : StreamStays before next k i = kept.streams k i is in
      let same : st.stream ≡ s = cc in
      subst (λ (x : DescribedStream). QueueRepresents z now capacity k (option_or (slice_get from i) (slice_get queues k)) (Some x)) same
      (queue_stays k i st capacity (slice_get queues k) (slice_get from i) is
      (subst (λ (x : Option DescribedStream). QueueRepresents d h capacity i (slice_get from i) x) st.had (represents i)))

  queue_here : (k : ℕ) (o : Option DescribedStream) (capacity : Room) (queues from : List Queue) → slice_get next.description.streams k ≡ o →
      slice_get queues k ≡ option_map (fresh_queue before.description next.description capacity k) o →
      ((i : ℕ) → QueueRepresents d h capacity i (slice_get from i) (slice_get before.description.streams i)) →
      QueueRepresents z now capacity k
      (elim o [ None ↦ slice_get queues k | Some s ↦ taken_by queues from k (stream_number_before before.description next.description k s) ]) o
  queue_here k None capacity queues from is fresh represents =
      subst (λ (q : Option Queue). QueueRepresents z now capacity k q None) (sym fresh) tt
  queue_here k (Some s) capacity queues from is fresh represents =
      queue_at k s capacity queues from (stream_before before.description next.description k) is refl fresh represents

  pub queues_go_on : (capacity : Room) (queues from to : List Queue) →
      IsEach (fresh_queue before.description next.description capacity) next.description.streams queues →
      AreTaken (stream_number_before before.description next.description) next.description.streams queues from to →
      ((i : ℕ) → QueueRepresents d h capacity i (slice_get from i) (slice_get before.description.streams i)) →
      (k : ℕ) → QueueRepresents z now capacity k (slice_get to k) (slice_get next.description.streams k)
  queues_go_on capacity queues from to fresh taken represents k =
      subst (λ (q : Option Queue). QueueRepresents z now capacity k q (slice_get next.description.streams k)) (sym (taken k))
      (queue_here k (slice_get next.description.streams k) capacity queues from refl (fresh k) represents)

  -- Tables

  abbrev table_was : ℕ → Table
  table_was i = table_over d h.changes i

  abbrev table_is : ℕ → Table
  table_is t = table_over z now.changes t

  pub table_moves : (t i : ℕ) → table_before before.description next.description t ≡ Some i → IsMoved h.slots (table_was i) (table_is t)
  table_moves t i is =
      let st : TableStays before next t i = kept.tables t i is in
      record {
        own = fun_ext st.own;
        pid = st.pid;
        rate = sym kept.rate;
        from = sym (ap (λ (b : Option ℕ). elim b [ None ↦ Some h.slots | Some j ↦ from_of (past_of h.changes) j ]) is);
        first = sym (ap (λ (b : Option ℕ). elim b [
          | None ↦ moment_in next.description h.slots
          | Some j ↦ first_of (past_of h.changes) before.description j
        ]) is);
        places = st.places;
        start = λ s lt. sym (
            ap (λ (b : Bool). cond b ((next_past d h next.description).start t s) ((next_past d h next.description).texts next.description).start) (lt-ltb s h.slots lt)
            ∙ ap (λ (b : Option ℕ). elim b [
              | None ↦ moment_in next.description h.slots - s * slot_seconds_at_1bps / next.description.rate
              | Some j ↦ start_over before.description h.changes j s
            ]) is
            );
        bytes = λ s j moment lt. sym (
            ap (λ (b : Bool). cond b ((next_past d h next.description).bytes t s j moment)
            (table_bytes ((next_past d h next.description).texts next.description) t j moment)) (lt-ltb s h.slots lt)
            ∙ ap (λ (b : Option ℕ). elim b [ None ↦ [] | Some n ↦ bytes_over before.description h.changes n s j moment ]) is
            );
      }

  carousel_stays : (t i : ℕ) (kind : TableKind) (own carousel : Option Carousel) (was : Option TableKind) →
      table_before before.description next.description t ≡ Some i → slice_get (table_kinds before.description) i ≡ was →
      CarouselRepresents d h i carousel was → CarouselRepresents z now t (option_or carousel own) (Some kind)
  carousel_stays t i kind own (Some carousel) (Some was) is kind_is represents = carousel_moves h.slots (table_was i) (table_is t) (table_moves t i is) carousel represents
  carousel_stays t i kind own (Some carousel) None is kind_is represents = absurd represents
  carousel_stays t i kind own None (Some was) is kind_is represents = absurd represents
  carousel_stays t i kind own None None is kind_is represents =
      let st : TableStays before next t i = kept.tables t i is in
      absurd (none_within (table_kinds before.description) i st.within kind_is)
    where
      none_within : (kinds : List TableKind) (i : ℕ) → i < length kinds → slice_get kinds i ≡ None → ⊥
      none_within [] i lt none = absurd (omega (arith, lt))
      none_within (x ∷ kinds) zero lt none = absurd (cc)
      none_within (x ∷ kinds) (suc i) lt none = none_within kinds i (omega (arith, lt)) none

  -- The rounds of a table that comes have the moment at which it comes.

  came : (m x : ℕ) → x ≤ m → m - x + x ≡ m
  came m x le = omega (arith, le)

  earlier_moment : (t s : ℕ) → IsInRange next.description → s < h.slots → s * slot_seconds_at_1bps / next.description.rate ≤ moment_in next.description h.slots
  earlier_moment t s r lt =
      let le : s * slot_seconds_at_1bps ≤ h.slots * slot_seconds_at_1bps = omega (arith, lt) in
      let rises = div_rises (s * slot_seconds_at_1bps) (h.slots * slot_seconds_at_1bps) next.description.rate (omega (arith, r.least_rate)) le in
      omega (arith, rises)

  start_comes : (t s : ℕ) → table_before before.description next.description t ≡ None → s < h.slots →
      (table_is t).start s ≡ moment_in next.description h.slots - s * slot_seconds_at_1bps / next.description.rate
  start_comes t s is lt =
      ap (λ (b : Bool). cond b ((next_past d h next.description).start t s) ((next_past d h next.description).texts next.description).start) (lt-ltb s h.slots lt)
      ∙ ap (λ (b : Option ℕ). elim b [
        | None ↦ moment_in next.description h.slots - s * slot_seconds_at_1bps / next.description.rate
        | Some j ↦ start_over before.description h.changes j s
      ]) is

  round_comes : (t : ℕ) → IsInRange next.description → table_before before.description next.description t ≡ None → 0 < own_before (table_is t).own h.slots →
      moment_before (table_is t) h.slots ≡ moment_in next.description h.slots
  round_comes t r is some =
      let round = round_before (table_is t).own (round_places (table_is t).lengths) h.slots in
      let lt : round < h.slots = round_began (table_is t).own (round_places (table_is t).lengths) h.slots some in
      ap (λ (m : ℕ). m + round * slot_seconds_at_1bps / next.description.rate) (start_comes t round is lt)
      ∙ came (moment_in next.description h.slots) (round * slot_seconds_at_1bps / next.description.rate) (earlier_moment t round r lt)

  moment_comes : (t : ℕ) → IsInRange next.description → table_before before.description next.description t ≡ None →
      last_moment (table_is t) h.slots ≡ moment_in next.description h.slots
  moment_comes t r is =
      let first : (table_is t).first ≡ moment_in next.description h.slots = ap (λ (b : Option ℕ). elim b [
        | None ↦ moment_in next.description h.slots
        | Some j ↦ first_of (past_of h.changes) before.description j
      ]) is in
      ap (λ (m : ℕ). cond (own_before (table_is t).own h.slots == 0) m (moment_before (table_is t) h.slots)) first
      ∙ elim (cases_lt 0 (own_before (table_is t).own h.slots)) [
        | inl some ↦
            ap (λ (m : ℕ). cond (own_before (table_is t).own h.slots == 0) (moment_in next.description h.slots) m) (round_comes t r is some)
            ∙ both (own_before (table_is t).own h.slots == 0)
        | inr none ↦ ap (λ (b : Bool). cond b (moment_in next.description h.slots) (moment_before (table_is t) h.slots))
            (eq-eqb (own_before (table_is t).own h.slots) 0 (omega (arith, none)))
      ]
    where
      both : (b : Bool) → cond b (moment_in next.description h.slots) (moment_in next.description h.slots) ≡ moment_in next.description h.slots
      both true = refl
      both false = refl

  carousel_comes : (t : ℕ) (kind : TableKind) → IsInRange next.description → slice_get (table_kinds next.description) t ≡ Some kind →
      table_before before.description next.description t ≡ None →
      CarouselRepresents z now t (Some (come_carousel next h.slots t)) (Some kind)
  carousel_comes t kind r there is =
      subst (λ (m : ℕ). CarouselHolds (table_is t) h.slots
      (silent_carousel (table_is t).pid (table_is t).rate (table_is t).lengths (place_at (table_is t) h.slots) m)) (moment_comes t r is)
      (silent_carousel_holds (table_is t) h.slots
      ((sections_law next.description t r (slice_get_within (table_kinds next.description) t kind there)).2)
      (ap (λ (b : Option ℕ). elim b [ None ↦ Some h.slots | Some j ↦ from_of (past_of h.changes) j ]) is))

  carousel_at : (t : ℕ) (kind : TableKind) (carousels from : List Carousel) (b : Option ℕ) → IsInRange next.description →
      slice_get (table_kinds next.description) t ≡ Some kind → table_before before.description next.description t ≡ b →
      slice_get carousels t ≡ Some (come_carousel next h.slots t) →
      ((i : ℕ) → CarouselRepresents d h i (slice_get from i) (slice_get (table_kinds before.description) i)) →
      CarouselRepresents z now t (taken_by carousels from t b) (Some kind)
  carousel_at t kind carousels from None r there is fresh represents =
      subst (λ (c : Option Carousel). CarouselRepresents z now t c (Some kind)) (sym fresh) (carousel_comes t kind r there is)
  carousel_at t kind carousels from (Some i) r there is fresh represents =
      carousel_stays t i kind (slice_get carousels t) (slice_get from i) (slice_get (table_kinds before.description) i) is refl (represents i)

  carousel_here : (t : ℕ) (o : Option TableKind) (carousels from : List Carousel) → IsInRange next.description → slice_get (table_kinds next.description) t ≡ o →
      slice_get carousels t ≡ option_map (made_carousel next h.slots t) o →
      ((i : ℕ) → CarouselRepresents d h i (slice_get from i) (slice_get (table_kinds before.description) i)) →
      CarouselRepresents z now t
      (elim o [ None ↦ slice_get carousels t | Some kind ↦ taken_by carousels from t (table_number_before before.description next.description t kind) ]) o
  carousel_here t None carousels from r is fresh represents =
      subst (λ (c : Option Carousel). CarouselRepresents z now t c None) (sym fresh) tt
  carousel_here t (Some kind) carousels from r is fresh represents =
      carousel_at t kind carousels from (table_before before.description next.description t) r is refl fresh represents

  pub carousels_go_on : (carousels from to : List Carousel) → IsInRange next.description →
      IsEach (made_carousel next h.slots) (table_kinds next.description) carousels →
      AreTaken (table_number_before before.description next.description) (table_kinds next.description) carousels from to →
      ((i : ℕ) → CarouselRepresents d h i (slice_get from i) (slice_get (table_kinds before.description) i)) →
      (t : ℕ) → CarouselRepresents z now t (slice_get to t) (slice_get (table_kinds next.description) t)
  carousels_go_on carousels from to r fresh taken represents t =
      subst (λ (c : Option Carousel). CarouselRepresents z now t c (slice_get (table_kinds next.description) t)) (sym (taken t))
      (carousel_here t (slice_get (table_kinds next.description) t) carousels from r refl (fresh t) represents)
