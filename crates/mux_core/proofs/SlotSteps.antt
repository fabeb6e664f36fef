-- One slot: the state gives the packet of the history, and the next state represents the history with one more slot.
use Rattle.std.specs.Prelude.{ℕ, suc, ◌<◌, ◌==◌, ◌&&◌, ◌||◌, Bool, true, false, List, length, slice_index_or, Option, Some, None, slice_get, option_map}
use Rattle.std.proofs.Common.{◌≡◌, ◌≢◌, inl, inr, refl, sym, ◌∙◌, ap, subst, arith}
use Rattle.std.proofs.lemmas.Bool.{eq-eqb, ne_eqb, cases_eq}
use Rattle.std.proofs.lemmas.Option.{slice_get_within}
use Rattle.circular_buffer.proofs.Places.{slice_get-set_same, slice_get-set_other}
use Rattle.slot_contents.specs.Contents.{packet_of}
use Rattle.description_parts.specs.Described.{Described, DescribedStream}
use Rattle.description_parts.specs.Tables.{table_kinds}
use Rattle.description_parts.specs.declared.table_kind.TableKind.{TableKind}
use Rattle.description.specs.declared.sub_table.SubTable.{SubTable}
use Rattle.description.specs.SubTables.{sub_table_count}
use Rattle.slot_plan.specs.declared.slot.Slot.{Slot}
use Rattle.slot_plan.specs.declared.slot.Slot.TheVariants.{Stream, Pcr, Table, Null}
use Rattle.slot_plan.specs.declared.slot.Item.TheVariants.{Stream as StreamItem, Table as TableItem}
use Rattle.slot_plan.specs.Items.{is_own}
use Rattle.slot_plan.specs.Schedule.{slot_of, owned}
use Rattle.unit_queue.specs.Queues.{Queue}
use Rattle.unit_queue.specs.QueueSteps.{sent_in}
use Rattle.unit_queue.specs.Laws.{StreamSlotLaw, OtherStreamSlotLaw}
use Rattle.table_rounds.specs.Carousels.{Carousel, CarouselHolds, next_section, carousel_content, carousel_after}
use Rattle.table_rounds.specs.Tables.{not_yet, place_at}
use Rattle.table_rounds.specs.Laws.{HasPlaces, IsSourceOf, TableSlotLaw, OtherTableSlotLaw}
use Rattle.mux_core.specs.Rooms.{room_in}
use Rattle.mux_core.specs.Scheduled.{Scheduled}
use Rattle.mux_core.specs.Histories.{History, unchanged, past_of, from_of, text_at, last_texts, owned_stream, start_over, table_over, stream_in, table_in, content_in, next_slot}
use Rattle.mux_core.specs.TextChanges.{ChangesFit, AreMade, since_of, is_numbered, begins_at, begins_in, began_since}
use Rattle.mux_core.specs.MuxStates.{MuxState, Represents, QueueRepresents, CarouselRepresents}
use Rattle.mux_core.specs.SlotSteps.{queue_sends, queues_after, carousel_sends, carousels_after, section_bytes, number_there, sent_after, sends, after}
use Rattle.mux_core.specs.declared.room.Room.{Room}
use Rattle.mux_core.proofs.TextChanges.{text_last, past_over, since_within, fits_later, last_kinds}
use Rattle.mux_core.proofs.SentMarks.{began_idle, began_more, marked_size, marked_at, none_there, and_false}

-- Streams

abbrev streams_represent : Scheduled → History → Room → List Queue → Type 0
streams_represent d h capacity queues = (k : ℕ) → QueueRepresents d h capacity k (slice_get queues k) (slice_get d.description.streams k)

stream_other : OtherStreamSlotLaw → (d : Scheduled) (h : History) (capacity : Room) (k : ℕ) (q : Option Queue) (s : Option DescribedStream) →
    owned d.schedule (StreamItem k) h.slots ≡ false → QueueRepresents d h capacity k q s → QueueRepresents d (next_slot h) capacity k q s
stream_other law d h capacity k (Some q) (Some s) idle st = law (owned_stream d k s) h.slots (room_in capacity s) (h.units k) q idle st
stream_other law d h capacity k (Some q) None idle st = st
stream_other law d h capacity k None (Some s) idle st = st
stream_other law d h capacity k None None idle st = st

stream_own : StreamSlotLaw → (d : Scheduled) (h : History) (capacity : Room) (k : ℕ) (q : Option Queue) (s : Option DescribedStream) →
    owned d.schedule (StreamItem k) h.slots ≡ true → QueueRepresents d h capacity k q s →
    QueueRepresents d (next_slot h) capacity k (option_map (sent_in h.slots) q) s
stream_own law d h capacity k (Some q) (Some s) own st = (law (owned_stream d k s) h.slots (room_in capacity s) (h.units k) q own st).holds
stream_own law d h capacity k (Some q) None own st = st
stream_own law d h capacity k None (Some s) own st = st
stream_own law d h capacity k None None own st = st

stream_sends : StreamSlotLaw → (d : Scheduled) (h : History) (capacity : Room) (k : ℕ) (q : Option Queue) (s : Option DescribedStream) →
    owned d.schedule (StreamItem k) h.slots ≡ true → QueueRepresents d h capacity k q s →
    packet_of (queue_sends h.slots q) ≡ packet_of (stream_in d h.units h.slots k s)
unfolding queue_sends stream_in
stream_sends law d h capacity k (Some q) (Some s) own st = (law (owned_stream d k s) h.slots (room_in capacity s) (h.units k) q own st).packet
stream_sends law d h capacity k (Some q) None own st = absurd st
stream_sends law d h capacity k None (Some s) own st = absurd st
stream_sends law d h capacity k None None own st = refl

queue_same : (slot k : ℕ) (queues : List Queue) (o : Option Queue) → slice_get queues k ≡ o →
    slice_get (queues_after slot queues k o) k ≡ option_map (sent_in slot) o
unfolding queues_after
queue_same slot k queues None e = e
queue_same slot k queues (Some q) e = slice_get-set_same queues k (sent_in slot q) (slice_get_within queues k q e)

queue_other : (slot j k : ℕ) (queues : List Queue) (o : Option Queue) → j ≢ k → slice_get (queues_after slot queues k o) j ≡ slice_get queues j
unfolding queues_after
queue_other slot j k queues None ne = refl
queue_other slot j k queues (Some q) ne = slice_get-set_other queues k j (sent_in slot q) ne

-- All streams after a slot of stream k.
streams_on : StreamSlotLaw → OtherStreamSlotLaw → (d : Scheduled) (h : History) (capacity : Room) (k : ℕ) (queues : List Queue) →
    slot_of d.schedule h.slots ≡ Stream k → streams_represent d h capacity queues →
    streams_represent d (next_slot h) capacity (queues_after h.slots queues k (slice_get queues k))
streams_on own_law other_law d h capacity k queues is st j = elim (cases_eq j k) [
  | inl e ↦ subst
      (λ (n : ℕ). QueueRepresents d (next_slot h) capacity n (slice_get (queues_after h.slots queues k (slice_get queues k)) n)
      (slice_get d.description.streams n))
      (sym e) (subst (λ (o : Option Queue). QueueRepresents d (next_slot h) capacity k o (slice_get d.description.streams k))
      (sym (queue_same h.slots k queues (slice_get queues k) refl))
      (stream_own own_law d h capacity k (slice_get queues k) (slice_get d.description.streams k) (ap (is_own (StreamItem k)) is ∙ eq-eqb k k refl) (st k)))
  | inr ne ↦ subst (λ (o : Option Queue). QueueRepresents d (next_slot h) capacity j o (slice_get d.description.streams j))
      (sym (queue_other h.slots j k queues (slice_get queues k) ne))
      (stream_other other_law d h capacity j (slice_get queues j) (slice_get d.description.streams j) (ap (is_own (StreamItem j)) is ∙ ne_eqb j k ne) (st j))
]

-- All streams after a slot of no stream.
streams_idle : OtherStreamSlotLaw → (d : Scheduled) (h : History) (capacity : Room) (queues : List Queue) →
    ((k : ℕ) → owned d.schedule (StreamItem k) h.slots ≡ false) → streams_represent d h capacity queues → streams_represent d (next_slot h) capacity queues
streams_idle law d h capacity queues idle st k = stream_other law d h capacity k (slice_get queues k) (slice_get d.description.streams k) (idle k) (st k)

-- Tables

abbrev tables_represent : Scheduled → History → List Carousel → Type 0
tables_represent d h carousels = (t : ℕ) → CarouselRepresents d h t (slice_get carousels t) (slice_get (table_kinds d.description) t)

-- Each table has its places, its sections are its source, slot 0 began, by the slot, when the texts say, and it is on air.
pub record TablesKnown (d : Scheduled) (h : History) (texts : Described) : Type 0 where
  pub places : (t : ℕ) (kind : TableKind) → slice_get (table_kinds d.description) t ≡ Some kind → HasPlaces (table_over d h.changes t)
  pub sources : (t : ℕ) (kind : TableKind) → slice_get (table_kinds d.description) t ≡ Some kind → IsSourceOf (table_over d h.changes t) h.slots (section_bytes texts t)
  pub start : (t : ℕ) → start_over d.description h.changes t h.slots ≡ texts.start
  pub on_air : (t : ℕ) → not_yet (from_of (past_of h.changes) t) h.slots ≡ false

table_other : OtherTableSlotLaw → (d : Scheduled) (h : History) (t : ℕ) (carousel : Option Carousel) (kind : Option TableKind) →
    owned d.schedule (TableItem t) h.slots ≡ false → CarouselRepresents d h t carousel kind → CarouselRepresents d (next_slot h) t carousel kind
table_other law d h t (Some carousel) (Some kind) idle st = law (table_over d h.changes t) h.slots carousel idle st
table_other law d h t (Some carousel) None idle st = st
table_other law d h t None (Some kind) idle st = st
table_other law d h t None None idle st = st

table_own : TableSlotLaw → (d : Scheduled) (h : History) (texts : Described) (t : ℕ) (carousel : Option Carousel) (kind : Option TableKind) → TablesKnown d h texts →
    slice_get (table_kinds d.description) t ≡ kind →
    owned d.schedule (TableItem t) h.slots ≡ true → CarouselRepresents d h t carousel kind →
    CarouselRepresents d (next_slot h) t (option_map (carousel_after (section_bytes texts t) texts.start h.slots) carousel) kind
table_own law d h texts t (Some carousel) (Some kind) known is own st =
    subst (λ (start : ℕ). CarouselHolds (table_over d h.changes t) (suc h.slots) (carousel_after (section_bytes texts t) start h.slots carousel)) (known.start t)
    (law (table_over d h.changes t) h.slots (section_bytes texts t) carousel (known.places t kind is) (known.sources t kind is) (known.on_air t) own st).holds
table_own law d h texts t (Some carousel) None known is own st = st
table_own law d h texts t None (Some kind) known is own st = st
table_own law d h texts t None None known is own st = st

table_sends : TableSlotLaw → (d : Scheduled) (h : History) (texts : Described) (t : ℕ) (carousel : Option Carousel) (kind : Option TableKind) → TablesKnown d h texts →
    slice_get (table_kinds d.description) t ≡ kind →
    owned d.schedule (TableItem t) h.slots ≡ true → CarouselRepresents d h t carousel kind →
    packet_of (carousel_sends (section_bytes texts t) texts.start h.slots carousel) ≡ packet_of (table_in d h.changes h.slots t kind)
unfolding carousel_sends table_in
table_sends law d h texts t (Some carousel) (Some kind) known is own st =
    sym (ap (λ (start : ℕ). packet_of (carousel_content (section_bytes texts t) start h.slots carousel)) (known.start t))
    ∙ (law (table_over d h.changes t) h.slots (section_bytes texts t) carousel (known.places t kind is) (known.sources t kind is) (known.on_air t) own st).packet
table_sends law d h texts t (Some carousel) None known is own st = absurd st
table_sends law d h texts t None (Some kind) known is own st = absurd st
table_sends law d h texts t None None known is own st = refl

carousel_same : (source : ℕ → ℕ → List ℕ) (start slot t : ℕ) (carousels : List Carousel) (o : Option Carousel) → slice_get carousels t ≡ o →
    slice_get (carousels_after source start slot carousels t o) t ≡ option_map (carousel_after source start slot) o
unfolding carousels_after
carousel_same source start slot t carousels None e = e
carousel_same source start slot t carousels (Some carousel) e =
    slice_get-set_same carousels t (carousel_after source start slot carousel) (slice_get_within carousels t carousel e)

carousel_other : (source : ℕ → ℕ → List ℕ) (start slot j t : ℕ) (carousels : List Carousel) (o : Option Carousel) → j ≢ t →
    slice_get (carousels_after source start slot carousels t o) j ≡ slice_get carousels j
unfolding carousels_after
carousel_other source start slot j t carousels None ne = refl
carousel_other source start slot j t carousels (Some carousel) ne = slice_get-set_other carousels t j (carousel_after source start slot carousel) ne

tables_on : TableSlotLaw → OtherTableSlotLaw → (d : Scheduled) (h : History) (texts : Described) (t : ℕ) (carousels : List Carousel) → TablesKnown d h texts →
    slot_of d.schedule h.slots ≡ Table t → tables_represent d h carousels →
    tables_represent d (next_slot h) (carousels_after (section_bytes texts t) texts.start h.slots carousels t (slice_get carousels t))
tables_on own_law other_law d h texts t carousels known is st j = elim (cases_eq j t) [
  | inl e ↦ subst
      (λ (n : ℕ). CarouselRepresents d (next_slot h) n
      (slice_get (carousels_after (section_bytes texts t) texts.start h.slots carousels t (slice_get carousels t)) n)
      (slice_get (table_kinds d.description) n))
      (sym e) (subst (λ (o : Option Carousel). CarouselRepresents d (next_slot h) t o (slice_get (table_kinds d.description) t))
      (sym (carousel_same (section_bytes texts t) texts.start h.slots t carousels (slice_get carousels t) refl))
      (table_own own_law d h texts t (slice_get carousels t) (slice_get (table_kinds d.description) t) known refl (ap (is_own (TableItem t)) is ∙ eq-eqb t t refl)
      (st t)))
  | inr ne ↦ subst (λ (o : Option Carousel). CarouselRepresents d (next_slot h) j o (slice_get (table_kinds d.description) j))
      (sym (carousel_other (section_bytes texts t) texts.start h.slots j t carousels (slice_get carousels t) ne))
      (table_other other_law d h j (slice_get carousels j) (slice_get (table_kinds d.description) j) (ap (is_own (TableItem j)) is ∙ ne_eqb j t ne) (st j))
]

tables_idle : OtherTableSlotLaw → (d : Scheduled) (h : History) (carousels : List Carousel) → ((t : ℕ) → owned d.schedule (TableItem t) h.slots ≡ false) →
    tables_represent d h carousels → tables_represent d (next_slot h) carousels
tables_idle law d h carousels idle st t = table_other law d h t (slice_get carousels t) (slice_get (table_kinds d.description) t) (idle t) (st t)

-- Texts

-- The state has the texts in force, and the marks of what was sent of them.
pub record TextsRepresent (d : Scheduled) (h : History) (texts : Described) (sent : List Bool) : Type 0 where
  pub fit : ChangesFit d.description h.slots h.changes
  pub made : AreMade d h.changes
  pub are : texts ≡ last_texts d.description h.changes
  pub size : length sent ≡ sub_table_count
  pub marks : (x : ℕ) → x < sub_table_count → slice_index_or sent x false ≡ began_since d h.changes x (since_of h.changes x) h.slots

texts_idle : (d : Scheduled) (h : History) (texts : Described) (sent : List Bool) → TextsRepresent d h texts sent →
    ((x : ℕ) → begins_in d h.changes x h.slots (slot_of d.schedule h.slots) ≡ false) → TextsRepresent d (next_slot h) texts sent
texts_idle d h texts sent st none = record {
  fit = fits_later d.description h.slots h.changes st.fit;
  made = st.made;
  are = st.are;
  size = st.size;
  marks = λ x lt. st.marks x lt ∙ sym (began_idle d h.changes x (since_of h.changes x) h.slots (past_over d.description h.slots h.changes st.fit) (none x));
}

-- a section of a table begins where the place of its carousel is a first one
begins_there : (d : Scheduled) (h : History) (texts : Described) (sent : List Bool) (x t : ℕ) (carousel : Carousel) → TextsRepresent d h texts sent →
    slot_of d.schedule h.slots ≡ Table t → CarouselHolds (table_over d h.changes t) h.slots carousel →
    begins_in d h.changes x h.slots (slot_of d.schedule h.slots) ≡ begins_at texts x t (record { section = carousel.section; part = carousel.part })
unfolding begins_in
begins_there d h texts sent x t carousel st is holds =
    ap (begins_in d h.changes x h.slots) is
    ∙ ap (λ (e : Described). begins_at e x t (place_at (table_over d unchanged t) h.slots))
    (text_last d.description h.slots h.slots h.changes st.fit (omega arith) ∙ sym st.are)
    ∙ ap (begins_at texts x t) holds.place

nothing_there : (d : Scheduled) (h : History) (texts : Described) (sent : List Bool) (x t : ℕ) → TextsRepresent d h texts sent →
    slot_of d.schedule h.slots ≡ Table t → slice_get (table_kinds d.description) t ≡ None →
    begins_in d h.changes x h.slots (slot_of d.schedule h.slots) ≡ false
unfolding begins_in
nothing_there d h texts sent x t st is none =
    let now : text_at d.description h.changes h.slots ≡ last_texts d.description h.changes =
    text_last d.description h.slots h.slots h.changes st.fit (omega arith) in
    let kinds : slice_get (table_kinds (last_texts d.description h.changes)) t ≡ None =
    ap (λ (l : List TableKind). slice_get l t) (last_kinds d.description h.slots h.changes st.fit) ∙ none in
    ap (begins_in d h.changes x h.slots) is
    ∙ ap (λ (e : Described). begins_at e x t (place_at (table_over d unchanged t) h.slots)) now
    ∙ ap (λ (o : Option SubTable). ((place_at (table_over d unchanged t) h.slots).part == 0) && is_numbered x o)
    (none_there (last_texts d.description h.changes) t (place_at (table_over d unchanged t) h.slots).section kinds)
    ∙ and_false ((place_at (table_over d unchanged t) h.slots).part == 0)

texts_on : (d : Scheduled) (h : History) (texts : Described) (sent : List Bool) (t : ℕ) (o : Option Carousel) (kind : Option TableKind) →
    TextsRepresent d h texts sent → slot_of d.schedule h.slots ≡ Table t → slice_get (table_kinds d.description) t ≡ kind →
    CarouselRepresents d h t o kind → TextsRepresent d (next_slot h) texts (sent_after texts t sent o)
unfolding sent_after
texts_on d h texts sent t (Some carousel) (Some kind) st is of holds = record {
  fit = fits_later d.description h.slots h.changes st.fit;
  made = st.made;
  are = st.are;
  size = marked_size sent (number_there texts t (next_section carousel)) ∙ st.size;
  marks = λ x lt.
      marked_at sent texts x t carousel (omega (arith, lt, st.size))
      ∙ ap (λ (b : Bool). b || begins_at texts x t (record { section = carousel.section; part = carousel.part })) (st.marks x lt)
      ∙ ap (λ (b : Bool). began_since d h.changes x (since_of h.changes x) h.slots || b)
      (sym (begins_there d h texts sent x t carousel st is holds))
      ∙ sym (began_more d h.changes x (since_of h.changes x) h.slots (since_within d.description h.slots x h.changes st.fit)
      (past_over d.description h.slots h.changes st.fit));
}
texts_on d h texts sent t (Some carousel) None st is of holds = absurd holds
texts_on d h texts sent t None (Some kind) st is of holds = absurd holds
texts_on d h texts sent t None None st is of holds = texts_idle d h texts sent st (λ x. nothing_there d h texts sent x t st is of)

pub texts_of : (h : History) (m : MuxState) → Represents h m → TextsRepresent m.schedule h m.texts m.sent
texts_of h m st = record { fit = st.changes; made = st.made; are = st.texts; size = st.sent_size; marks = st.sent }

-- The state after a slot

-- The state writes the packet of a slot, and then represents the next history.
pub record Advances (h : History) (m : MuxState) (slot : Slot) : Type 0 where
  pub packet : packet_of (sends m slot) ≡ packet_of (content_in m.schedule h.changes h.units h.slots slot)
  pub represents : Represents (next_slot h) (after m slot)

-- The laws of queues and tables that a slot uses.
pub record Laws : Type 0 where
  pub own_stream : StreamSlotLaw
  pub other_stream : OtherStreamSlotLaw
  pub own_table : TableSlotLaw
  pub other_table : OtherTableSlotLaw

abbrev mux_state : Scheduled → Described → List Bool → List Queue → List Carousel → Room → ℕ → MuxState
mux_state d texts sent queues carousels capacity slots =
    record { schedule = d; texts = texts; sent = sent; queues = queues; carousels = carousels; capacity = capacity; slots = slots }

slot_represents : (h : History) (d : Scheduled) (texts : Described) (sent : List Bool) (queues : List Queue) (carousels : List Carousel) (capacity : Room) →
    streams_represent d (next_slot h) capacity queues → tables_represent d (next_slot h) carousels → TextsRepresent d (next_slot h) texts sent →
    Represents (next_slot h) (mux_state d texts sent queues carousels capacity (suc h.slots))
slot_represents h d texts sent queues carousels capacity streams tables st = record {
  written = refl;
  changes = st.fit;
  made = st.made;
  texts = st.are;
  sent_size = st.size;
  sent = st.marks;
  streams = streams;
  tables = tables;
}

-- a slot in which no section begins
unmarked : (d : Scheduled) (h : History) (slot : Slot) → slot_of d.schedule h.slots ≡ slot → ((x : ℕ) → begins_in d h.changes x h.slots slot ≡ false) →
    (x : ℕ) → begins_in d h.changes x h.slots (slot_of d.schedule h.slots) ≡ false
unmarked d h slot is none x = ap (begins_in d h.changes x h.slots) is ∙ none x

slot_advances : Laws → (h : History) (d : Scheduled) (texts : Described) (sent : List Bool) (queues : List Queue) (carousels : List Carousel) (capacity : Room)
    (slot : Slot) →
    TablesKnown d h texts → slot_of d.schedule h.slots ≡ slot → TextsRepresent d h texts sent → streams_represent d h capacity queues →
    tables_represent d h carousels → Advances h (mux_state d texts sent queues carousels capacity h.slots) slot
unfolding sends after content_in begins_in
slot_advances laws h d texts sent queues carousels capacity (Stream k) known is same streams tables = record {
  packet = stream_sends laws.own_stream d h capacity k (slice_get queues k) (slice_get d.description.streams k)
      (ap (is_own (StreamItem k)) is ∙ eq-eqb k k refl) (streams k);
  represents = slot_represents h d texts sent (queues_after h.slots queues k (slice_get queues k)) carousels capacity
      (streams_on laws.own_stream laws.other_stream d h capacity k queues is streams)
      (tables_idle laws.other_table d h carousels (λ t. ap (is_own (TableItem t)) is) tables)
      (texts_idle d h texts sent same (unmarked d h (Stream k) is (λ x. refl)));
}
slot_advances laws h d texts sent queues carousels capacity (Pcr p) known is same streams tables = record {
  packet = refl;
  represents = slot_represents h d texts sent queues carousels capacity
      (streams_idle laws.other_stream d h capacity queues (λ k. ap (is_own (StreamItem k)) is) streams)
      (tables_idle laws.other_table d h carousels (λ t. ap (is_own (TableItem t)) is) tables)
      (texts_idle d h texts sent same (unmarked d h (Pcr p) is (λ x. refl)));
}
slot_advances laws h d texts sent queues carousels capacity (Table t) known is same streams tables = record {
  packet = table_sends laws.own_table d h texts t (slice_get carousels t) (slice_get (table_kinds d.description) t) known refl
      (ap (is_own (TableItem t)) is ∙ eq-eqb t t refl) (tables t);
  represents = slot_represents h d texts (sent_after texts t sent (slice_get carousels t)) queues
      (carousels_after (section_bytes texts t) texts.start h.slots carousels t (slice_get carousels t)) capacity
      (streams_idle laws.other_stream d h capacity queues (λ k. ap (is_own (StreamItem k)) is) streams)
      (tables_on laws.own_table laws.other_table d h texts t carousels known is tables)
      (texts_on d h texts sent t (slice_get carousels t) (slice_get (table_kinds d.description) t) same is refl (tables t));
}
slot_advances laws h d texts sent queues carousels capacity Null known is same streams tables = record {
  packet = refl;
  represents = slot_represents h d texts sent queues carousels capacity
      (streams_idle laws.other_stream d h capacity queues (λ k. ap (is_own (StreamItem k)) is) streams)
      (tables_idle laws.other_table d h carousels (λ t. ap (is_own (TableItem t)) is) tables)
      (texts_idle d h texts sent same (unmarked d h Null is (λ x. refl)));
}

-- The next slot of a multiplexer advances it.
pub advances : Laws → (h : History) (m : MuxState) → TablesKnown m.schedule h m.texts → Represents h m →
    Advances h m (slot_of m.schedule.schedule m.slots)
advances laws h m known st =
    subst (λ (n : ℕ). Advances h (mux_state m.schedule m.texts m.sent m.queues m.carousels m.capacity n) (slot_of m.schedule.schedule n)) (sym st.written)
    (slot_advances laws h m.schedule m.texts m.sent m.queues m.carousels m.capacity (slot_of m.schedule.schedule h.slots) known refl
    (texts_of h m st) st.streams st.tables)
