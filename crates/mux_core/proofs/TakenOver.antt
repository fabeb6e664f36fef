-- The state that a change of the line-up leaves represents the history of the new line-up.
use Rattle.std.proofs.Common.{◌≡◌, ℕ, zero, suc, ◌<◌, ◌≤◌, ◌&&◌, ◌||◌, nat_lt, nat_le, Bool, true, false, cond, List, [], ◌∷◌, map, length, get_or, replicate, Option, Some, None}
use Rattle.std.proofs.Common.{refl, sym, ap, subst, ◌∙◌, arith}
use Rattle.std.proofs.Math.Path.{fun_ext}
use Rattle.std.proofs.lemmas.Bool.{lt-ltb, le-ltb, le-leb}
use Rattle.std.proofs.lemmas.List.{length-replicate, get_or-replicate, length-map}
use Rattle.description_parts.specs.Described.{Described}
use Rattle.description_parts.specs.Ranges.{IsInRange}
use Rattle.description_parts.specs.Tables.{table_kinds, section_lengths, section_count}
use Rattle.description.specs.SubTables.{sub_table_count}
use Rattle.changed_texts.specs.TextFaults.{IsTextOf}
use Rattle.plan_checker.specs.Served.{Served}
use Rattle.unit_queue.specs.Queues.{Queue}
use Rattle.table_rounds.specs.Parts.{places_of}
use Rattle.table_rounds.specs.Tables.{not_yet}
use Rattle.table_rounds.specs.Carousels.{Carousel}
use Rattle.line_ups.specs.Kept.{table_before}
use Rattle.line_ups.specs.Laws.{TableStays, IsKept}
use Rattle.line_ups.specs.Versions.{follow_versions, FollowedRangeLaw, FollowedTextLaw}
use Rattle.mux_core.specs.Exchanges.{IsEach, AreTaken}
use Rattle.mux_core.specs.Scheduled.{Scheduled}
use Rattle.mux_core.specs.Histories.{Past, FirstTexts, History, past_of, from_of, last_texts, bytes_over}
use Rattle.mux_core.specs.TextChanges.{PastFits, ChangesFit, sent_of, events_moment, begins_in, began_since}
use Rattle.mux_core.specs.MuxStates.{MuxState, Represents}
use Rattle.mux_core.specs.SlotSteps.{moment_of_events}
use Rattle.mux_core.specs.LineUps.{scheduled_by, next_past, next_history}
use Rattle.mux_core.specs.LineUpSteps.{KeptOver, fresh_queue, made_carousel, stream_number_before, table_number_before, PutOver}
use Rattle.mux_core.specs.declared.room.Room.{Room}
use Rattle.slot_plan.specs.Schedule.{slot_of}
use Rattle.mux_core.proofs.TextChanges.{on_air_by}
use Rattle.mux_core.proofs.TextLaws.{whole_sections}
use Rattle.mux_core.proofs.TakenTexts.{moment_is, sent_at}
use Rattle.mux_core.proofs.LineUps.{queues_go_on, carousels_go_on}

pub record FollowedLaws : Type 0 where
  pub range : FollowedRangeLaw
  pub text : FollowedTextLaw

-- A description has no other texts than itself.
text_itself : (d : Described) → IsTextOf d d
text_itself d = record {
  rate = refl;
  base0 = refl;
  transport_stream_id = refl;
  original_network_id = refl;
  is_transponder = refl;
  clock_pid = refl;
  programs = refl;
  streams = refl;
  tables = refl;
  kinds = refl;
  pids = λ t. refl;
  limits = λ t. refl;
  counts = λ t. refl;
  packets = λ t j. omega arith;
}

-- Each sub-table counts as sent in the slots of the past.
or_true : (b : Bool) → (b || true) ≡ true
or_true true = refl
or_true false = refl

began_before : (d : Scheduled) (past : Past) (x s : ℕ) → s ≤ past.until → began_since d (FirstTexts (Some past)) x 0 s ≡ nat_lt 0 s
unfolding began_since
began_before d past x zero le = sym (le-ltb 0 0 (omega arith))
began_before d past x (suc s) le =
    let sent = began_since d (FirstTexts (Some past)) x 0 s in
    ap (λ (b : Bool). sent || (nat_le 0 s && cond b true (begins_in d (FirstTexts (Some past)) x s (slot_of d.schedule s)))) (lt-ltb s past.until (omega (arith, le)))
    ∙ ap (λ (b : Bool). sent || (b && true)) (le-leb 0 s (omega arith)) ∙ or_true sent ∙ sym (lt-ltb 0 (suc s) (omega arith))

-- Sections that take as many packets
same_places : (ls ms : List ℕ) (j : ℕ) → map places_of ls ≡ map places_of ms → places_of (get_or ls j 0) ≡ places_of (get_or ms j 0)
same_places [] [] j same = refl
same_places [] (m ∷ ms) j same = absurd (cc)
same_places (l ∷ ls) [] j same = absurd (cc)
same_places (l ∷ ls) (m ∷ ms) zero same = cc
same_places (l ∷ ls) (m ∷ ms) (suc j) same = let rest : map places_of ls ≡ map places_of ms = cc in same_places ls ms j rest

module _ (before next : Served) (kept : IsKept before next) (h : History) where
  abbrev d : Scheduled
  d = scheduled_by before

  abbrev past : Past
  past = next_past d h next.description

  -- The past fits the new description.

  from_fits : (b : Option ℕ) → ChangesFit d.description h.slots h.changes →
      not_yet (elim b [ None ↦ Some h.slots | Some i ↦ from_of (past_of h.changes) i ]) h.slots ≡ false
  from_fits None fit = le-ltb h.slots h.slots (omega arith)
  from_fits (Some i) fit = on_air_by d.description h.slots i h.changes fit

  places_fit : (t s j moment : ℕ) (b : Option ℕ) → IsInRange before.description → ChangesFit d.description h.slots h.changes → j < section_count next.description t →
      table_before before.description next.description t ≡ b →
      places_of (length {A = ℕ} (elim b [ None ↦ [] | Some i ↦ bytes_over before.description h.changes i s j moment ]))
      ≤ places_of (get_or (section_lengths next.description t) j 0)
  places_fit t s j moment None r fit lt is = omega arith
  places_fit t s j moment (Some i) r fit lt is =
      let st : TableStays before next t i = kept.tables t i is in
      let count : length (map places_of (section_lengths before.description i)) ≡ length (map places_of (section_lengths next.description t)) =
      ap (λ (l : List ℕ). length l) st.places in
      let within : j < section_count before.description i =
      omega (arith, lt, count, length-map (section_lengths before.description i) places_of, length-map (section_lengths next.description t) places_of) in
      let whole = whole_sections d h.changes h.slots i j s moment r fit within in
      let same = same_places (section_lengths before.description i) (section_lengths next.description t) j st.places in
      omega (arith, whole, same)

  past_fits : FollowedLaws → IsInRange before.description → IsInRange next.description → ChangesFit d.description h.slots h.changes →
      PastFits next.description h.slots past
  past_fits laws r ranges fit = record {
    until = omega arith;
    from = λ t. from_fits (table_before before.description next.description t) fit;
    ranges = laws.range (last_texts d.description h.changes) next.description (events_moment d h.changes h.slots) (sent_of d h) ranges;
    texts = laws.text next.description (last_texts d.description h.changes) next.description (events_moment d h.changes h.slots) (sent_of d h)
        (text_itself next.description);
    places = λ t s j moment lt within.
        places_fit t s j moment (table_before before.description next.description t) r fit within refl;
  }

  -- The texts with which the new line-up comes

  texts_come : (m : MuxState) → m.schedule ≡ d → Represents h m →
      follow_versions m.texts next.description (moment_of_events m) (λ n. get_or m.sent n false) ≡ past.texts next.description
  texts_come m is st =
      ap (λ (now : Described). follow_versions now next.description (moment_of_events m) (λ n. get_or m.sent n false)) st.texts
      ∙ ap (λ (x : ℕ). follow_versions (last_texts m.schedule.description h.changes) next.description x (λ n. get_or m.sent n false)) (moment_is h m st)
      ∙ ap (follow_versions (last_texts m.schedule.description h.changes) next.description (events_moment m.schedule h.changes h.slots)) (fun_ext (sent_at h m st))
      ∙ ap (λ (x : Scheduled). (next_past x h next.description).texts next.description) is

  -- The state by its parts
  taken_over : FollowedLaws → (m new : MuxState) (queues : List Queue) (carousels : List Carousel) → IsInRange before.description → IsInRange next.description →
      Represents h (record m { schedule = d }) →
      IsEach (fresh_queue before.description next.description m.capacity) next.description.streams queues →
      IsEach (made_carousel next m.slots) (table_kinds next.description) carousels →
      PutOver (record m { schedule = d }) next next.description queues carousels new →
      Represents (next_history d h next.description)
      (record { schedule = scheduled_by next; texts = new.texts; sent = new.sent; queues = new.queues; carousels = new.carousels; capacity = m.capacity; slots = new.slots })
  taken_over laws m new queues carousels r ranges st fresh made put =
      let at : m.slots ≡ h.slots = st.written in
      record {
        written = put.slots ∙ st.written;
        changes = past_fits laws r ranges st.changes;
        made = tt;
        texts = put.in_force ∙ texts_come (record m { schedule = d }) refl st;
        sent_size = ap (λ (l : List Bool). length l) put.sent ∙ length-replicate sub_table_count (nat_lt 0 m.slots);
        sent = λ x lt. ap (λ (l : List Bool). get_or l x false) put.sent ∙ get_or-replicate sub_table_count x (nat_lt 0 m.slots) false lt
            ∙ ap (nat_lt 0) at ∙ sym (began_before (scheduled_by next) past x h.slots (omega arith));
        streams = queues_go_on before next kept h m.capacity queues m.queues new.queues fresh put.kept_queues st.streams;
        tables = carousels_go_on before next kept h carousels m.carousels new.carousels ranges
            (subst (λ (n : ℕ). IsEach (made_carousel next n) (table_kinds next.description) carousels) at made) put.kept_carousels st.tables;
      }

pub line_up_taken : FollowedLaws → (h : History) (m new : MuxState) (next : Served) (queues : List Queue) (carousels : List Carousel) → KeptOver m.schedule next →
    IsInRange next.description → Represents h m →
    IsEach (fresh_queue m.schedule.description next.description m.capacity) next.description.streams queues →
    IsEach (made_carousel next m.slots) (table_kinds next.description) carousels → PutOver m next next.description queues carousels new →
    Represents (next_history m.schedule h next.description) new
line_up_taken laws h m new next queues carousels over ranges st fresh made put =
    let b = over.before in
    let st' = subst (λ (x : Scheduled). Represents h (record m { schedule = x })) over.is st in
    let fresh' = subst (λ (x : Scheduled). IsEach (fresh_queue x.description next.description m.capacity) next.description.streams queues) over.is fresh in
    let put' = subst (λ (x : Scheduled). PutOver (record m { schedule = x }) next next.description queues carousels new) over.is put in
    let done = taken_over b next over.kept h laws m new queues carousels over.ranges ranges st' fresh' made put' in
    let scheduled = subst (λ (x : Scheduled). Represents (next_history (scheduled_by b) h next.description) (record new { schedule = x; capacity = m.capacity }))
    (sym put.schedule) done in
    let roomy = subst (λ (c : Room). Represents (next_history (scheduled_by b) h next.description) (record new { capacity = c })) (sym put.capacity) scheduled in
    subst (λ (x : Scheduled). Represents (next_history x h next.description) new) (sym over.is) roomy

-- The parts that are put
pub put_over : (m new old : MuxState) (next : Served) (texts : Described) (queues : List Queue) (carousels : List Carousel) (schedule : Scheduled)
    (now was e f : Described) (qs : List Queue) (cs : List Carousel) → old ≡ m → schedule ≡ scheduled_by next →
    now ≡ follow_versions m.texts texts (moment_of_events m) (λ n. get_or m.sent n false) → was ≡ old.schedule.description → e ≡ next.description → f ≡ next.description →
    AreTaken (stream_number_before was e) e.streams queues old.queues qs → AreTaken (table_number_before was f) (table_kinds f) carousels old.carousels cs →
    new ≡ record {
      schedule = schedule;
      texts = now;
      sent = replicate sub_table_count (nat_lt 0 old.slots);
      queues = qs;
      carousels = cs;
      capacity = old.capacity;
      slots = old.slots;
    } → PutOver m next texts queues carousels new
put_over m new old next texts queues carousels schedule now was e f qs cs view scheduled follows at first second taken turned is = record {
  schedule = ap (λ (x : MuxState). x.schedule) is ∙ scheduled;
  in_force = ap (λ (x : MuxState). x.texts) is ∙ follows;
  sent = ap (λ (x : MuxState). x.sent) is ∙ ap (λ (x : MuxState). replicate sub_table_count (nat_lt 0 x.slots)) view;
  kept_queues =
      subst (λ (l : List Queue). AreTaken (stream_number_before m.schedule.description next.description) next.description.streams queues m.queues l)
      (sym (ap (λ (x : MuxState). x.queues) is))
      (subst (λ (x : MuxState). AreTaken (stream_number_before x.schedule.description next.description) next.description.streams queues x.queues qs) view
      (subst (λ (x : Described). AreTaken (stream_number_before x next.description) next.description.streams queues old.queues qs) at
      (subst (λ (x : Described). AreTaken (stream_number_before was x) x.streams queues old.queues qs) first taken)));
  kept_carousels =
      subst (λ (l : List Carousel). AreTaken (table_number_before m.schedule.description next.description) (table_kinds next.description) carousels m.carousels l)
      (sym (ap (λ (x : MuxState). x.carousels) is))
      (subst (λ (x : MuxState). AreTaken (table_number_before x.schedule.description next.description) (table_kinds next.description) carousels x.carousels cs) view
      (subst (λ (x : Described). AreTaken (table_number_before x next.description) (table_kinds next.description) carousels old.carousels cs) at
      (subst (λ (x : Described). AreTaken (table_number_before was x) (table_kinds x) carousels old.carousels cs) second turned)));
  capacity = ap (λ (x : MuxState). x.capacity) is ∙ ap (λ (x : MuxState). x.capacity) view;
  slots = ap (λ (x : MuxState). x.slots) is ∙ ap (λ (x : MuxState). x.slots) view;
}
