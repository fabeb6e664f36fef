-- A line-up without a fault keeps what stays.
use Rattle.std.proofs.Common.{◌≡◌, ℕ, ◌+◌, ◌≤◌, ◌<◌, ◌==◌, ◌||◌, nat_lt, not, Bool, true, false, List, [], ◌∷◌, length, map, Option, None, Some, slice_get, option_map}
use Rattle.std.proofs.Common.{refl, sym, ap, ap₂, ◌∙◌, arith, inl, inr, eqb-true, if◌then◌else◌}
use Rattle.std.proofs.lemmas.Bool.{and_parts, cases_eq, cases_lt, eq-eqb, ne_eqb, lt-ltb, false≢true}
use Rattle.std.proofs.lemmas.Option.{slice_get_within}
use Rattle.std.specs.List.{list_all, zip}
use Rattle.std.specs.Prelude.{option_and_then, position}
use Rattle.std.specs.Option.{option_or}
use Rattle.description_parts.specs.Described.{Described, DescribedProgram, DescribedStream}
use Rattle.description_parts.specs.Ranges.{IsInRange}
use Rattle.description_parts.specs.Tables.{table_kinds, table_kind, table_count, table_pid, section_lengths, packets_of_section}
use Rattle.description_parts.specs.declared.table_kind.TableKind.{TableKind}
use Rattle.slot_plan.specs.declared.slot.Slot.{Slot}
use Rattle.slot_plan.specs.declared.slot.Slot.TheVariants.{Stream, Pcr, Table, Null}
use Rattle.slot_plan.specs.declared.slot.Item.TheVariants.{Stream as StreamItem, Pcr as PcrItem, Table as TableItem, System}
use Rattle.slot_plan.specs.Items.{is_own}
use Rattle.slot_plan.specs.Schedule.{repeated}
use Rattle.slot_plan.specs.SlotPids.{slot_pid}
use Rattle.changed_texts.specs.Fixed.{is_same_option, is_same_stream}
use Rattle.changed_texts.proofs.Differences.{none_passes}
use Rattle.changed_texts.proofs.Sameness.{stream_alike, same_bool}
use Rattle.plan_checker.specs.Served.{Served}
use Rattle.line_ups.specs.Kept.{slot_count, slot_with, slot_in, is_null, is_same_slot, stream_number, table_number, clock_number}
use Rattle.line_ups.specs.Kept.{stream_before, table_before, clock_before, program_before}
use Rattle.line_ups.specs.Faults.{whole_fault, pid_fault, slots_fault, shape_fault, order_fault, line_up_fault, is_other, is_reused, differs_at}
use Rattle.line_ups.specs.Faults.{longer_period, divides, has_same_places, loses_shape, is_later, has_same_names}
use Rattle.line_ups.specs.Laws.{StreamStays, TableStays, ClockStays, SystemStays, PidStays, KeptLaw, MovesOnceLaw}
use Rattle.line_ups.proofs.Numbers.{IsNumbered, slot_numbered}
use Rattle.line_ups.proofs.Repeats.{Common, common}
use Rattle.line_ups.proofs.KeptSlots.{slot_eq, slot_found, Stays, stays, goes_back, same_carried, same_own}

no_fault : {X : Type 0} (a b : Option X) → option_or a b ≡ None → (a ≡ None) × (b ≡ None)
no_fault None b h = (refl, h)
no_fault (Some x) b h = absurd (cc)

nothing : {X Y : Type 0} (f : X → Y) (o : Option X) → option_map f o ≡ None → o ≡ None
nothing f None h = refl
nothing f (Some x) h = absurd (cc)

-- The own slots of an item are the places of its slot.
stream_own : (k : ℕ) (slot : Slot) → is_own (StreamItem k) slot ≡ slot_eq (Stream k) slot
stream_own k (Stream j) = refl
stream_own k (Pcr j) = refl
stream_own k (Table j) = refl
stream_own k Null = refl

clock_own : (k : ℕ) (slot : Slot) → is_own (PcrItem k) slot ≡ slot_eq (Pcr k) slot
clock_own k (Stream j) = refl
clock_own k (Pcr j) = refl
clock_own k (Table j) = refl
clock_own k Null = refl

table_own : (k : ℕ) (slot : Slot) → is_own (TableItem k) slot ≡ slot_eq (Table k) slot
table_own k (Stream j) = refl
table_own k (Pcr j) = refl
table_own k (Table j) = refl
table_own k Null = refl

-- What the parts of a line-up without a fault say
record NoFault (old new : Served) : Type 0 where
  whole : whole_fault old.description new.description ≡ None
  pids : pid_fault old.description new.description ≡ None
  slots : slots_fault old new ≡ None
  shapes : shape_fault old.description new.description ≡ None
  order : order_fault old.description new.description ≡ None

none_of : (old new : Served) → line_up_fault old new ≡ None → NoFault old new
none_of old new h =
    let two = no_fault _ _ h in
    let names = no_fault _ _ two.0 in
    let slots = no_fault _ _ two.1 in
    let rounds = no_fault _ _ slots.1 in
    record { whole = names.0; pids = names.1; slots = slots.0; shapes = rounds.0; order = rounds.1 }

-- Slots
moved_if : {X : Type 0} (b : Bool) (o : Option X) (x : X) → (if b then o else Some x) ≡ None → (b ≡ true) × (o ≡ None)
moved_if true o x h = (refl, h)
moved_if false o x h = absurd (cc)

record Agree (old new : Served) : Type 0 where
  period : Common (length old.plan.slots) (length new.plan.slots) (longer_period old new)
  same : (s : ℕ) → s < longer_period old new → differs_at old new s ≡ false

agree : (old new : Served) → slots_fault old new ≡ None → Agree old new
agree old new h =
    let two = moved_if (divides (length old.plan.slots) (length new.plan.slots)) _ _ h in
    record {
      period = common (length old.plan.slots) (length new.plan.slots) two.0;
      same = λ s lt. none_passes (differs_at old new) (longer_period old new) s (nothing _ _ two.1) lt;
    }

-- What stays has the same slots over all time.
same_slots : (old new : Served) (n o : Slot) (s : ℕ) → IsInRange old.description → IsInRange new.description → Agree old new →
    Stays old.description new.description n o → slot_eq o (repeated old.plan.slots s) ≡ slot_eq n (repeated new.plan.slots s)
same_slots old new n o s r r' a st = same_own old new n o s r r' st (same_carried old new n o s st a.period a.same)

-- Numbers
stream_of : (slot : Slot) (i : ℕ) → stream_number slot ≡ Some i → slot ≡ Stream i
stream_of (Stream j) i e = let same : j ≡ i = cc in ap Stream same
stream_of (Pcr j) i e = absurd (cc)
stream_of (Table j) i e = absurd (cc)
stream_of Null i e = absurd (cc)

table_of : (slot : Slot) (i : ℕ) → table_number slot ≡ Some i → slot ≡ Table i
table_of (Stream j) i e = absurd (cc)
table_of (Pcr j) i e = absurd (cc)
table_of (Table j) i e = let same : j ≡ i = cc in ap Table same
table_of Null i e = absurd (cc)

clock_of : (slot : Slot) (i : ℕ) → clock_number slot ≡ Some i → slot ≡ Pcr i
clock_of (Stream j) i e = absurd (cc)
clock_of (Pcr j) i e = let same : j ≡ i = cc in ap Pcr same
clock_of (Table j) i e = absurd (cc)
clock_of Null i e = absurd (cc)

-- Clock references
clock_stays : (old new : Served) (j i : ℕ) → IsInRange old.description → IsInRange new.description → Agree old new →
    clock_before old.description new.description j ≡ Some i → ClockStays old new j i
clock_stays old new j i r r' a e s =
    let st = stays old.description new.description (Pcr j) (Pcr i) (clock_of (slot_in old.description new.description (Pcr j)) i e) refl in
    clock_own i (repeated old.plan.slots s) ∙ same_slots old new (Pcr j) (Pcr i) s r r' a st ∙ sym (clock_own j (repeated new.plan.slots s))

-- Streams
not_false : (b : Bool) → not b ≡ false → b ≡ true
not_false true h = refl
not_false false h = absurd (false≢true (sym h))

not_other : (old new : Described) (o n : Slot) → is_other old new o n ≡ false → is_null o ≡ false → is_same_slot old new o n ≡ true
not_other old new (Stream i) n h some = not_false (is_same_slot old new (Stream i) n) h
not_other old new (Pcr i) n h some = not_false (is_same_slot old new (Pcr i) n) h
not_other old new (Table i) n h some = not_false (is_same_slot old new (Table i) n) h
not_other old new Null n h some = absurd (false≢true (sym some))

-- What stays on a PID is the same thing.
same_thing : (old new : Described) (n o : Slot) → pid_fault old new ≡ None → IsNumbered new n → slot_in old new n ≡ o → is_null o ≡ false →
    is_same_slot old new o n ≡ true
same_thing old new n o none num e some =
    let f : is_reused old new num.number ≡ false = none_passes (is_reused old new) (slot_count new) num.number (nothing _ _ none) num.within in
    let g : is_other old new (slot_in old new n) n ≡ false = ap (λ (x : Slot). is_other old new (slot_in old new x) x) (sym num.is) ∙ f in
    not_other old new o n (ap (λ (x : Slot). is_other old new x n) (sym e) ∙ g) some

thing_stays : (old new : Described) (n o : Slot) → pid_fault old new ≡ None → slot_in old new n ≡ o → is_null o ≡ false → is_same_slot old new o n ≡ true
thing_stays old new n o none e some =
    let st = stays old new n o e some in same_thing old new n o none (slot_numbered new n st.pid st.now) e some

-- A PID that both have is carried in the same slots.
pid_stays : (old new : Served) (pid : ℕ) → Agree old new → PidStays old new pid
pid_stays old new pid a before now s =
    same_carried old new (slot_with new.description pid) (slot_with old.description pid) s (record {
      pid = pid;
      now = slot_found new.description pid (slot_with new.description pid) refl now;
      before = slot_found old.description pid (slot_with old.description pid) refl before;
    }) a.period a.same

record BothStreams (a b : Option DescribedStream) : Type 0 where
  one : DescribedStream
  other : DescribedStream
  first : a ≡ Some one
  second : b ≡ Some other
  alike : is_same_stream one other ≡ true

both_streams : (a b : Option DescribedStream) (pid : ℕ) → is_same_option is_same_stream a b ≡ true → option_map (λ s. s.pid) b ≡ Some pid → BothStreams a b
both_streams None None pid h e = absurd (cc)
both_streams (Some s) None pid h e = absurd (cc)
both_streams None (Some t) pid h e = absurd (false≢true h)
both_streams (Some s) (Some t) pid h e = record { one = s; other = t; first = refl; second = refl; alike = h }

stream_stays : (old new : Served) (k i : ℕ) → IsInRange old.description → IsInRange new.description → pid_fault old.description new.description ≡ None →
    Agree old new → stream_before old.description new.description k ≡ Some i → StreamStays old new k i
unfolding slot_pid
stream_stays old new k i r r' none a e =
    let was = stream_of (slot_in old.description new.description (Stream k)) i e in
    let st = stays old.description new.description (Stream k) (Stream i) was refl in
    let b = both_streams (slice_get old.description.streams i) (slice_get new.description.streams k) st.pid
    (thing_stays old.description new.description (Stream k) (Stream i) none was refl) st.now in
    record {
      stream = b.other;
      before = b.one;
      has = b.second;
      had = b.first;
      declares = stream_alike b.one b.other b.alike;
      own = λ s. stream_own i (repeated old.plan.slots s) ∙ same_slots old new (Stream k) (Stream i) s r r' a st
          ∙ sym (stream_own k (repeated new.plan.slots s));
    }

-- Tables
record IsTableOn (d : Described) (t pid : ℕ) : Type 0 where
  within : t < table_count d
  is : table_pid d t ≡ pid

table_on : (d : Described) (t pid : ℕ) (o : Option TableKind) → table_kind d t ≡ o → option_map (λ k. table_pid d t) o ≡ Some pid → IsTableOn d t pid
table_on d t pid None is e = absurd (cc)
table_on d t pid (Some kind) is e = let same : table_pid d t ≡ pid = cc in record { within = slice_get_within (table_kinds d) t kind is; is = same }

same_packets : (olds news : List ℕ) → length olds ≡ length news →
    list_all (λ p. packets_of_section p.0 == packets_of_section p.1) (zip olds news) ≡ true → map packets_of_section olds ≡ map packets_of_section news
same_packets [] [] n h = refl
same_packets [] (m ∷ news) n h = absurd (omega (arith, n))
same_packets (l ∷ olds) [] n h = absurd (omega (arith, n))
same_packets (l ∷ olds) (m ∷ news) n h =
    let both = and_parts _ _ h in
    ap₂ (λ (x : ℕ) (xs : List ℕ). x ∷ xs) (eqb-true (packets_of_section l) (packets_of_section m) both.0) (same_packets olds news (omega (arith, n)) both.1)

same_places : (old new : Described) (t i : ℕ) → shape_fault old new ≡ None → t < table_count new → table_before old new t ≡ Some i →
    map packets_of_section (section_lengths old i) ≡ map packets_of_section (section_lengths new t)
same_places old new t i none lt e =
    let f : loses_shape old new t ≡ false = none_passes (loses_shape old new) (table_count new) t (nothing _ _ none) lt in
    let g : not (has_same_places (section_lengths old i) (section_lengths new t)) ≡ false =
    sym (ap (λ (o : Option ℕ). elim o [ None ↦ false | Some j ↦ not (has_same_places (section_lengths old j) (section_lengths new t)) ]) e) ∙ f in
    let both = and_parts _ _ (not_false (has_same_places (section_lengths old i) (section_lengths new t)) g) in
    same_packets (section_lengths old i) (section_lengths new t) (eqb-true (length (section_lengths old i)) (length (section_lengths new t)) both.0) both.1

table_stays : (old new : Served) (t i : ℕ) → IsInRange old.description → IsInRange new.description → shape_fault old.description new.description ≡ None →
    Agree old new → table_before old.description new.description t ≡ Some i → TableStays old new t i
unfolding slot_pid
table_stays old new t i r r' none a e =
    let st = stays old.description new.description (Table t) (Table i) (table_of (slot_in old.description new.description (Table t)) i e) refl in
    let now = table_on new.description t st.pid (table_kind new.description t) refl st.now in
    let before = table_on old.description i st.pid (table_kind old.description i) refl st.before in
    record {
      within = before.within;
      pid = before.is ∙ sym now.is;
      places = same_places old.description new.description t i none now.within e;
      own = λ s. table_own i (repeated old.plan.slots s) ∙ same_slots old new (Table t) (Table i) s r r' a st
          ∙ sym (table_own t (repeated new.plan.slots s));
    }

-- The packets of a program's tables
eq_turned : (a b : ℕ) → (a == b) ≡ (b == a)
eq_turned a b = elim (cases_eq a b) [
  | inl e ↦ eq-eqb a b e ∙ sym (eq-eqb b a (sym e))
  | inr ne ↦ ne_eqb a b ne ∙ sym (ne_eqb b a (λ e. ne (sym e)))
]

system_own : (p : ℕ) (slot : Slot) → is_own (System p) slot ≡ (slot_eq (Table 0) slot || slot_eq (Table (1 + p)) slot)
system_own p (Stream j) = refl
system_own p (Pcr j) = refl
system_own p (Table n) =
    let more : p + 1 ≡ 1 + p = omega arith in
    ap (λ (b : Bool). b || (n == p + 1)) (eq_turned n 0)
    ∙ ap (λ (b : Bool). (0 == n) || b) (ap (λ (m : ℕ). n == m) more ∙ eq_turned n (1 + p))
system_own p Null = refl

pat_stays : (old new : Described) → Stays old new (Table 0) (Table 0)
unfolding slot_pid
pat_stays old new = record { pid = 0; now = refl; before = refl }

system_stays : (old new : Served) (j i : ℕ) → IsInRange old.description → IsInRange new.description → Agree old new → SystemStays old new j i
system_stays old new j i r r' a e s =
    let pat = same_slots old new (Table 0) (Table 0) s r r' a (pat_stays old.description new.description) in
    let st = stays old.description new.description (Table (1 + j)) (Table (1 + i))
    (table_of (slot_in old.description new.description (Table (1 + j))) (1 + i) e) refl in
    let pmt = same_slots old new (Table (1 + j)) (Table (1 + i)) s r r' a st in
    system_own i (repeated old.plan.slots s)
    ∙ ap₂ (λ (b c : Bool). b || c) pat pmt
    ∙ sym (system_own j (repeated new.plan.slots s))

-- The order of the programs
in_order : (old new : Described) (j i : ℕ) → order_fault old new ≡ None → j < length new.programs → program_before old new j ≡ Some i → j ≤ i
in_order old new j i none lt e =
    let f : is_later old new j ≡ false = none_passes (is_later old new) (length new.programs) j (nothing _ _ none) lt in
    let g : nat_lt i j ≡ false = sym (ap (λ (o : Option ℕ). elim o [ None ↦ false | Some n ↦ nat_lt n j ]) e) ∙ f in
    elim (cases_lt i j) [ inl less ↦ absurd (false≢true (sym g ∙ lt-ltb i j less)) | inr le ↦ le ]

program_there : (old new : Described) (j i : ℕ) (o : Option DescribedProgram) → slice_get new.programs j ≡ o →
    option_and_then (λ n. position (λ q. q.number == n) old.programs) (option_map (λ p. p.number) o) ≡ Some i → j < length new.programs
program_there old new j i None is e = absurd (cc)
program_there old new j i (Some p) is e = slice_get_within new.programs j p is

-- The whole
no_if : {X : Type 0} (b : Bool) (x : X) (rest : Option X) → (if not b then Some x else rest) ≡ None → (b ≡ true) × (rest ≡ None)
no_if true x rest h = (refl, h)
no_if false x rest h = absurd (cc)

else_none : {X : Type 0} (b : Bool) (x : X) → (if b then None else Some x) ≡ None → b ≡ true
else_none true x h = refl
else_none false x h = absurd (cc)

record IsSameWhole (old new : Described) : Type 0 where
  rate : old.rate ≡ new.rate
  clock : (old.base0 == new.base0) ≡ true
  names : has_same_names old new ≡ true

same_whole : (old new : Described) → whole_fault old new ≡ None → IsSameWhole old new
same_whole old new h =
    let rates = no_if _ _ _ h in
    let clock = no_if _ _ _ rates.1 in
    record { rate = eqb-true _ _ rates.0; clock = clock.0; names = else_none _ _ clock.1 }

pub kept_law : KeptLaw
kept_law old new r r' serving serves h =
    let n = none_of old new h in
    let whole = same_whole old.description new.description n.whole in
    let names = and_parts _ _ whole.names in
    let front = and_parts _ _ names.0 in
    let a = agree old new n.slots in
    record {
      rate = sym whole.rate;
      base0 = sym (eqb-true _ _ whole.clock);
      transport_stream_id = sym (eqb-true _ _ front.0);
      original_network_id = sym (eqb-true _ _ front.1);
      is_transponder = sym (same_bool _ _ names.1);
      pids = λ pid before now. pid_stays old new pid a before now;
      things = λ slot before e some. thing_stays old.description new.description slot before n.pids e some;
      streams = λ k i e. stream_stays old new k i r r' n.pids a e;
      tables = λ t i e. table_stays old new t i r r' n.shapes a e;
      clocks = λ j i e. clock_stays old new j i r r' a e;
      systems = λ j i. system_stays old new j i r r' a;
      order = λ j i e. in_order old.description new.description j i n.order
          (program_there old.description new.description j i (slice_get new.description.programs j) refl e) e;
    }

-- Nothing is moved twice.
stream_once : (j k : ℕ) → Stream j ≡ Stream k → j ≡ k
stream_once j k e = cc

table_once : (t u : ℕ) → Table t ≡ Table u → t ≡ u
table_once t u e = cc

pub moves_once : MovesOnceLaw
moves_once = record {
  streams = λ old new j k i r one two.
      let a = stays old.description new.description (Stream j) (Stream i) (stream_of (slot_in old.description new.description (Stream j)) i one) refl in
      let b = stays old.description new.description (Stream k) (Stream i) (stream_of (slot_in old.description new.description (Stream k)) i two) refl in
      stream_once j k (sym (goes_back old.description new.description (Stream j) (Stream i) r a)
      ∙ goes_back old.description new.description (Stream k) (Stream i) r b);
  tables = λ old new t u i r one two.
      let a = stays old.description new.description (Table t) (Table i) (table_of (slot_in old.description new.description (Table t)) i one) refl in
      let b = stays old.description new.description (Table u) (Table i) (table_of (slot_in old.description new.description (Table u)) i two) refl in
      table_once t u (sym (goes_back old.description new.description (Table t) (Table i) r a)
      ∙ goes_back old.description new.description (Table u) (Table i) r b);
}
