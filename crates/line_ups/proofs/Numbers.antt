-- The slots of a description by number, and their PIDs
use Rattle.std.proofs.Common.{◌≡◌, ◌⊎◌, ℕ, zero, suc, ◌+◌, ◌-◌, ◌<◌, ◌≤◌, ◌==◌, nat_lt, Bool, true, false, cond, List, length, map, find, Option, None, Some, get_or}
use Rattle.std.proofs.Common.{slice_get, option_map, position, not, refl, sym, ap, ◌∙◌, arith, inl, inr, lt-ltb, le-ltb, eq-eqb, eqb-true, if◌then◌else◌}
use Rattle.std.proofs.lemmas.Bool.{false≢true}
use Rattle.std.proofs.lemmas.List.FromFn.{get_or-map-range_with_len, length-map-range_with_len}
use Rattle.std.proofs.lemmas.List.Quantifiers.{position-Some}
use Rattle.std.proofs.lemmas.Option.{slice_get_within, slice_get_past}
use Rattle.std.specs.List.{range_with_len}
use Rattle.std.specs.Prelude.{option_and_then}
use Rattle.description_parts.specs.Described.{Described, DescribedProgram, DescribedStream}
use Rattle.description_parts.specs.Tables.{has_references, table_kinds, table_kind, table_count, table_pid, section_lengths}
use Rattle.description_parts.specs.declared.table_kind.TableKind.{TableKind}
use Rattle.description_parts.proofs.Counts.{no_position}
use Rattle.slot_plan.specs.declared.slot.Slot.{Slot}
use Rattle.slot_plan.specs.declared.slot.Slot.TheVariants.{Stream, Pcr, Table, Null}
use Rattle.slot_plan.specs.SlotPids.{slot_pid}
use Rattle.line_ups.specs.Kept.{numbered_slot, slot_count, slot_pids, is_pid, number_with, slot_with, slot_in, table_number, program_number, program_before}
use Rattle.line_ups.specs.Faults.{is_other, is_reused, has_same_places, loses_shape}

-- ---- a search

first_or : (b : Bool) (x i : ℕ) (rest : Option ℕ) → cond b (Some x) rest ≡ Some i → (x ≡ i) ⊎ (rest ≡ Some i)
first_or true x i rest h = let same : x ≡ i = cc in inl same
first_or false x i rest h = inr h

in_range : (p : ℕ → Bool) (a n i : ℕ) → find p (range_with_len a n) ≡ Some i → i < a + n
in_range p a zero i h = absurd (cc)
in_range p a (suc n) i h = elim (first_or (p a) a i (find p (range_with_len (a + 1) n)) h) [
  | inl here ↦ omega (arith, here)
  | inr there ↦ let later = in_range p (a + 1) n i there in omega (arith, later)
]

pub found_within : (p : ℕ → Bool) (n i : ℕ) (o : Option ℕ) → o ≡ find p (range_with_len 0 n) → o ≡ Some i → i < n
found_within p n i o is e = let h = in_range p 0 n i (sym is ∙ e) in omega (arith, h)

-- ---- PIDs

pub pid_is : (pid : ℕ) (o : Option ℕ) → is_pid pid o ≡ true → o ≡ Some pid
pid_is pid None h = absurd (false≢true h)
pid_is pid (Some other) h = ap Some (sym (eqb-true pid other h))

pub is_pid_of : (pid : ℕ) (o : Option ℕ) → o ≡ Some pid → is_pid pid o ≡ true
is_pid_of pid o e = ap (is_pid pid) e ∙ eq-eqb pid pid refl

abbrev pid_at : Described → ℕ → Option ℕ
pid_at d n = slot_pid d (numbered_slot d n)

-- the list of PIDs, one after another
pub has_room : (d : Described) (xs : List (Option ℕ)) (n : ℕ) → xs ≡ map (λ i. slot_pid d (numbered_slot d i)) (range_with_len 0 n) → n < 451 → length xs < 451
has_room d xs n is below = let same : length xs ≡ n = ap length is ∙ length-map-range_with_len (pid_at d) 0 n in omega (arith, same, below)

as_many : (d : Described) → length (slot_pids d) ≡ slot_count d
as_many d = length-map-range_with_len (pid_at d) 0 (slot_count d)

at_number : (d : Described) (n : ℕ) → n < slot_count d → get_or (slot_pids d) n None ≡ pid_at d n
at_number d n lt = get_or-map-range_with_len (pid_at d) 0 (slot_count d) n n None lt (omega arith)

-- what a PID finds has that PID, and what has the PID is found
pub record IsFound (d : Described) (pid n : ℕ) : Type 0 where
  pub within : n < slot_count d
  pub is : slot_pid d (numbered_slot d n) ≡ Some pid

pub number_found : (d : Described) (pid n : ℕ) → number_with d pid ≡ Some n → IsFound d pid n
number_found d pid n e =
    let at = position-Some (is_pid pid) (slot_pids d) n None e in
    let lt : n < slot_count d = omega (arith, at.0, as_many d) in
    record { within = lt; is = pid_is pid (pid_at d n) (ap (is_pid pid) (sym (at_number d n lt)) ∙ at.1) }

pub number_within : (d : Described) (pids : List (Option ℕ)) (pid n : ℕ) (o : Option ℕ) → pids ≡ slot_pids d → o ≡ position (is_pid pid) pids → o ≡ Some n → n < slot_count d
number_within d pids pid n o same is e = (number_found d pid n (ap (position (is_pid pid)) (sym same) ∙ sym is ∙ e)).within

pub number_missed : (d : Described) (pid n : ℕ) → number_with d pid ≡ None → n < slot_count d → is_pid pid (slot_pid d (numbered_slot d n)) ≡ false
number_missed d pid n e lt =
    ap (is_pid pid) (sym (at_number d n lt)) ∙ no_position (is_pid pid) (slot_pids d) e n None (omega (arith, lt, as_many d))

-- ---- numbers of slots

-- A slot that the description has is one of its slots by number.
pub record IsNumbered (d : Described) (slot : Slot) : Type 0 where
  pub number : ℕ
  pub within : number < slot_count d
  pub is : numbered_slot d number ≡ slot

table_numbered : (d : Described) (t pid : ℕ) (o : Option TableKind) → table_kind d t ≡ o → option_map (λ k. table_pid d t) o ≡ Some pid → IsNumbered d (Table t)
table_numbered d t pid None is e = absurd (cc)
table_numbered d t pid (Some kind) is e =
    let lt : t < table_count d = slice_get_within (table_kinds d) t kind is in
    record { number = t; within = omega (arith, lt); is = rw (lt-ltb t (table_count d) lt) refl }

clock_numbered : (d : Described) (i pid : ℕ) (b : Bool) (o : Option DescribedProgram) → slice_get d.programs i ≡ o →
    (if b then option_map (λ p. p.pcr_pid) o else None) ≡ Some pid → IsNumbered d (Pcr i)
clock_numbered d i pid false o is e = absurd (cc)
clock_numbered d i pid true None is e = absurd (cc)
clock_numbered d i pid true (Some p) is e =
    let lt : i < length d.programs = slice_get_within d.programs i p is in
    let past : nat_lt (table_count d + i) (table_count d) ≡ false = le-ltb (table_count d + i) (table_count d) (omega arith) in
    let here : nat_lt (table_count d + i) (table_count d + length d.programs) ≡ true =
    lt-ltb (table_count d + i) (table_count d + length d.programs) (omega (arith, lt)) in
    let same : table_count d + i - table_count d ≡ i = omega arith in
    record { number = table_count d + i; within = omega (arith, lt); is = rw (past, here) (ap Pcr same) }

stream_numbered : (d : Described) (k pid : ℕ) (o : Option DescribedStream) → slice_get d.streams k ≡ o → option_map (λ s. s.pid) o ≡ Some pid → IsNumbered d (Stream k)
stream_numbered d k pid None is e = absurd (cc)
stream_numbered d k pid (Some s) is e =
    let lt : k < length d.streams = slice_get_within d.streams k s is in
    let n : ℕ = table_count d + length d.programs + k in
    let past : nat_lt n (table_count d) ≡ false = le-ltb n (table_count d) (omega arith) in
    let beyond : nat_lt n (table_count d + length d.programs) ≡ false = le-ltb n (table_count d + length d.programs) (omega arith) in
    let same : n - (table_count d + length d.programs) ≡ k = omega arith in
    record { number = n; within = omega (arith, lt); is = rw (past, beyond) (ap Stream same) }

pub slot_numbered : (d : Described) (slot : Slot) (pid : ℕ) → slot_pid d slot ≡ Some pid → IsNumbered d slot
unfolding slot_pid
slot_numbered d (Table t) pid e = table_numbered d t pid (table_kind d t) refl e
slot_numbered d (Pcr i) pid e = clock_numbered d i pid (has_references d i) (slice_get d.programs i) refl e
slot_numbered d (Stream k) pid e = stream_numbered d k pid (slice_get d.streams k) refl e
slot_numbered d Null pid e = absurd (cc)

-- A number past the last one has no slot.
beyond_none : (d : Described) (n : ℕ) → slot_count d ≤ n → slot_pid d (numbered_slot d n) ≡ None
unfolding slot_pid
beyond_none d n le =
    let past : nat_lt n (table_count d) ≡ false = le-ltb n (table_count d) (omega (arith, le)) in
    let beyond : nat_lt n (table_count d + length d.programs) ≡ false = le-ltb n (table_count d + length d.programs) (omega (arith, le)) in
    let none : slice_get d.streams (n - (table_count d + length d.programs)) ≡ None =
    slice_get_past d.streams (n - (table_count d + length d.programs)) (omega (arith, le)) in
    rw (past, beyond) (ap (option_map (λ (s : DescribedStream). s.pid)) none)

null_in : (old new : Described) (slot : Slot) → slot_pid new slot ≡ None → slot_in old new slot ≡ Null
null_in old new slot is = ap (λ (p : Option ℕ). elim p [ None ↦ Null | Some pid ↦ slot_with old pid ]) is

pub none_beyond : (old new : Described) (n : ℕ) → slot_count new ≤ n → is_reused old new n ≡ false
none_beyond old new n le =
    ap (λ (before : Slot). is_other old new before (numbered_slot new n)) (null_in old new (numbered_slot new n) (beyond_none new n le))

pub no_table_beyond : (old new : Described) (t : ℕ) → table_count new ≤ t → loses_shape old new t ≡ false
unfolding slot_pid
no_table_beyond old new t le =
    let none : slot_pid new (Table t) ≡ None = ap (option_map (λ (k : TableKind). table_pid new t)) (slice_get_past (table_kinds new) t le) in
    ap (λ (before : Slot). elim (table_number before) [ None ↦ false | Some i ↦ not (has_same_places (section_lengths old i) (section_lengths new t)) ])
    (null_in old new (Table t) none)

-- ---- programs

pub program_of : (old new : Described) (j number : ℕ) (ps : List DescribedProgram) (o r : Option ℕ) → o ≡ position (λ q. q.number == number) ps →
    ps ≡ old.programs → r ≡ program_number new j → r ≡ Some number → o ≡ program_before old new j
program_of old new j number ps o r is same numbered there =
    is ∙ ap (position (λ (q : DescribedProgram). q.number == number)) same
    ∙ sym (ap (option_and_then (λ (n : ℕ). position (λ (q : DescribedProgram). q.number == n) old.programs)) (sym numbered ∙ there))
