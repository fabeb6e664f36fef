-- What comes has carried nothing, and what goes is whole.
use Rattle.std.proofs.Common.{◌≡◌, ◌⊎◌, ℕ, zero, suc, ◌+◌, ◌<◌, ◌≤◌, ◌&&◌, Bool, true, false, cond, List, [], ◌∷◌, length, find, Option, Some, None, slice_get}
use Rattle.std.proofs.Common.{option_map, option_and_then, if◌then◌else◌, refl, sym, ap, ◌∙◌, arith, inl, inr}
use Rattle.std.proofs.lemmas.Bool.{cases_Bool, cases_eq, cases_lt, lt-ltb, ne_eqb, false≢true}
use Rattle.std.specs.List.{range_with_len}
use Rattle.std.specs.Option.{option_or}
use Rattle.own_slots.specs.Slots.{own_before}
use Rattle.pes_packet.specs.AccessUnits.{AccessUnit}
use Rattle.ts_packet.specs.PidList.{is_of_pid, pid_list}
use Rattle.slot_contents.specs.Contents.{Content, NullContent, view_of, run_bytes, entry_at, entries_in}
use Rattle.slot_contents.specs.RunLaws.{Fits}
use Rattle.slot_contents.proofs.Runs.{run_pid_list}
use Rattle.description_parts.specs.Described.{Described, DescribedStream}
use Rattle.description_parts.specs.Ranges.{IsInRange}
use Rattle.description_parts.specs.Tables.{table_kinds, table_count, table_pid}
use Rattle.description_parts.specs.declared.table_kind.TableKind.{TableKind}
use Rattle.changed_texts.proofs.Differences.{none_passes}
use Rattle.slot_plan.specs.declared.slot.Slot.{Slot}
use Rattle.slot_plan.specs.declared.slot.Slot.TheVariants.{Stream, Pcr, Table, Null}
use Rattle.slot_plan.specs.Schedule.{slot_of}
use Rattle.slot_plan.specs.SlotPids.{slot_pid}
use Rattle.slot_plan.proofs.SlotPids.{slots_below}
use Rattle.plan_checker.specs.Served.{Served}
use Rattle.unit_queue.specs.Places.{place_at, content_of, stream_content}
use Rattle.table_rounds.specs.Parts.{part_of, part_content}
use Rattle.table_rounds.specs.Tables.{Table as TableSlots, begin_before, not_yet, bytes_at, part_at, payloads_before}
use Rattle.table_rounds.specs.Tables.{place_at as table_place}
use Rattle.table_rounds.proofs.SilentTables.{begin_within}
use Rattle.line_ups.specs.Kept.{stream_before, table_before, is_gone}
use Rattle.line_ups.specs.Faults.{line_up_fault}
use Rattle.mux_core.specs.Scheduled.{Scheduled}
use Rattle.mux_core.specs.Histories.{History, past_of, from_of, owned_stream, table_over, stream_in, table_in, content_in, content_over}
use Rattle.mux_core.specs.Headline.{UnitsKept}
use Rattle.mux_core.specs.MuxStates.{waiting_of}
use Rattle.mux_core.specs.LineUps.{scheduled_by, served_by, next_history, bytes_by, some_wait, goes_waiting, pid_at, waiting_pid, line_up_cause, SilentBefore, WholeGone}
use Rattle.mux_core.specs.declared.line_up.TakeOverError.TheVariants as error
use Rattle.mux_core.proofs.ContentPids.{silent, is_content_pid, content_pid}
use Rattle.mux_core.proofs.TablesRead.{there}
use Rattle.mux_core.proofs.Whole.{contents_fit_over}

-- Bytes without a packet on a PID

no_entries : (pid : ℕ) (f : ℕ → Content) (s n : ℕ) → ((t : ℕ) → t < s + n → is_of_pid pid (view_of (f t)) ≡ false) → entries_in pid f s n ≡ []
unfolding entries_in
no_entries pid f s zero none = refl
no_entries pid f s (suc n) none =
    ap (λ (b : Bool). cond b (entry_at s (f s) ∷ entries_in pid f (suc s) n) (entries_in pid f (suc s) n)) (none s (omega arith))
    ∙ no_entries pid f (suc s) n (λ t lt. none t (omega (arith, lt)))

nothing_on : (pid slots : ℕ) (f : ℕ → Content) → Fits f → ((s : ℕ) → s < slots → is_of_pid pid (view_of (f s)) ≡ false) → pid_list pid (run_bytes f 0 slots) ≡ []
nothing_on pid slots f fits none = run_pid_list pid slots f fits ∙ no_entries pid f 0 slots (λ t lt. none t (omega (arith, lt)))

null_off : (pid : ℕ) (c : Content) → pid < 8191 → c ≡ NullContent → is_of_pid pid (view_of c) ≡ false
unfolding content_pid
null_off pid c below is =
    ap (λ (x : Content). is_of_pid pid (view_of x)) is ∙ is_content_pid pid NullContent ∙ ne_eqb 8191 pid (λ e. omega (arith, e, below))

-- A slot is the one of a stream, or of a table, or another.

is_stream : (k : ℕ) (slot : Slot) → (slot ≡ Stream k) ⊎ (slot ≡ Stream k → ⊥)
is_stream k (Stream j) = elim (cases_eq j k) [ inl e ↦ inl (ap Stream e) | inr ne ↦ inr (λ e. let same : j ≡ k = cc in ne same) ]
is_stream k (Pcr p) = inr (λ e. absurd (cc))
is_stream k (Table t) = inr (λ e. absurd (cc))
is_stream k Null = inr (λ e. absurd (cc))

is_table : (t : ℕ) (slot : Slot) → (slot ≡ Table t) ⊎ (slot ≡ Table t → ⊥)
is_table t (Stream k) = inr (λ e. absurd (cc))
is_table t (Pcr p) = inr (λ e. absurd (cc))
is_table t (Table u) = elim (cases_eq u t) [ inl e ↦ inl (ap Table e) | inr ne ↦ inr (λ e. let same : u ≡ t = cc in ne same) ]
is_table t Null = inr (λ e. absurd (cc))

module _ (d : Scheduled) (next : Served) (h : History) where
  abbrev z : Scheduled
  z = scheduled_by next

  abbrev now : History
  now = next_history d h next.description

  -- A stream that comes

  stream_none : (s k : ℕ) (x : DescribedStream) (units : List AccessUnit) → units ≡ [] → stream_content (owned_stream z k x) units s ≡ NullContent
  stream_none s k x units e =
      let none : place_at (owned_stream z k x) 0 0 [] (own_before (owned_stream z k x).own s) ≡ None = unfold place_at in refl in
      ap (λ (us : List AccessUnit). stream_content (owned_stream z k x) us s) e ∙ ap (content_of (owned_stream z k x)) none

  stream_null : (s k : ℕ) (x : DescribedStream) → slice_get next.description.streams k ≡ Some x →
      stream_before d.description next.description k ≡ None → slot_of z.schedule s ≡ Stream k → content_over z now.changes now.units s ≡ NullContent
  unfolding content_over content_in stream_in
  stream_null s k x has is at =
      ap (content_in z now.changes now.units s) at ∙ ap (stream_in z now.units s k) has
      ∙ stream_none s k x (now.units k) (ap (λ (b : Option ℕ). elim b [ None ↦ [] | Some i ↦ h.units i ]) is)

  stream_named : (k : ℕ) (x : DescribedStream) → slice_get next.description.streams k ≡ Some x → slot_pid next.description (Stream k) ≡ Some x.pid
  unfolding slot_pid
  stream_named k x has = ap (option_map (λ s. s.pid)) has

  stream_silent : (k : ℕ) (x : DescribedStream) → IsInRange next.description → UnitsKept z now.units → slice_get next.description.streams k ≡ Some x →
      stream_before d.description next.description k ≡ None → pid_list x.pid (bytes_by d h next) ≡ []
  stream_silent k x r units has is =
      let named = stream_named k x has in
      let below = slots_below next.description (Stream k) x.pid r named in
      nothing_on x.pid h.slots (content_over z now.changes now.units) (contents_fit_over z now.changes now.units r units)
      (λ s lt. elim (is_stream k (slot_of z.schedule s)) [
        | inl at ↦ null_off x.pid (content_over z now.changes now.units s) below (stream_null s k x has is at)
        | inr other ↦ silent z now.changes now.units s x.pid (Stream k) r named other
      ])

  -- A table that comes

  abbrev table_is : ℕ → TableSlots
  table_is t = table_over z now.changes t

  part_none : (t s : ℕ) → table_before d.description next.description t ≡ None → s < h.slots → part_at (table_is t) s ≡ None
  part_none t s is lt =
      let begin : begin_before (table_is t) (suc s) ≤ s = begin_within (table_is t) s in
      ap (λ (from : Option ℕ). cond (not_yet from (begin_before (table_is t) (suc s))) None (part_of (bytes_at (table_is t) s) (table_place (table_is t) s).part))
      (ap (λ (b : Option ℕ). elim b [ None ↦ Some h.slots | Some i ↦ from_of (past_of h.changes) i ]) is)
      ∙ ap (λ (b : Bool). cond b None (part_of (bytes_at (table_is t) s) (table_place (table_is t) s).part))
      (lt-ltb (begin_before (table_is t) (suc s)) h.slots (omega (arith, begin, lt)))

  table_none : (s t : ℕ) (o : Option TableKind) → table_before d.description next.description t ≡ None → s < h.slots → table_in z now.changes s t o ≡ NullContent
  unfolding table_in part_content
  table_none s t None is lt = refl
  table_none s t (Some kind) is lt = ap (part_content (table_is t).pid (payloads_before (table_is t) s)) (part_none t s is lt)

  table_null : (s t : ℕ) → table_before d.description next.description t ≡ None → s < h.slots → slot_of z.schedule s ≡ Table t →
      content_over z now.changes now.units s ≡ NullContent
  unfolding content_over content_in
  table_null s t is lt at = ap (content_in z now.changes now.units s) at ∙ table_none s t (slice_get (table_kinds next.description) t) is lt

  table_named : (t : ℕ) (kind : TableKind) → slice_get (table_kinds next.description) t ≡ Some kind →
      slot_pid next.description (Table t) ≡ Some (table_pid next.description t)
  unfolding slot_pid
  table_named t kind is = ap (option_map (λ k. table_pid next.description t)) is

  table_silent : (t : ℕ) → IsInRange next.description → UnitsKept z now.units → t < table_count next.description →
      table_before d.description next.description t ≡ None → pid_list (table_pid next.description t) (bytes_by d h next) ≡ []
  table_silent t r units within is =
      let k = there (table_kinds next.description) t within in
      let pid = table_pid next.description t in
      let named = table_named t k.0 k.1 in
      let below = slots_below next.description (Table t) pid r named in
      nothing_on pid h.slots (content_over z now.changes now.units) (contents_fit_over z now.changes now.units r units)
      (λ s lt. elim (is_table t (slot_of z.schedule s)) [
        | inl at ↦ null_off pid (content_over z now.changes now.units s) below (table_null s t is lt at)
        | inr other ↦ silent z now.changes now.units s pid (Table t) r named other
      ])

  pub silent_before : IsInRange next.description → UnitsKept z now.units → SilentBefore d h next
  silent_before r units = record {
    streams = λ k x has is. stream_silent k x r units has is;
    tables = λ t within is. table_silent t r units within is;
  }

-- What goes

pub two_none : {X : Type 0} (a b : Option X) → option_or a b ≡ None → (a ≡ None) × (b ≡ None)
two_none None b h = (refl, h)
two_none (Some x) b h = absurd (cc)

pub map_none : {X Y : Type 0} (f : X → Y) (o : Option X) → option_map f o ≡ None → o ≡ None
map_none f None h = refl
map_none f (Some x) h = absurd (cc)

found_within : (p : ℕ → Bool) (a n j : ℕ) → find p (range_with_len a n) ≡ Some j → j < a + n
found_within p a zero j h = absurd (cc)
found_within p a (suc n) j h = elim (cases_Bool (p a)) [
  | inl y ↦
      let this : Some a ≡ Some j = sym (ap (λ (b : Bool). if b then Some a else find p (range_with_len (a + 1) n)) y) ∙ h in
      let same : a ≡ j = cc in
      omega (arith, same)
  | inr n' ↦
      let rest : find p (range_with_len (a + 1) n) ≡ Some j = sym (ap (λ (b : Bool). if b then Some a else find p (range_with_len (a + 1) n)) n') ∙ h in
      let later : j < a + 1 + n = found_within p (a + 1) n j rest in
      omega (arith, later)
]

stream_there : (ss : List DescribedStream) (j : ℕ) → j < length ss → slice_get ss j ≡ None → ⊥
stream_there [] j lt e = absurd (omega (arith, lt))
stream_there (s ∷ ss) zero lt e = absurd (cc)
stream_there (s ∷ ss) (suc j) lt e = stream_there ss j (omega (arith, lt)) e

no_pid : (d : Described) (j : ℕ) → j < length d.streams → pid_at d j ≡ None → ⊥
no_pid d j lt none = stream_there d.streams j lt (map_none (λ (s : DescribedStream). s.pid) (slice_get d.streams j) none)

none_found : (d : Scheduled) (h : History) (new : Described) (o : Option ℕ) →
    find (goes_waiting d h new) (range_with_len 0 (length d.description.streams)) ≡ o → option_and_then (pid_at d.description) o ≡ None → o ≡ None
none_found d h new None is none = refl
none_found d h new (Some j) is none =
    absurd (no_pid d.description j
    (let lt = found_within (goes_waiting d h new) 0 (length d.description.streams) j is in omega (arith, lt)) none)

whole : (o : Option ℕ) (gone : Bool) → gone ≡ true → (gone && some_wait o) ≡ false → (o ≡ None → ⊥) → o ≡ Some 0
whole None gone is none some = absurd (some refl)
whole (Some units) true is none some = elim (cases_lt 0 units) [
  | inl lt ↦ absurd (false≢true (sym none ∙ lt-ltb 0 units lt))
  | inr le ↦ ap Some (omega (arith, le))
]
whole (Some units) false is none some = absurd (false≢true is)

pub whole_gone : (d : Scheduled) (h : History) (next : Served) → line_up_cause d h next ≡ None → WholeGone d h next.description
whole_gone d h next none i lt gone =
    let tests = two_none (option_map error.Fault (line_up_fault (served_by d) next)) (option_map error.Waiting (waiting_pid d h next.description)) none in
    let pid = map_none error.Waiting (waiting_pid d h next.description) tests.1 in
    let found = none_found d h next.description _ refl pid in
    let passes = none_passes (goes_waiting d h next.description) (length d.description.streams) i found lt in
    whole (waiting_of d h i) (is_gone d.description next.description i) gone passes
    (λ e. stream_there d.description.streams i lt (map_none _ (slice_get d.description.streams i) e))
