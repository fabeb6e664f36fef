-- Payloads and findings occur only on the PIDs of streams and tables.
use Rattle.std.proofs.Common.{◌≡◌, ◌⊎◌, ℕ, zero, suc, ◌<◌, ◌==◌, Bool, true, false, cond, List, [], ◌∷◌, Option, Some, None, slice_get, refl, sym, ap, ◌∙◌}
use Rattle.std.proofs.Common.{arith, All, inl, inr, eqb-true, eq-eqb}
use Rattle.std.proofs.lemmas.Bool.{cases_Bool, eqb-false}
use Rattle.std.proofs.lemmas.Option.{slice_get_within}
use Rattle.std.proofs.lemmas.List.Elements.{All-nil, All-cons, All-head, All-tail}
use Rattle.own_slots.specs.Slots.{own_before}
use Rattle.pes_packet.specs.AccessUnits.{AccessUnit}
use Rattle.slot_contents.specs.Contents.{payload_in, Piece}
use Rattle.description_parts.specs.Described.{Described, DescribedStream}
use Rattle.description_parts.specs.Tables.{table_kinds, table_count, table_pid}
use Rattle.description_parts.specs.declared.table_kind.TableKind.{TableKind}
use Rattle.slot_plan.specs.declared.slot.Slot.{Slot}
use Rattle.slot_plan.specs.declared.slot.Slot.TheVariants.{Stream, Pcr, Table, Null}
use Rattle.slot_plan.specs.Schedule.{slot_of}
use Rattle.slot_plan.specs.SlotPids.{slot_pid}
use Rattle.pid_findings.specs.Views.{FindingView}
use Rattle.demux.specs.Laws.{has_pid, found_of}
use Rattle.unit_queue.specs.Places.{UnitPlace, place_at, content_of}
use Rattle.table_rounds.specs.Tables.{payloads_before, part_at}
use Rattle.table_rounds.specs.Parts.{part_content}
use Rattle.laws_run.specs.PidLaws.{IsOfPid}
use Rattle.mux_core.specs.Scheduled.{Scheduled}
use Rattle.mux_core.specs.Histories.{owned_stream, table_over, stream_in, pcr_content, table_in, content_in, content_over, TextsSoFar}
use Rattle.laws_run.specs.GivenBack.{IsSentOn, IsOfSent}

-- PIDs that carry neither a stream nor a table

pub record IsSilent (d : Described) (pid : ℕ) : Type 0 where
  pub streams : (k : ℕ) (s : DescribedStream) → slice_get d.streams k ≡ Some s → (s.pid == pid) ≡ false
  pub tables : (t : ℕ) → t < table_count d → (table_pid d t == pid) ≡ false

stream_silent : (d : Scheduled) (units : ℕ → List AccessUnit) (pid slot k : ℕ) (o : Option DescribedStream) → slice_get d.description.streams k ≡ o →
    IsSilent d.description pid → payload_in pid slot (stream_in d units slot k o) ≡ []
unfolding stream_in
stream_silent d units pid slot k None e none = refl
stream_silent d units pid slot k (Some s) e none = by (place_at (owned_stream d k s) 0 0 (units k) (own_before (owned_stream d k s).own slot))
  where
    by : (o : Option UnitPlace) → payload_in pid slot (content_of (owned_stream d k s) o) ≡ []
    by None = refl
    by (Some place) = let no = none.streams k s e in rw no refl

clock_silent : (d : Described) (pid slot : ℕ) (o : Option ℕ) → payload_in pid slot (pcr_content d slot o) ≡ []
unfolding pcr_content
clock_silent d pid slot None = refl
clock_silent d pid slot (Some other) = refl

table_silent : (d : Scheduled) (changes : TextsSoFar) (pid slot t : ℕ) (o : Option TableKind) → slice_get (table_kinds d.description) t ≡ o →
    IsSilent d.description pid → payload_in pid slot (table_in d changes slot t o) ≡ []
unfolding table_in part_content
table_silent d changes pid slot t None e none = refl
table_silent d changes pid slot t (Some kind) e none = by (part_at (table_over d changes t) slot)
  where
    by : (o : Option Piece) → payload_in pid slot (part_content (table_pid d.description t) (payloads_before (table_over d changes t) slot) o) ≡ []
    by None = refl
    by (Some part) = let no = none.tables t (slice_get_within (table_kinds d.description) t kind e) in rw no refl

slot_silent : (d : Scheduled) (changes : TextsSoFar) (units : ℕ → List AccessUnit) (pid slot : ℕ) (item : Slot) → IsSilent d.description pid →
    payload_in pid slot (content_in d changes units slot item) ≡ []
unfolding content_in
slot_silent d changes units pid slot (Stream k) none = stream_silent d units pid slot k (slice_get d.description.streams k) refl none
slot_silent d changes units pid slot (Pcr i) none = clock_silent d.description pid slot (slot_pid d.description (Pcr i))
slot_silent d changes units pid slot (Table t) none = table_silent d changes pid slot t (slice_get (table_kinds d.description) t) refl none
slot_silent d changes units pid slot Null none = refl

pub all_silent : (d : Scheduled) (changes : TextsSoFar) (units : ℕ → List AccessUnit) (pid slot : ℕ) → IsSilent d.description pid →
    payload_in pid slot (content_over d changes units slot) ≡ []
unfolding content_over
all_silent d changes units pid slot none = slot_silent d changes units pid slot (slot_of d.schedule slot) none

-- The two kinds of PIDs: with a stream or a table, and with neither

abbrev StreamOn : List DescribedStream → ℕ → Type 0
StreamOn ss pid = (k : ℕ) × (s : DescribedStream) × (slice_get ss k ≡ Some s) × (s.pid ≡ pid)

abbrev NoStream : List DescribedStream → ℕ → Type 0
NoStream ss pid = (k : ℕ) (s : DescribedStream) → slice_get ss k ≡ Some s → (s.pid == pid) ≡ false

first_not : (x : DescribedStream) (ss : List DescribedStream) (pid : ℕ) → (x.pid == pid) ≡ false → NoStream ss pid → NoStream (x ∷ ss) pid
first_not x ss pid n rest zero s e = let same : x ≡ s = cc in sym (ap (λ (y : DescribedStream). y.pid == pid) same) ∙ n
first_not x ss pid n rest (suc k) s e = rest k s e

find_stream : (ss : List DescribedStream) (pid : ℕ) → StreamOn ss pid ⊎ NoStream ss pid
find_stream [] pid = inr (λ k s e. absurd (cc))
find_stream (x ∷ ss) pid = elim (cases_Bool (x.pid == pid)) [
  | inl y ↦ inl (0, x, refl, eqb-true x.pid pid y)
  | inr n ↦ elim (find_stream ss pid) [
    | inl found ↦ inl (suc found.0, found.1, found.2, found.3)
    | inr none ↦ inr (first_not x ss pid n none)
  ]
]

abbrev TableOn : Described → ℕ → ℕ → Type 0
TableOn d n pid = (t : ℕ) × (t < n) × (table_pid d t ≡ pid)

abbrev NoTable : Described → ℕ → ℕ → Type 0
NoTable d n pid = (t : ℕ) → t < n → (table_pid d t == pid) ≡ false

last_not : (d : Described) (n pid : ℕ) → (table_pid d n == pid) ≡ false → NoTable d n pid → NoTable d (suc n) pid
last_not d n pid off rest t lt = elim (cases_Bool (t == n)) [
  | inl y ↦ ap (λ (u : ℕ). table_pid d u == pid) (eqb-true t n y) ∙ off
  | inr other ↦ rest t (below t n lt other)
]
  where
    below : (t n : ℕ) → t < suc n → (t == n) ≡ false → t < n
    below t n lt other = let differ : t ≡ n → ⊥ = eqb-false t n other in omega (arith, lt, differ)

find_table : (d : Described) (n pid : ℕ) → TableOn d n pid ⊎ NoTable d n pid
find_table d zero pid = inr (λ t lt. absurd (omega (arith, lt)))
find_table d (suc n) pid = elim (cases_Bool (table_pid d n == pid)) [
  | inl y ↦ inl (n, omega arith, eqb-true (table_pid d n) pid y)
  | inr off ↦ elim (find_table d n pid) [
    | inl found ↦ inl (found.0, (let lt = found.1 in omega (arith, lt)), found.2)
    | inr none ↦ inr (last_not d n pid off none)
  ]
]

pub sent_or_silent : (d : Described) (pid : ℕ) → IsSentOn d pid ⊎ IsSilent d pid
sent_or_silent d pid = elim (find_stream d.streams pid) [
  | inl stream ↦ inl (inl stream)
  | inr no_stream ↦ elim (find_table d (table_count d) pid) [
    | inl table ↦ inl (inr table)
    | inr no_table ↦ inr (record { streams = no_stream; tables = no_table })
  ]
]

-- Findings

abbrev Known : Described → List FindingView → Type 0
Known d xs = (pid : ℕ) → (pid == 8191) ≡ false → IsSentOn d pid ⊎ (found_of pid xs ≡ [])

not_there : (pid : ℕ) (x : FindingView) (xs : List FindingView) (t : Bool) → t ≡ true → cond t (x ∷ xs) xs ≡ [] → ⊥
not_there pid x xs true y e = cc
not_there pid x xs false y e = absurd (cc)

none_after : (x : FindingView) (xs : List FindingView) (t : Bool) → cond t (x ∷ xs) xs ≡ [] → xs ≡ []
none_after x xs true e = absurd (cc)
none_after x xs false e = e

known_after : (d : Described) (x : FindingView) (xs : List FindingView) → Known d (x ∷ xs) → Known d xs
known_after d x xs known pid reported = elim (known pid reported) [
  | inl sent ↦ inl sent
  | inr none ↦ inr (none_after x (found_of pid xs) (has_pid pid x.pid) none)
]

one_sent : (d : Described) (x : FindingView) (xs : List FindingView) → IsOfPid x → Known d (x ∷ xs) → IsOfSent d x
one_sent d x xs own known = elim (known own.0 own.2) [
  | inl sent ↦ (own.0, own.1, sent)
  | inr none ↦ absurd (not_there own.0 x (found_of own.0 xs) (has_pid own.0 x.pid) (is_its own.0 x.pid own.1) none)
]
  where
    is_its : (pid : ℕ) (o : Option ℕ) → o ≡ Some pid → has_pid pid o ≡ true
    is_its pid o e = rw e (eq-eqb pid pid refl)

pub all_sent : (d : Described) (xs : List FindingView) → All IsOfPid xs → Known d xs → All (IsOfSent d) xs
all_sent d [] h known = All-nil (IsOfSent d)
all_sent d (x ∷ xs) h known =
    All-cons (IsOfSent d) x xs (one_sent d x xs (All-head IsOfPid x xs h) known) (all_sent d xs (All-tail IsOfPid x xs h) (known_after d x xs known))
