-- Clock references come in time on each PID that has them.
use Rattle.std.proofs.Common.{◌≡◌, ◌⊎◌, ℕ, zero, suc, ◌+◌, ◌*◌, ◌≤◌, ◌==◌, ◌&&◌, Bool, true, false, List, [], ◌∷◌, map, Option, Some, None, slice_get, refl}
use Rattle.std.proofs.Common.{sym, ap, subst, ◌∙◌, inl, inr, eqb-true}
use Rattle.std.specs.Prelude.{⊤, option_map, if◌then◌else◌}
use Rattle.std.proofs.lemmas.Bool.{cases_Bool, false≢true}
use Rattle.clock27.specs.Recurrence.{Recur}
use Rattle.clock27.specs.Reference.{pcr_at}
use Rattle.own_slots.specs.Slots.{own_before}
use Rattle.pes_packet.specs.AccessUnits.{AccessUnit}
use Rattle.ts_packet.specs.Views.{PacketView}
use Rattle.ts_packet.specs.Packets.{field_of, pcr_view, stuffing_field}
use Rattle.ts_packet.specs.declared.start.Start.{Start}
use Rattle.ts_packet.specs.declared.start.Start.TheVariants.{Continues, Begins, Access}
use Rattle.ts_packet.specs.PcrBytes.{has_pcr}
use Rattle.ts_packet.specs.PidList.{Entry, is_of_pid, pid_list}
use Rattle.slot_contents.specs.Contents.{Content, PayloadContent, PcrContent, NullContent, Piece, view_of, run_bytes, entries_in}
use Rattle.slot_contents.specs.RunLaws.{Fits}
use Rattle.slot_contents.proofs.Runs.{run_pid_list}
use Rattle.description_parts.specs.Described.{Described, DescribedProgram, DescribedStream}
use Rattle.description_parts.specs.Tables.{table_kinds, table_pid, has_references}
use Rattle.description.proofs.Pids.{at_place}
use Rattle.description_parts.specs.declared.table_kind.TableKind.{TableKind}
use Rattle.slot_plan.specs.declared.slot.Slot.{Slot}
use Rattle.slot_plan.specs.declared.slot.Slot.TheVariants.{Stream, Pcr, Table, Null}
use Rattle.slot_plan.specs.Schedule.{slot_of}
use Rattle.slot_plan.specs.SlotPids.{slot_pid}
use Rattle.unit_queue.specs.Places.{UnitPlace, place_at, content_of}
use Rattle.table_rounds.specs.Tables.{payloads_before, part_at}
use Rattle.table_rounds.specs.Parts.{part_content}
use Rattle.monitor.specs.Gaps.{late}
use Rattle.monitor.specs.Begins.{pcr_places}
use Rattle.monitor.specs.Faults.{pcr_late}
use Rattle.mux_core.specs.Scheduled.{Scheduled}
use Rattle.mux_core.specs.Histories.{owned_stream, table_of, stream_in, pcr_content, table_in, content_in, content_at, content_over, unchanged}
use Rattle.mux_core.specs.Headline.{ProgramKept}
use Rattle.laws_run.specs.Monitored.{IsWide}
use Rattle.laws_run.proofs.Lateness.{all_late}
use Rattle.mux_core.proofs.Programs.{indices_at_ten}

-- PIDs on which no program has its clock references

filler_none : (n : ℕ) → has_pcr (stuffing_field n) ≡ false
unfolding stuffing_field
filler_none zero = refl
filler_none (suc zero) = refl
filler_none (suc (suc n)) = refl

start_none : (start : Start) (n : ℕ) → has_pcr (field_of start n) ≡ false
unfolding field_of
start_none Continues n = filler_none n
start_none Begins n = filler_none n
start_none Access n = refl

abbrev pub NoClock : ℕ → Content → Type 0
NoClock pid (PayloadContent other number start payload) = ⊤
NoClock pid (PcrContent other pcr) = (other == pid) ≡ false
NoClock pid NullContent = ⊤

pub none_here : (pid : ℕ) (c : Content) → NoClock pid c → is_of_pid pid (view_of c) ≡ true → has_pcr (view_of c).adaptation ≡ false
unfolding view_of
none_here pid (PayloadContent other number start payload) none of = start_none start _
none_here pid (PcrContent other pcr) none of = absurd (false≢true (sym (ap (λ (b : Bool). b && true) none) ∙ of))
none_here pid NullContent none of = refl

none_listed : (pid : ℕ) (content : ℕ → Content) (s n : ℕ) → ((t : ℕ) → NoClock pid (content t)) → pcr_places (entries_in pid content s n) ≡ []
unfolding entries_in
none_listed pid content s zero none = refl
none_listed pid content s (suc n) none =
    let rest = none_listed pid content (suc s) n none in
    elim (cases_Bool (is_of_pid pid (view_of (content s)))) [
      | inl y ↦ let here = none_here pid (content s) (none s) y in rw (y, here) rest
      | inr k ↦ rw k rest
    ]

abbrev pub NoProgram : List DescribedProgram → ℕ → Type 0
NoProgram ps pid = (i : ℕ) (p : DescribedProgram) → slice_get ps i ≡ Some p → (p.pcr_pid == pid) ≡ false

stream_none : (d : Scheduled) (units : ℕ → List AccessUnit) (pid slot k : ℕ) (o : Option DescribedStream) → NoClock pid (stream_in d units slot k o)
unfolding stream_in
stream_none d units pid slot k None = tt
stream_none d units pid slot k (Some s) = by (place_at (owned_stream d k s) 0 0 (units k) (own_before (owned_stream d k s).own slot))
  where
    by : (o : Option UnitPlace) → NoClock pid (content_of (owned_stream d k s) o)
    by None = tt
    by (Some place) = tt

-- A slot that names a PID for clock references names a program with this PCR PID.
of_program : (b : Bool) (o : Option DescribedProgram) (pid : ℕ) → (if b then option_map (λ p. p.pcr_pid) o else None) ≡ Some pid →
    (p : DescribedProgram) × (o ≡ Some p) × (p.pcr_pid ≡ pid)
of_program true None pid e = absurd (cc)
of_program true (Some p) pid e = let same : p.pcr_pid ≡ pid = cc in (p, refl, same)
of_program false o pid e = absurd (cc)

clock_program : (d : Described) (i pid : ℕ) → slot_pid d (Pcr i) ≡ Some pid →
    (p : DescribedProgram) × (slice_get d.programs i ≡ Some p) × (p.pcr_pid ≡ pid)
unfolding slot_pid
clock_program d i pid e = of_program (has_references d i) (slice_get d.programs i) pid e

clock_none : (d : Described) (pid slot i : ℕ) (o : Option ℕ) → slot_pid d (Pcr i) ≡ o → NoProgram d.programs pid → NoClock pid (pcr_content d slot o)
unfolding pcr_content
clock_none d pid slot i None e none = tt
clock_none d pid slot i (Some other) e none =
    let clock = clock_program d i other e in
    sym (ap (λ (n : ℕ). n == pid) clock.2) ∙ none i clock.0 clock.1

table_none : (d : Scheduled) (pid slot t : ℕ) (o : Option TableKind) → NoClock pid (table_in d unchanged slot t o)
unfolding table_in part_content
table_none d pid slot t None = tt
table_none d pid slot t (Some kind) = by (part_at (table_of d t) slot)
  where
    by : (o : Option Piece) → NoClock pid (part_content (table_pid d.description t) (payloads_before (table_of d t) slot) o)
    by None = tt
    by (Some part) = tt

slot_none : (d : Scheduled) (units : ℕ → List AccessUnit) (pid slot : ℕ) (item : Slot) → NoProgram d.description.programs pid →
    NoClock pid (content_in d unchanged units slot item)
unfolding content_in
slot_none d units pid slot (Stream k) none = stream_none d units pid slot k (slice_get d.description.streams k)
slot_none d units pid slot (Pcr i) none = clock_none d.description pid slot i (slot_pid d.description (Pcr i)) refl none
slot_none d units pid slot (Table t) none = table_none d pid slot t (slice_get (table_kinds d.description) t)
slot_none d units pid slot Null none = tt

pub all_none : (d : Scheduled) (units : ℕ → List AccessUnit) (pid slot : ℕ) → NoProgram d.description.programs pid → NoClock pid (content_at d units slot)
unfolding content_over
all_none d units pid slot none = slot_none d units pid slot (slot_of d.schedule slot) none

-- The PID of a program's clock references

all_clocks : (says : Entry → PacketView) (es : List Entry) → ((e : Entry) → has_pcr (says e).adaptation ≡ true) → map (λ e. e.packet) es ≡ map says es →
    pcr_places es ≡ map (λ e. e.index) es
all_clocks says [] has h = refl
all_clocks says (e ∷ es) has h =
    let first : e.packet ≡ says e = cc in
    let others : map (λ e. e.packet) es ≡ map says es = cc in
    let here : has_pcr e.packet.adaptation ≡ true = ap (λ (p : PacketView). has_pcr p.adaptation) first ∙ has e in
    let rest = all_clocks says es has others in
    rw (here, rest) refl

pub program_in_time : (d : Scheduled) (p : DescribedProgram) (slots limit : ℕ) (bytes : List ℕ) → ProgramKept d p slots bytes → p.pcr_limit ≤ limit →
    pcr_late d.description.rate limit bytes p.pcr_pid ≡ []
program_in_time d p slots limit bytes kept le =
    let es : List Entry = pid_list p.pcr_pid bytes in
    let places : pcr_places es ≡ map (λ e. e.index) es =
    all_clocks (λ e. pcr_view p.pcr_pid (pcr_at d.description.rate d.description.base0 (188 * e.index + 10))) es (λ e. refl) kept.clocks in
    let recur = subst (λ (l : List ℕ). Recur d.description.rate p.pcr_limit 0 l (188 * slots)) (indices_at_ten es) kept.pcrs_recur in
    ap (late d.description.rate limit) places ∙ all_late d.description.rate p.pcr_limit limit 10 0 (map (λ e. e.index) es) (188 * slots) le recur

-- The two kinds of PIDs: with a program's clock references, and without.

abbrev pub ProgramOn : List DescribedProgram → ℕ → Type 0
ProgramOn ps pid = (i : ℕ) × (p : DescribedProgram) × (slice_get ps i ≡ Some p) × (p.pcr_pid ≡ pid)

first_not : (x : DescribedProgram) (ps : List DescribedProgram) (pid : ℕ) → (x.pcr_pid == pid) ≡ false → NoProgram ps pid → NoProgram (x ∷ ps) pid
first_not x ps pid n rest zero p e = let same : x ≡ p = cc in sym (ap (λ (y : DescribedProgram). y.pcr_pid == pid) same) ∙ n
first_not x ps pid n rest (suc i) p e = rest i p e

pub find_program : (ps : List DescribedProgram) (pid : ℕ) → ProgramOn ps pid ⊎ NoProgram ps pid
find_program [] pid = inr (λ i p e. absurd (cc))
find_program (x ∷ ps) pid = elim (cases_Bool (x.pcr_pid == pid)) [
  | inl y ↦ inl (0, x, refl, eqb-true x.pcr_pid pid y)
  | inr n ↦ elim (find_program ps pid) [
    | inl found ↦ inl (suc found.0, found.1, found.2, found.3)
    | inr none ↦ inr (first_not x ps pid n none)
  ]
]

pub clocks_in_time : (d : Scheduled) (units : ℕ → List AccessUnit) (slots limit pid : ℕ) → Fits (content_at d units) → IsWide d.description limit →
    ((i : ℕ) (p : DescribedProgram) → slice_get d.description.programs i ≡ Some p → ProgramKept d p slots (run_bytes (content_at d units) 0 slots)) →
    pcr_late d.description.rate limit (run_bytes (content_at d units) 0 slots) pid ≡ []
clocks_in_time d units slots limit pid fits wide kept = elim (find_program d.description.programs pid) [
  | inl (i, p, is, same) ↦
      subst (λ (q : ℕ). pcr_late d.description.rate limit (run_bytes (content_at d units) 0 slots) q ≡ []) same
      (program_in_time d p slots limit (run_bytes (content_at d units) 0 slots) (kept i p is)
      (at_place (λ (q : DescribedProgram). q.pcr_limit ≤ limit) d.description.programs i p wide is))
  | inr none ↦
      ap (λ (es : List Entry). late d.description.rate limit (pcr_places es)) (run_pid_list pid slots (content_at d units) fits)
      ∙ ap (late d.description.rate limit) (none_listed pid (content_at d units) 0 slots (λ t. all_none d units pid t none))
]
