-- Sections of NIT, SDT, EIT and TDT begin in time after the first section.
use Rattle.std.proofs.Common.{◌≡◌, ℕ, ◌-◌, ◌*◌, ◌^◌, ◌<◌, ◌≤◌, ◌==◌, false, List, [], ◌∷◌, map, slice_get, Option, None, Some, refl, sym, ap, subst, ◌∙◌, arith}
use Rattle.std.proofs.Common.{All, inl, inr, append-nil, ne_eqb}
use Rattle.std.specs.Option.{option_to_list}
use Rattle.std.proofs.lemmas.Bool.{cases_Bool}
use Rattle.std.proofs.lemmas.List.Elements.{All-head}
use Rattle.pes_packet.specs.AccessUnits.{AccessUnit}
use Rattle.slot_contents.specs.Contents.{run_bytes}
use Rattle.slot_contents.proofs.Runs.{run_length}
use Rattle.description_parts.specs.Described.{Described, DescribedProgram, DescribedStream, DescribedTable}
use Rattle.description_parts.specs.Ranges.{IsInRange, IsProgram, IsStream, IsTable}
use Rattle.description_parts.specs.Tables.{table_kinds, table_pid, kind_pid, kind_limit}
use Rattle.description_parts.specs.declared.table_kind.TableKind.{TableKind}
use Rattle.description_parts.specs.declared.table_kind.TableKind.TheVariants.{Pat, Pmt, Nit, Sdt, Eit, Tdt, Private}
use Rattle.description.proofs.Pids.{at_place}
use Rattle.demux.specs.Laws.{with_pid_at}
use Rattle.slot_plan.specs.Promised.{Promised}
use Rattle.monitor.specs.Gaps.{is_long, late}
use Rattle.monitor.specs.Begins.{found_on, table_begins}
use Rattle.monitor.specs.Faults.{table_late}
use Rattle.mux_core.specs.Scheduled.{Scheduled}
use Rattle.mux_core.specs.Histories.{content_at}
use Rattle.mux_core.specs.Headline.{UnitsKept}
use Rattle.mux_core.proofs.Whole.{contents_fit}
use Rattle.laws_run.specs.GivenBack.{IsSentOn}
use Rattle.laws_run.proofs.TablesWritten.{IsMade, at_most_one}
use Rattle.mux_core.proofs.TablesRead.{there as kind_there}
use Rattle.laws_run.proofs.NothingElse.{IsSilent, sent_or_silent}
use Rattle.laws_run.proofs.RunFindings.{is_run, silent_back}
use Rattle.laws_run.proofs.Soundness.{as_reported}
use Rattle.laws_run.proofs.SectionBegins.{reported_begins, begins_reported}
use Rattle.laws_run.proofs.TableIds.{table_id_of}
use Rattle.laws_run.proofs.TablesRecur.{made_in_time}

-- The tables on PIDs below 32

abbrev pub IsLow : ℕ → Type 0
IsLow pid = (0 < pid) × (pid < 32)

-- A table of this kind has this table_id and at most this limit.
record Suits (d : Described) (id limit : ℕ) (k : TableKind) : Type 0 where
  made : IsMade k
  table_id : table_id_of k ≡ id
  within : kind_limit d k ≤ limit

program_higher : (pid : ℕ) (o : Option DescribedProgram) → IsLow pid → All IsProgram (option_to_list o) →
    elim o as (λ _. ℕ) [ None ↦ 0 | Some program ↦ program.pmt_pid ] ≡ pid → ⊥
program_higher pid None low is e = let some = low.0 in omega (arith, some, e)
program_higher pid (Some p) low is e = let most = low.1 in let least : 32 ≤ p.pmt_pid = (All-head IsProgram p [] is).pmt_pid.low in
    omega (arith, most, least, e)

table_higher : (pid : ℕ) (o : Option DescribedTable) → IsLow pid → All IsTable (option_to_list o) →
    elim o as (λ _. ℕ) [ None ↦ 0 | Some private ↦ private.pid ] ≡ pid → ⊥
table_higher pid None low is e = let some = low.0 in omega (arith, some, e)
table_higher pid (Some t) low is e = let most = low.1 in let least : 32 ≤ t.pid = (All-head IsTable t [] is).pid.low in omega (arith, most, least, e)

pub stream_higher : (d : Described) (pid k : ℕ) (s : DescribedStream) → IsInRange d → IsLow pid → slice_get d.streams k ≡ Some s → s.pid ≡ pid → ⊥
stream_higher d pid k s r low is e = let most = low.1 in let least : 32 ≤ s.pid = (at_place IsStream d.streams k s r.streams is).pid.low in
    omega (arith, most, least, e)

-- Each of these PIDs carries a single kind of table: NIT, SDT, EIT or TDT.
pub kind_on : (P : TableKind → Type 0) (d : Described) (pid : ℕ) (k : TableKind) → IsInRange d → IsLow pid → kind_pid d k ≡ pid →
    (0x10 ≡ pid → P Nit) → (0x11 ≡ pid → P Sdt) → (0x12 ≡ pid → P Eit) → (0x14 ≡ pid → P Tdt) → P k
kind_on P d pid Pat r low e nit sdt eit tdt = let some = low.0 in absurd (omega (arith, some, e))
kind_on P d pid (Pmt p) r low e nit sdt eit tdt =
    let o : Option DescribedProgram = slice_get d.programs p in
    absurd (program_higher pid o low (at_most_one IsProgram d.programs p o r.programs refl) e)
kind_on P d pid Nit r low e nit sdt eit tdt = nit e
kind_on P d pid Sdt r low e nit sdt eit tdt = sdt e
kind_on P d pid Eit r low e nit sdt eit tdt = eit e
kind_on P d pid Tdt r low e nit sdt eit tdt = tdt e
kind_on P d pid (Private i) r low e nit sdt eit tdt =
    let o : Option DescribedTable = slice_get d.tables i in
    absurd (table_higher pid o low (at_most_one IsTable d.tables i o r.tables refl) e)

-- PIDs with a table, and PIDs without a table

-- If no place is late, the places after the first are not late either.
first_dropped : (rate limit p : ℕ) (places : List ℕ) → late rate limit (p ∷ places) ≡ [] → late rate limit places ≡ []
first_dropped rate limit p [] h = refl
first_dropped rate limit p (q ∷ places) h = elim (cases_Bool (is_long (limit * rate) (q - p))) [
  | inl y ↦ let at : late rate limit (p ∷ q ∷ places) ≡ q ∷ late rate limit (q ∷ places) = rw y refl in absurd (cc)
  | inr k ↦ let at : late rate limit (p ∷ q ∷ places) ≡ late rate limit (q ∷ places) = rw k refl in sym at ∙ h
]

abbrev Late : Scheduled → (ℕ → List AccessUnit) → ℕ → ℕ → ℕ → ℕ → List ℕ
Late d units n pid id limit = table_late d.description.rate limit pid id (run_bytes (content_at d units) 0 n)

sent_in_time : (d : Scheduled) (units : ℕ → List AccessUnit) (n id limit t : ℕ) (k : TableKind) → IsInRange d.description → Promised d.description d.schedule →
    UnitsKept d units → n < 2 ^ 64 - 1 → slice_get (table_kinds d.description) t ≡ Some k → Suits d.description id limit k →
    Late d units n (table_pid d.description t) id limit ≡ []
sent_in_time d units n id limit t k r promised kept few is suits =
    subst (λ (x : ℕ). Late d units n (table_pid d.description t) x limit ≡ []) suits.table_id
    (first_dropped d.description.rate limit 0 begins
    (ap (λ (places : List ℕ). late d.description.rate limit (0 ∷ places)) (sym (append-nil begins))
    ∙ made_in_time d units n limit t k [] r promised kept few is suits.made suits.within tt))
  where
    begins : List ℕ
    begins = table_begins (table_id_of k) (found_on (table_pid d.description t) (run_bytes (content_at d units) 0 n))

silent_in_time : (d : Scheduled) (units : ℕ → List AccessUnit) (n pid id limit : ℕ) → IsInRange d.description → UnitsKept d units → n < 2 ^ 64 - 1 → IsLow pid →
    IsSilent d.description pid → Late d units n pid id limit ≡ []
silent_in_time d units n pid id limit r kept few low none =
    let bytes : List ℕ = run_bytes (content_at d units) 0 n in
    let size = run_length (content_at d units) 0 n (contents_fit d units r kept) in
    let most = low.1 in
    let no_null : (pid == 8191) ≡ false = ne_eqb pid 8191 (λ e. omega (arith, e, most)) in
    let reported : map (with_pid_at pid) (found_on pid bytes) ≡ [] =
    sym (as_reported pid bytes no_null (omega (arith, size, few))) ∙ silent_back d units n pid (is_run d units n r kept few) no_null none in
    ap (late d.description.rate limit) (sym (begins_reported id pid (found_on pid bytes)) ∙ ap (reported_begins id) reported)

-- Each PID

pid_in_time : (d : Scheduled) (units : ℕ → List AccessUnit) (n pid id limit : ℕ) → IsInRange d.description → Promised d.description d.schedule →
    UnitsKept d units →
    n < 2 ^ 64 - 1 → IsLow pid → ((k : TableKind) → kind_pid d.description k ≡ pid → Suits d.description id limit k) → Late d units n pid id limit ≡ []
pid_in_time d units n pid id limit r promised kept few low suits = elim (sent_or_silent d.description pid) [
  | inl sent ↦ by sent
  | inr none ↦ silent_in_time d units n pid id limit r kept few low none
]
  where
    by : IsSentOn d.description pid → Late d units n pid id limit ≡ []
    by (inl (k, s, is, same)) = absurd (stream_higher d.description pid k s r low is same)
    by (inr (t, lt, same)) =
        let k = kind_there (table_kinds d.description) t lt in
        let kind = k.1 in
        let on : table_pid d.description t ≡ kind_pid d.description k.0 = rw kind refl in
        subst (λ (x : ℕ). Late d units n x id limit ≡ []) same
        (sent_in_time d units n id limit t k.0 r promised kept few k.1 (suits k.0 (sym on ∙ same)))

abbrev InTimeOn : ℕ → ℕ → ℕ → Type 0
InTimeOn pid id limit = (d : Scheduled) (units : ℕ → List AccessUnit) (n : ℕ) → IsInRange d.description → Promised d.description d.schedule →
    UnitsKept d units → n < 2 ^ 64 - 1 →
    table_late d.description.rate limit pid id (run_bytes (content_at d units) 0 n) ≡ []

pub nit_in_time : InTimeOn 0x10 0x40 10000
nit_in_time d units n r promised kept few = pid_in_time d units n 0x10 0x40 10000 r promised kept few (omega arith, omega arith)
    (λ k on. kind_on (Suits d.description 0x40 10000) d.description 0x10 k r (omega arith, omega arith) on
    (λ e. record { made = tt; table_id = refl; within = omega arith }) (λ e. absurd (omega (arith, e))) (λ e. absurd (omega (arith, e)))
    (λ e. absurd (omega (arith, e))))

pub sdt_in_time : InTimeOn 0x11 0x42 2000
sdt_in_time d units n r promised kept few = pid_in_time d units n 0x11 0x42 2000 r promised kept few (omega arith, omega arith)
    (λ k on. kind_on (Suits d.description 0x42 2000) d.description 0x11 k r (omega arith, omega arith) on
    (λ e. absurd (omega (arith, e))) (λ e. record { made = tt; table_id = refl; within = omega arith }) (λ e. absurd (omega (arith, e)))
    (λ e. absurd (omega (arith, e))))

pub eit_in_time : InTimeOn 0x12 0x4E 2000
eit_in_time d units n r promised kept few = pid_in_time d units n 0x12 0x4E 2000 r promised kept few (omega arith, omega arith)
    (λ k on. kind_on (Suits d.description 0x4E 2000) d.description 0x12 k r (omega arith, omega arith) on
    (λ e. absurd (omega (arith, e))) (λ e. absurd (omega (arith, e))) (λ e. record { made = tt; table_id = refl; within = omega arith })
    (λ e. absurd (omega (arith, e))))

pub tdt_in_time : InTimeOn 0x14 0x70 30000
tdt_in_time d units n r promised kept few = pid_in_time d units n 0x14 0x70 30000 r promised kept few (omega arith, omega arith)
    (λ k on. kind_on (Suits d.description 0x70 30000) d.description 0x14 k r (omega arith, omega arith) on
    (λ e. absurd (omega (arith, e))) (λ e. absurd (omega (arith, e))) (λ e. absurd (omega (arith, e)))
    (λ e. record { made = tt; table_id = refl; within = omega arith }))
