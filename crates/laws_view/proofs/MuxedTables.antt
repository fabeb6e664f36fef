-- In a multiplexer's output no section of a table is late.
use Rattle.std.proofs.Common.{◌≡◌, ◌∙◌, ℕ, ◌+◌, ◌-◌, ◌*◌, ◌/◌, ◌^◌, ◌<◌, false, List, [], ◌∷◌, ◌++◌, length, map, slice_get, Option, Some, None}
use Rattle.std.proofs.Common.{inl, inr, refl, sym, ap, subst, arith}
use Rattle.slot_contents.specs.Contents.{run_bytes}
use Rattle.slot_contents.proofs.Runs.{run_length}
use Rattle.pes_packet.specs.AccessUnits.{AccessUnit}
use Rattle.pes_packet.specs.Units.{units_of}
use Rattle.description_parts.specs.Described.{DescribedProgram}
use Rattle.description_parts.specs.Ranges.{IsInRange}
use Rattle.description_parts.specs.Tables.{kind_pid, table_kind, table_kinds, table_pid}
use Rattle.description_parts.specs.declared.table_kind.TableKind.{TableKind}
use Rattle.description_parts.specs.declared.table_kind.TableKind.TheVariants.{Eit, Pmt}
use Rattle.slot_plan.specs.Promised.{Promised}
use Rattle.demux.specs.Laws.{with_pid_at}
use Rattle.monitor.specs.Begins.{found_on, table_begins}
use Rattle.monitor.specs.Faults.{pat_late}
use Rattle.monitor.specs.Gaps.{late}
use Rattle.monitor.proofs.LatePlaces.{after, after_all, step}
use Rattle.mux_core.specs.Histories.{content_at}
use Rattle.mux_core.proofs.JobWriting.{output_bytes}
use Rattle.laws_run.proofs.MonitoredJobs.{job_kept}
use Rattle.mux_core.specs.Scheduled.{Scheduled}
use Rattle.mux_core.specs.Headline.{UnitsKept}
use Rattle.mux_core.proofs.TablesRead.{there as kind_there}
use Rattle.mux_core.proofs.Whole.{contents_fit}
use Rattle.laws_run.specs.GivenBack.{IsSentOn}
use Rattle.laws_run.proofs.MapsRecur.{IsMap, map_table}
use Rattle.laws_run.proofs.NothingElse.{sent_or_silent}
use Rattle.laws_run.proofs.RunFindings.{is_run, silent_back}
use Rattle.laws_run.proofs.Soundness.{as_reported}
use Rattle.laws_run.proofs.TablesRecur.{pat_in_time}
use Rattle.laws_run.proofs.ServicesRecur.{kind_on, nit_in_time, sdt_in_time, stream_higher, tdt_in_time}
use Rattle.laws_view.specs.Tables.{errors_from}
use Rattle.laws_view.proofs.Tables.{table_law}
use Rattle.tr101290.specs.Intervals.{no_section}
use Rattle.tr101290.specs.Limits.{milliseconds}
use Rattle.tr101290.specs.Parts.{has_parts}
use Rattle.tr101290.specs.declared.intervals.TableError.{TableError}
use Rattle.tr101290.specs.declared.intervals.TableTiming.TheVariants.{ConstantRate}
use Rattle.laws_view.specs.MuxedTables.{JobTablesLaw, NoneIsLate, RunTablesLaw, table_errors}
use Rattle.laws_view.proofs.PartErrors.{same_sections, without_first}
use Rattle.laws_view.proofs.PartsInTime.{parts_in_time}

none_after : (xs ys : List ℕ) → xs ++ ys ≡ [] → ys ≡ []
none_after [] ys e = e
none_after (x ∷ xs) ys e = absurd (let no : ⊥ = cc in no)

none_before : (xs ys : List ℕ) → xs ++ ys ≡ [] → xs ≡ []
none_before [] ys e = refl
none_before (x ∷ xs) ys e = absurd (let no : ⊥ = cc in no)

-- If no place is late, no place is late without the last ones.
fewer : (limit : ℕ) (last : Option ℕ) (xs ys : List ℕ) → after limit last (xs ++ ys) ≡ [] → after limit last xs ≡ []
fewer limit last [] ys e = refl
fewer limit last (x ∷ xs) ys e =
    let rest : after limit (Some x) xs ≡ [] = fewer limit (Some x) xs ys (none_after (step limit last x) (after limit (Some x) (xs ++ ys)) e) in
    rw (none_before (step limit last x) (after limit (Some x) (xs ++ ys)) e, rest) refl

none_named : (es : List TableError) → map (λ (e : TableError). e.section.packet) es ≡ [] → es ≡ []
none_named [] h = refl
none_named (e ∷ es) h = absurd (let no : ⊥ = cc in no)

-- If no section is late for a monitor, there are no errors.
no_errors : (rate limit pid table_id : ℕ) (bytes : List ℕ) → 0 < rate → milliseconds pid table_id ≡ Some limit → has_parts pid table_id ≡ false →
    late rate limit (table_begins table_id (found_on pid bytes)) ≡ [] → table_errors rate pid table_id bytes ≡ []
no_errors rate limit pid table_id bytes some m whole none =
    none_named _ (sym (table_law rate limit pid table_id (found_on pid bytes) some m whole) ∙ none)

pat_begins : (rate : ℕ) (bytes : List ℕ) → pat_late rate bytes ≡ [] → late rate 500 (table_begins 0x00 (found_on 0 bytes)) ≡ []
pat_begins rate bytes none =
    let begins : List ℕ = table_begins 0x00 (found_on 0 bytes) in
    let ends : List ℕ = (length bytes / 188) ∷ [] in
    sym (after_all rate 500 begins)
    ∙ without_first (500 * rate) 0 begins (fewer (500 * rate) (Some 0) begins ends (after_all rate 500 (0 ∷ begins ++ ends) ∙ none))

-- The sections of a program map have no errors.
map_errors : (d : Scheduled) (units : ℕ → List AccessUnit) (slots i : ℕ) (p : DescribedProgram) → IsInRange d.description → Promised d.description d.schedule →
    UnitsKept d units → slots < 2 ^ 64 - 1 → slice_get d.description.programs i ≡ Some p →
    table_errors d.description.rate p.pmt_pid 0x02 (run_bytes (content_at d units) 0 slots) ≡ []
unfolding milliseconds
map_errors d units slots i p ranges promised kept few is =
    let map : IsMap d.description (i + 1) i p.pmt_pid = map_table d.description i p is in
    subst (λ (pid : ℕ). table_errors d.description.rate pid 0x02 (run_bytes (content_at d units) 0 slots) ≡ []) map.same
    (parts_in_time d units slots 500 (i + 1) (Pmt i) ranges promised kept few map.kind tt (omega arith) refl refl)

-- The sections of events have no errors, if the description has any events.
event_errors : (d : Scheduled) (units : ℕ → List AccessUnit) (slots : ℕ) → IsInRange d.description → Promised d.description d.schedule → UnitsKept d units →
    slots < 2 ^ 64 - 1 → table_errors d.description.rate 0x12 0x4E (run_bytes (content_at d units) 0 slots) ≡ []
unfolding milliseconds errors_from
event_errors d units slots ranges promised kept few = elim (sent_or_silent d.description 0x12) [
  | inl sent ↦ by sent
  | inr none ↦
      let size : length bytes ≡ 188 * slots = run_length (content_at d units) 0 slots (contents_fit d units ranges kept) in
      let reported : map (with_pid_at 0x12) (found_on 0x12 bytes) ≡ [] =
      sym (as_reported 0x12 bytes refl (omega (arith, size, few))) ∙ silent_back d units slots 0x12 (is_run d units slots ranges kept few) refl none in
      ap (errors_from (no_section (ConstantRate rate))) (same_sections 0x12 0x4E (found_on 0x12 bytes) [] reported)
]
  where
    rate : ℕ
    rate = d.description.rate

    bytes : List ℕ
    bytes = run_bytes (content_at d units) 0 slots

    there : (t : ℕ) → table_kind d.description t ≡ Some Eit → table_pid d.description t ≡ 0x12 → table_errors rate 0x12 0x4E bytes ≡ []
    there t is on =
        subst (λ (pid : ℕ). table_errors rate pid 0x4E bytes ≡ []) on
        (parts_in_time d units slots 2000 t Eit ranges promised kept few is tt (omega arith)
        (ap (λ (pid : ℕ). milliseconds pid 0x4E) on) (ap (λ (pid : ℕ). has_parts pid 0x4E) on))

    by : IsSentOn d.description 0x12 → table_errors rate 0x12 0x4E bytes ≡ []
    by (inl (k, s, is, same)) = absurd (stream_higher d.description 0x12 k s ranges (omega arith, omega arith) is same)
    by (inr (t, lt, same)) =
        let k = kind_there (table_kinds d.description) t lt in
        let kind = k.1 in
        let on : table_pid d.description t ≡ kind_pid d.description k.0 = rw kind refl in
        kind_on (λ x. table_kind d.description t ≡ Some x → table_pid d.description t ≡ 0x12 → table_errors rate 0x12 0x4E bytes ≡ []) d.description 0x12 k.0
        ranges (omega arith, omega arith) (sym on ∙ same)
        (λ e. absurd (omega (arith, e))) (λ e. absurd (omega (arith, e))) (λ e. there t) (λ e. absurd (omega (arith, e))) k.1 same

pub run_tables_law : RunTablesLaw
unfolding milliseconds
run_tables_law d units slots ranges promised kept few =
    let rate : ℕ = d.description.rate in
    let bytes : List ℕ = run_bytes (content_at d units) 0 slots in
    let some : 0 < rate = omega (arith, ranges.least_rate) in
    record {
      associations = no_errors rate 500 0x00 0x00 bytes some refl refl (pat_begins rate bytes (pat_in_time d units slots ranges promised kept few));
      network = no_errors rate 10000 0x10 0x40 bytes some refl refl (nit_in_time d units slots ranges promised kept few);
      maps = λ i p is. map_errors d units slots i p ranges promised kept few is;
      services = no_errors rate 2000 0x11 0x42 bytes some refl refl (sdt_in_time d units slots ranges promised kept few);
      events = event_errors d units slots ranges promised kept few;
      time = no_errors rate 30000 0x14 0x70 bytes some refl refl (tdt_in_time d units slots ranges promised kept few);
    }

pub job_tables_law : JobTablesLaw
job_tables_law d units slots ranges promised none few =
    subst (NoneIsLate d.description) (sym (output_bytes (content_at d (λ k. units_of k units)) 0 slots))
    (run_tables_law d (λ k. units_of k units) slots ranges promised (job_kept d units ranges none) (omega (arith, few)))
