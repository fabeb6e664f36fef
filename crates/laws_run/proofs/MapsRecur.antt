-- Sections of program maps begin in time on each named PID, from the packet that names the PID to the end of the run.
use Rattle.std.proofs.Common.{◌≡◌, ℕ, ◌+◌, ◌-◌, ◌*◌, ◌/◌, ◌^◌, ◌<◌, ◌≤◌, nat_lt, Bool, true, List, [], ◌∷◌, ◌++◌, length, filter, Option, Some, None, slice_get}
use Rattle.std.proofs.Common.{refl, sym, ap, ap₂, subst, ◌∙◌, arith}
use Rattle.std.proofs.lemmas.Option.{slice_get_within}
use Rattle.pes_packet.specs.AccessUnits.{AccessUnit}
use Rattle.slot_contents.specs.Contents.{Content, run_bytes}
use Rattle.slot_contents.specs.RunLaws.{Fits}
use Rattle.slot_contents.proofs.Runs.{run_length}
use Rattle.description_parts.specs.Described.{Described, DescribedProgram}
use Rattle.description_parts.specs.Ranges.{IsInRange}
use Rattle.description_parts.specs.Tables.{table_kinds, table_kind, table_count, kind_pid, table_pid, table_limit, section_count}
use Rattle.description_parts.specs.declared.table_kind.TableKind.TheVariants.{Pmt}
use Rattle.description.proofs.SectionCounts.{sections_law}
use Rattle.description_parts.proofs.TableNumbers.{table_kind-pmt}
use Rattle.slot_plan.specs.TableRounds.{section_starts}
use Rattle.slot_plan.specs.Promised.{Promised}
use Rattle.monitor.specs.Gaps.{late}
use Rattle.monitor.specs.Begins.{found_on, table_begins}
use Rattle.monitor.specs.NamedPids.{named_since}
use Rattle.monitor.specs.Faults.{map_late_since, map_late}
use Rattle.mux_core.specs.Scheduled.{Scheduled}
use Rattle.mux_core.specs.Histories.{table_of, content_at}
use Rattle.mux_core.specs.Headline.{UnitsKept, TableKept}
use Rattle.mux_core.proofs.Whole.{contents_fit, headline}
use Rattle.laws_run.proofs.SectionBegins.{begun}
use Rattle.laws_run.proofs.TableBegins.{made_begins, begins_there}
use Rattle.laws_run.proofs.Since.{since_in_time}
use Rattle.laws_run.proofs.MapsNamed.{IsMapPid, named_are_maps}

-- Table t is the map of program number i.
pub record IsMap (d : Described) (t i pid : ℕ) : Type 0 where
  pub kind : table_kind d t ≡ Some (Pmt i)
  pub same : table_pid d t ≡ pid

pub map_table : (d : Described) (i : ℕ) (p : DescribedProgram) → slice_get d.programs i ≡ Some p → IsMap d (i + 1) i p.pmt_pid
map_table d i p is =
    let within : i < length d.programs = slice_get_within d.programs i p is in
    let less : i + 1 - 1 ≡ i = omega arith in
    let kind : table_kind d (i + 1) ≡ Some (Pmt i) = sym (table_kind-pmt d (i + 1) (omega arith) (omega (arith, within))) ∙ ap (λ (n : ℕ). Some (Pmt n)) less in
    let pid : kind_pid d (Pmt i) ≡ p.pmt_pid = rw (is, kind_pid) refl in
    let of_kind : table_pid d (i + 1) ≡ kind_pid d (Pmt i) = rw (kind, table_pid) refl in
    record { kind = kind; same = of_kind ∙ pid }

-- Sections of the map begin in time on its PID, from any packet on.
map_in_time : (d : Scheduled) (units : ℕ → List AccessUnit) (n t i since : ℕ) → IsInRange d.description → Promised d.description d.schedule →
    UnitsKept d units →
    n < 2 ^ 64 - 1 → table_kind d.description t ≡ Some (Pmt i) →
    map_late_since d.description.rate (length (run_bytes (content_at d units) 0 n) / 188)
    (table_begins 0x02 (found_on (table_pid d.description t) (run_bytes (content_at d units) 0 n))) (Some since) ≡ []
unfolding map_late_since
map_in_time d units n t i since r promised kept few is =
    ap₂ (λ (places : List ℕ) (e : ℕ). late d.description.rate 500 (since ∷ filter (λ packet. nat_lt since packet) places ++ e ∷ []))
    (made_begins d units n t (Pmt i) r kept few is tt) count
    ∙ since_in_time d.description.rate (table_limit d.description t) 500 since n own (begun pid content) wide all (table.sections_recur 0 within)
  where
    content : ℕ → Content
    content = content_at d units

    pid : ℕ
    pid = table_pid d.description t

    own : ℕ → Bool
    own = section_starts d.description d.schedule t 0

    bytes : List ℕ
    bytes = run_bytes content 0 n

    fits : Fits content
    fits = contents_fit d units r kept

    count : length bytes / 188 ≡ n
    count = let size : length bytes ≡ 188 * n = run_length content 0 n fits in omega (arith, size)

    there : t < table_count d.description
    there = slice_get_within (table_kinds d.description) t (Pmt i) is

    within : 0 < section_count d.description t
    within = (sections_law d.description t r there).0

    wide : table_limit d.description t ≤ 500
    wide = let same : table_limit d.description t ≡ 500 = rw is refl in omega (arith, same)

    table : TableKept d t n bytes
    table = (headline d units n r promised kept).tables t there

    all : (s : ℕ) → s < n → own s ≡ true → begun pid content s ≡ true
    all s lt y = begins_there (table_of d t) 0 s n content fits (table.begins 0 s within refl lt y)

-- Sections of program maps begin in time on each PID.
pub maps_in_time : (d : Scheduled) (units : ℕ → List AccessUnit) (n : ℕ) → IsInRange d.description → Promised d.description d.schedule → UnitsKept d units →
    n < 2 ^ 64 - 1 →
    (pid : ℕ) → map_late d.description.rate (run_bytes (content_at d units) 0 n) pid ≡ []
unfolding map_late_since
maps_in_time d units n r promised kept few pid = by (named_since pid bytes) refl
  where
    bytes : List ℕ
    bytes = run_bytes (content_at d units) 0 n

    InTime : Option ℕ → ℕ → Type 0
    InTime since q = map_late_since d.description.rate (length bytes / 188) (table_begins 0x02 (found_on q bytes)) since ≡ []

    by : (o : Option ℕ) → named_since pid bytes ≡ o → InTime o pid
    by None e = refl
    by (Some since) e =
        let map : IsMapPid d.description pid = named_are_maps d units n pid since r kept few e in
        let is = map_table d.description map.0 map.1 map.2 in
        subst (InTime (Some since)) (is.same ∙ map.3) (map_in_time d units n (map.0 + 1) map.0 since r promised kept few is.kind)
