-- Sections of a table that is not ready-made begin in time, from the begin of a run to its end.
use Rattle.std.proofs.Common.{◌≡◌, ℕ, ◌+◌, ◌-◌, ◌*◌, ◌/◌, ◌^◌, ◌<◌, ◌≤◌, Bool, true, List, [], ◌∷◌, ◌++◌, length, Some, refl, ap, ◌∙◌, arith}
use Rattle.std.proofs.lemmas.Option.{slice_get_within}
use Rattle.pes_packet.specs.AccessUnits.{AccessUnit}
use Rattle.slot_contents.specs.Contents.{Content, run_bytes}
use Rattle.slot_contents.specs.RunLaws.{Fits}
use Rattle.slot_contents.proofs.Runs.{run_length}
use Rattle.description_parts.specs.Ranges.{IsInRange}
use Rattle.description_parts.specs.Tables.{table_kinds, table_kind, table_count, table_pid, kind_limit, table_limit, section_count}
use Rattle.description_parts.specs.declared.table_kind.TableKind.{TableKind}
use Rattle.description_parts.specs.declared.table_kind.TableKind.TheVariants.{Pat}
use Rattle.description.proofs.SectionCounts.{sections_law}
use Rattle.slot_plan.specs.TableRounds.{section_starts}
use Rattle.slot_plan.specs.Promised.{Promised}
use Rattle.monitor.specs.Gaps.{late}
use Rattle.monitor.specs.Begins.{found_on, table_begins}
use Rattle.monitor.specs.Faults.{pat_late}
use Rattle.mux_core.specs.Scheduled.{Scheduled}
use Rattle.mux_core.specs.Histories.{table_of, content_at}
use Rattle.mux_core.specs.Headline.{UnitsKept, TableKept}
use Rattle.mux_core.proofs.Whole.{contents_fit, headline}
use Rattle.laws_run.proofs.TablesWritten.{IsMade}
use Rattle.laws_run.proofs.SectionBegins.{begun}
use Rattle.laws_run.proofs.TableIds.{table_id_of}
use Rattle.laws_run.proofs.TableBegins.{made_begins, begins_there}
use Rattle.laws_run.proofs.Between.{IsEnd, between}

-- The begins are in time, with the end of the run as a last place or without it.
pub made_in_time : (d : Scheduled) (units : ℕ → List AccessUnit) (n limit t : ℕ) (k : TableKind) (ends : List ℕ) → IsInRange d.description →
    Promised d.description d.schedule →
    UnitsKept d units → n < 2 ^ 64 - 1 → table_kind d.description t ≡ Some k → IsMade k → kind_limit d.description k ≤ limit → IsEnd (188 * n) ends →
    late d.description.rate limit (0 ∷ table_begins (table_id_of k) (found_on (table_pid d.description t) (run_bytes (content_at d units) 0 n)) ++ ends) ≡ []
made_in_time d units n limit t k ends r promised kept few is made le end =
    ap (λ (places : List ℕ). late d.description.rate limit (0 ∷ places ++ ends)) (made_begins d units n t k r kept few is made)
    ∙ between d.description.rate (table_limit d.description t) limit (188 * n) ends own (begun pid content) 0 n 0 0 wide end (omega arith) (omega arith)
    (omega arith) all
    (table.sections_recur 0 within)
  where
    content : ℕ → Content
    content = content_at d units

    pid : ℕ
    pid = table_pid d.description t

    own : ℕ → Bool
    own = section_starts d.description d.schedule t 0

    fits : Fits content
    fits = contents_fit d units r kept

    there : t < table_count d.description
    there = slice_get_within (table_kinds d.description) t k is

    within : 0 < section_count d.description t
    within = (sections_law d.description t r there).0

    wide : table_limit d.description t ≤ limit
    wide = let same : table_limit d.description t ≡ kind_limit d.description k = rw is refl in omega (arith, same, le)

    table : TableKept d t n (run_bytes content 0 n)
    table = (headline d units n r promised kept).tables t there

    all : (s : ℕ) → s < 0 + n → own s ≡ true → begun pid content s ≡ true
    all s lt y = begins_there (table_of d t) 0 s n content fits (table.begins 0 s within refl (omega (arith, lt)) y)

pub pat_in_time : (d : Scheduled) (units : ℕ → List AccessUnit) (n : ℕ) → IsInRange d.description → Promised d.description d.schedule → UnitsKept d units →
    n < 2 ^ 64 - 1 →
    pat_late d.description.rate (run_bytes (content_at d units) 0 n) ≡ []
pat_in_time d units n r promised kept few =
    let content : ℕ → Content = content_at d units in
    let bytes : List ℕ = run_bytes content 0 n in
    let size : length bytes ≡ 188 * n = run_length content 0 n (contents_fit d units r kept) in
    let count : length bytes / 188 ≡ n = omega (arith, size) in
    ap (λ (e : ℕ). late d.description.rate 500 (0 ∷ table_begins 0x00 (found_on 0 bytes) ++ e ∷ [])) count
    ∙ made_in_time d units n 500 0 Pat (n ∷ []) r promised kept few refl tt (omega arith) (omega arith)
