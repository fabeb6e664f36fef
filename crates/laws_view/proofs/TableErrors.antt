-- The late sections that are reported are the errors of tables without parts.
use Rattle.std.proofs.Common.{◌≡◌, ◌∙◌, ℕ, ◌<◌, Bool, true, false, List, [], ◌∷◌, map, filter, Option, Some, refl, ap}
use Rattle.tr101290.specs.Intervals.{no_section}
use Rattle.tr101290.specs.Limits.{milliseconds}
use Rattle.tr101290.specs.Parts.{has_parts}
use Rattle.tr101290.specs.declared.intervals.TableError.{TableError}
use Rattle.tr101290.specs.declared.intervals.TableTiming.TheVariants.{ConstantRate}
use Rattle.monitor.specs.declared.fault.StreamFault.{StreamFault}
use Rattle.monitor.specs.declared.fault.Rule.{Rule}
use Rattle.monitor.specs.declared.fault.Rule.TheVariants as rules
use Rattle.monitor.specs.Begins.{found_on}
use Rattle.monitor.specs.Faults.{faults_of, table_late}
use Rattle.monitor.specs.InOrder.{in_order, rule_number}
use Rattle.monitor.specs.ReportOf.{stream_report}
use Rattle.monitor.specs.Rules.{fault}
use Rattle.monitor.proofs.SameOrder.{has}
use Rattle.laws_view.specs.FaultsByRule.{is_by}
use Rattle.laws_view.specs.Limits.{nit_limit, sdt_limit, tdt_limit}
use Rattle.laws_view.specs.TableFaults.{TableErrorLaw}
use Rattle.laws_view.specs.Tables.{errors_from, sections_of}
use Rattle.laws_view.proofs.FaultLists.{part_in_order}
use Rattle.laws_view.proofs.TableGroups.{nit_group, sdt_group, tdt_group}
use Rattle.laws_view.proofs.Tables.{table_law}

kept_all : (p : StreamFault → Bool) (rule : Rule) (pid : Option ℕ) (xs : List ℕ) → ((k : ℕ) → p (fault rule pid k) ≡ true) →
    filter p (map (fault rule pid) xs) ≡ map (fault rule pid) xs
kept_all p rule pid [] h = refl
kept_all p rule pid (x ∷ xs) h = rw (h x) (ap (λ (l : List StreamFault). fault rule pid x ∷ l) (kept_all p rule pid xs h))

of_errors : (rule : Rule) (pid : Option ℕ) (errors : List TableError) →
    map (fault rule pid) (map (λ e. e.section.packet) errors) ≡ map (λ e. fault rule pid e.section.packet) errors
of_errors rule pid [] = refl
of_errors rule pid (e ∷ errors) = ap (λ (l : List StreamFault). fault rule pid e.section.packet ∷ l) (of_errors rule pid errors)

table_errors : (p : StreamFault → Bool) (rule : Rule) (rate given limit pid table_id : ℕ) (bytes : List ℕ) →
    ((k : ℕ) → p (fault rule (Some pid) k) ≡ true) →
    filter p (faults_of rate given bytes) ≡ filter p (map (fault rule (Some pid)) (table_late rate limit pid table_id bytes)) → 0 < rate →
    milliseconds pid table_id ≡ Some limit → has_parts pid table_id ≡ false → filter p (in_order (faults_of rate given bytes)) ≡ in_order
    (map (λ e. fault rule (Some pid) e.section.packet) (errors_from (no_section (ConstantRate rate)) (sections_of pid table_id (found_on pid bytes))))
table_errors p rule rate given limit pid table_id bytes h g some m whole =
    part_in_order p (faults_of rate given bytes) (map (λ e. fault rule (Some pid) e.section.packet) errors)
    (λ z. ap (has z) (g ∙ kept_all p rule (Some pid) (table_late rate limit pid table_id bytes) h
    ∙ ap (map (fault rule (Some pid))) (table_law rate limit pid table_id (found_on pid bytes) some m whole)
    ∙ of_errors rule (Some pid) errors))
  where
    errors : List TableError
    errors = errors_from (no_section (ConstantRate rate)) (sections_of pid table_id (found_on pid bytes))

pub nit_errors : TableErrorLaw nit_limit 0x10 0x40
unfolding stream_report rule_number milliseconds
nit_errors rate given bytes some =
    table_errors (is_by 9) rules.Nit rate given 10000 0x10 0x40 bytes (λ k. refl) (nit_group rate given bytes) some refl refl

pub sdt_errors : TableErrorLaw sdt_limit 0x11 0x42
unfolding stream_report rule_number milliseconds
sdt_errors rate given bytes some =
    table_errors (is_by 10) rules.Sdt rate given 2000 0x11 0x42 bytes (λ k. refl) (sdt_group rate given bytes) some refl refl

pub tdt_errors : TableErrorLaw tdt_limit 0x14 0x70
unfolding stream_report rule_number milliseconds
tdt_errors rate given bytes some =
    table_errors (is_by 12) rules.Tdt rate given 30000 0x14 0x70 bytes (λ k. refl) (tdt_group rate given bytes) some refl refl
