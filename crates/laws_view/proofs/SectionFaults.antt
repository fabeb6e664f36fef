-- Refused sections: the packets at which they are reported.
use Rattle.std.proofs.Common.{◌≡◌, ◌∙◌, ⊎_elim, ◌↔◌, ℕ, zero, suc, Bool, true, false, List, [], ◌∷◌, Option, Some, None, refl, sym, ap}
use Rattle.std.proofs.Common.{subst, arith}
use Rattle.std.specs.Prelude.{◌||◌}
use Rattle.std.specs.List.{Contains}
use Rattle.pid_findings.specs.Views.{PidFinding}
use Rattle.monitor.specs.declared.fault.StreamFault.{StreamFault}
use Rattle.monitor.specs.declared.fault.Rule.{Rule}
use Rattle.monitor.specs.declared.fault.Rule.TheVariants as rules
use Rattle.monitor.specs.Begins.{found_on}
use Rattle.monitor.specs.InOrder.{in_order, rule_number}
use Rattle.monitor.specs.Faults.{faults_of, finding_faults, packet_pids}
use Rattle.monitor.specs.ReportOf.{stream_report}
use Rattle.monitor.specs.Rules.{failing, fault, finding_rule}
use Rattle.monitor.proofs.GroupedFaults.{has_packets}
use Rattle.monitor.proofs.LateFaults.{each_in, each_out, in_either, in_left, in_right, within}
use Rattle.monitor.proofs.RisingLists.{contains_from_has, has_from_contains}
use Rattle.monitor.proofs.SameOrder.{has, same, same_is, same_itself}
use Rattle.laws_view.specs.FaultsByRule.{is_by}
use Rattle.laws_view.specs.TableFaults.{FindingFaultLaw, IsFound}
use Rattle.laws_view.proofs.FaultGroups.{findings_part}
use Rattle.laws_view.proofs.TableFaults.{in_group, none_on}
use Rattle.laws_view.proofs.TableGroups.{crc_group, section_group}

no_false : true ≡ false → ⊥
no_false e = grind arith

-- 1. A fault of a finding

record Fails (pid : ℕ) (z : StreamFault) (found : List PidFinding) : Type 0 where
  finding : PidFinding
  contained : Contains found finding
  fails : finding_rule finding.found.what ≡ Some z.rule
  is : z ≡ fault z.rule (Some pid) finding.packet

at_one : (pid packet : ℕ) (z : StreamFault) (o : Option Rule) → has z (failing (Some pid) packet o) ≡ true →
    (o ≡ Some z.rule) × (z ≡ fault z.rule (Some pid) packet)
unfolding failing has
at_one pid packet z None e = absurd (no_false (sym e))
at_one pid packet z (Some rule) e = by (same z (fault rule (Some pid) packet)) refl e
  where
    by : (t : Bool) → same z (fault rule (Some pid) packet) ≡ t → (t || false) ≡ true → (Some rule ≡ Some z.rule) × (z ≡ fault z.rule (Some pid) packet)
    by true s h =
        let is : z ≡ fault rule (Some pid) packet = same_is z (fault rule (Some pid) packet) s in
        let same_rule : z.rule ≡ rule = ap (λ (f : StreamFault). f.rule) is in
        (ap (λ (r : Rule). Some r) (sym same_rule), is ∙ ap (λ (r : Rule). fault r (Some pid) packet) (sym same_rule))
    by false s h = absurd (no_false (sym h))

fails_of : (pid : ℕ) (z : StreamFault) (found : List PidFinding) → has z (finding_faults pid found) ≡ true → Fails pid z found
unfolding has
fails_of pid z [] e = absurd (no_false (sym e))
fails_of pid z (x ∷ found) e =
    ⊎_elim
    (λ h. let r = at_one pid x.packet z (finding_rule x.found.what) h in
    record { finding = x; contained = (zero, omega arith, refl); fails = r.0; is = r.1 })
    (λ h. let r = fails_of pid z found h in
    let c = r.contained in
    record { finding = r.finding; contained = (suc c.0, omega (arith, c.1), c.2); fails = r.fails; is = r.is })
    (in_either z (failing (Some pid) x.packet (finding_rule x.found.what)) (finding_faults pid found) e)

fails_in : (rule : Rule) (pid : ℕ) (at : PidFinding) (found : List PidFinding) → Contains found at → finding_rule at.found.what ≡ Some rule →
    has (fault rule (Some pid) at.packet) (finding_faults pid found) ≡ true
unfolding failing has
fails_in rule pid at [] c e = absurd (omega (arith, c.1))
fails_in rule pid at (x ∷ found) (zero, k, s) e =
    in_left (fault rule (Some pid) at.packet) (failing (Some pid) x.packet (finding_rule x.found.what)) (finding_faults pid found)
    (subst (λ (f : PidFinding). has (fault rule (Some pid) at.packet) (failing (Some pid) f.packet (finding_rule f.found.what)) ≡ true) (sym s)
    (ap (λ (o : Option Rule). has (fault rule (Some pid) at.packet) (failing (Some pid) at.packet o)) e
    ∙ ap (λ (t : Bool). t || false) (same_itself (fault rule (Some pid) at.packet))))
fails_in rule pid at (x ∷ found) (suc i, k, s) e =
    in_right (fault rule (Some pid) at.packet) (failing (Some pid) x.packet (finding_rule x.found.what)) (finding_faults pid found)
    (fails_in rule pid at found (i, omega (arith, k), s) e)

-- 2. A fault in a report

found_of_pid : (rule : Rule) (pid n : ℕ) (bytes : List ℕ) → has (fault rule (Some pid) n) (findings_part bytes) ≡ true → IsFound rule pid bytes n
found_of_pid rule pid n bytes e =
    let r = fails_of pid z (found_on pid bytes) (each_out z on (on pid) (packet_pids bytes) one e) in
    record { finding = r.finding; found = r.contained; here = sym (ap (λ (f : StreamFault). f.packet) r.is); fails = r.fails }
  where
    z : StreamFault
    z = fault rule (Some pid) n

    on : ℕ → List StreamFault
    on q = finding_faults q (found_on q bytes)

    one : (q : ℕ) → has z (on q) ≡ true → has z (on pid) ≡ true
    one q h =
        let r = fails_of q z (found_on q bytes) h in
        let pids : Some pid ≡ Some q = ap (λ (f : StreamFault). f.pid) r.is in
        let same_pid : q ≡ pid = cc in
        subst (λ (k : ℕ). has z (on k) ≡ true) same_pid h

in_findings : (rule : Rule) (pid n : ℕ) (bytes : List ℕ) → IsFound rule pid bytes n → has (fault rule (Some pid) n) (findings_part bytes) ≡ true
in_findings rule pid n bytes h =
    each_in (fault rule (Some pid) n) (λ q. finding_faults q (found_on q bytes)) (packet_pids bytes) pid covered
    (subst (λ (k : ℕ). has (fault rule (Some pid) k) (finding_faults pid (found_on pid bytes)) ≡ true) h.here
    (fails_in rule pid h.finding (found_on pid bytes) h.found h.fails))
  where
    nothing : (found : List PidFinding) → found ≡ [] → Contains found h.finding → ⊥
    nothing [] e c = absurd (omega (arith, c.1))
    nothing (x ∷ found) e c = absurd cc

    covered : within pid (packet_pids bytes)
    covered = ⊎_elim (λ e. absurd (nothing (found_on pid bytes) (none_on pid bytes e) h.found)) (λ w. w) (has_packets pid bytes)

reported : (rule : Rule) (pid n : ℕ) (bytes : List ℕ) (faults : List StreamFault) →
    has (fault rule (Some pid) n) faults ≡ has (fault rule (Some pid) n) (findings_part bytes) →
    Contains faults (fault rule (Some pid) n) ↔ IsFound rule pid bytes n
reported rule pid n bytes faults e = (
  λ c. found_of_pid rule pid n bytes (sym e ∙ has_from_contains (fault rule (Some pid) n) faults c),
  λ h. contains_from_has (fault rule (Some pid) n) faults (e ∙ in_findings rule pid n bytes h),
)

pub crc_law : FindingFaultLaw rules.Crc
unfolding stream_report rule_number
crc_law rate given pid n bytes = reported rules.Crc pid n bytes (in_order (faults_of rate given bytes))
    (in_group (is_by 5) (fault rules.Crc (Some pid) n) (faults_of rate given bytes) (findings_part bytes) refl (crc_group rate given bytes))

pub section_law : FindingFaultLaw rules.Section
unfolding stream_report rule_number
section_law rate given pid n bytes = reported rules.Section pid n bytes (in_order (faults_of rate given bytes))
    (in_group (is_by 6) (fault rules.Section (Some pid) n) (faults_of rate given bytes) (findings_part bytes) refl (section_group rate given bytes))
