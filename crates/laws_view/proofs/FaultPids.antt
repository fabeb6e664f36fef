-- Each fault of a report has the PID that its rule asks for.
use Rattle.std.proofs.Common.{◌≡◌, ◌∙◌, ⊎_elim, ℕ, ◌/◌, ◌%◌, ◌==◌, Bool, true, false, cond, List, [], ◌∷◌, ◌++◌, length, map, Option, Some, None, Result, Ok}
use Rattle.std.proofs.Common.{Err}
use Rattle.std.proofs.Common.{refl, sym, ap, arith}
use Rattle.std.specs.List.{enumerate_from, flat_map}
use Rattle.psi_tables.specs.declared.error.SectionError.TheVariants as section_errors
use Rattle.ts_packet.specs.declared.packet.PacketError.{PacketError}
use Rattle.ts_packet.specs.declared.packet.PacketError.TheVariants as refusals
use Rattle.ts_packet.specs.Views.{PacketView}
use Rattle.ts_packet.specs.Reading.{packet_at}
use Rattle.ts_packet.specs.PidList.{cut_packets}
use Rattle.pid_findings.specs.Views.{PidFinding, WhatView, IsDuplicate, BreaksCounter, IsScrambled, IsTruncated, IsSection, IsBadSection, IsPes, IsBadPes}
use Rattle.pid_findings.specs.Views.{IsBadPacket}
use Rattle.pid_findings.specs.Views.{IsErrored, IsStray}
use Rattle.monitor.specs.declared.fault.StreamFault.{StreamFault}
use Rattle.monitor.specs.declared.fault.Rule.{Rule}
use Rattle.monitor.specs.declared.fault.Rule.TheVariants as rules
use Rattle.monitor.specs.Begins.{found_on}
use Rattle.monitor.specs.InOrder.{in_order}
use Rattle.monitor.specs.NamedPids.{namings}
use Rattle.monitor.specs.Faults.{cut_faults, faults_of, finding_faults, map_late, on_each, packet_faults, packet_pids, pat_late, pcr_late, pts_late, table_late}
use Rattle.monitor.specs.ReportOf.{stream_report}
use Rattle.monitor.specs.Rules.{failing, fault, finding_rule, packet_rule}
use Rattle.monitor.proofs.LateFaults.{in_either}
use Rattle.monitor.proofs.RisingLists.{has_from_contains}
use Rattle.monitor.proofs.SameOrder.{has, has_in_order}
use Rattle.laws_view.specs.FaultPids.{PidLaw, has_its_pid}
use Rattle.laws_view.specs.FaultsByRule.{is_pid}
use Rattle.laws_view.proofs.References.{place_of}

no_false : true ≡ false → ⊥
no_false e = grind arith

-- 1. Lists of faults with the PIDs of their rules

abbrev AllFit : List StreamFault → Type 0
AllFit faults = (z : StreamFault) → has z faults ≡ true → has_its_pid z.rule z.pid ≡ true

none_there : AllFit []
unfolding has
none_there z e = absurd (no_false (sym e))

both_fit : (xs ys : List StreamFault) → AllFit xs → AllFit ys → AllFit (xs ++ ys)
both_fit xs ys h k z e = ⊎_elim (h z) (k z) (in_either z xs ys e)

of_rule : (rule : Rule) (pid : Option ℕ) (places : List ℕ) → has_its_pid rule pid ≡ true → AllFit (map (fault rule pid) places)
of_rule rule pid places h z e = let p = place_of rule pid z places e in ap (λ (f : StreamFault). has_its_pid f.rule f.pid) p.2 ∙ h

of_each : (f : ℕ → List StreamFault) (pids : List ℕ) → ((pid : ℕ) → AllFit (f pid)) → AllFit (flat_map f pids)
of_each f [] h = none_there
of_each f (pid ∷ pids) h = both_fit (f pid) (flat_map f pids) (h pid) (of_each f pids h)

-- 2. Group by group

one_packet : (k : ℕ) (r : Result PacketView PacketError) → AllFit (failing None k (packet_rule r))
unfolding failing packet_rule has_its_pid
one_packet k (Err refusals.Sync) = of_rule rules.Sync None (k ∷ []) refl
one_packet k (Err refusals.ReservedControl) = of_rule rules.Packet None (k ∷ []) refl
one_packet k (Err refusals.FieldTooLong) = of_rule rules.Packet None (k ∷ []) refl
one_packet k (Err refusals.PartTooLong) = of_rule rules.Packet None (k ∷ []) refl
one_packet k (Ok packet) = by packet.header.transport_error_indicator
  where
    by : (t : Bool) → AllFit (failing None k (cond t (Some rules.Error) None))
    by true = of_rule rules.Error None (k ∷ []) refl
    by false = none_there

of_packets : (packets : List (ℕ × List ℕ)) → AllFit (packet_faults packets)
of_packets [] = none_there
of_packets (p ∷ packets) =
    both_fit (failing None p.0 (packet_rule (packet_at p.1))) (packet_faults packets) (one_packet p.0 (packet_at p.1)) (of_packets packets)

of_end : (bytes : List ℕ) → AllFit (cut_faults bytes)
unfolding has_its_pid
of_end bytes = by (length bytes % 188 == 0)
  where
    by : (t : Bool) → AllFit (cond t [] (fault rules.Cut None (length bytes / 188) ∷ []))
    by true = none_there
    by false = of_rule rules.Cut None (length bytes / 188 ∷ []) refl

one_finding : (pid k : ℕ) (what : WhatView) → AllFit (failing (Some pid) k (finding_rule what))
unfolding failing finding_rule has_its_pid
one_finding pid k IsDuplicate = none_there
one_finding pid k (BreaksCounter expected found) = of_rule rules.Counter (Some pid) (k ∷ []) refl
one_finding pid k IsScrambled = none_there
one_finding pid k (IsTruncated bytes) = none_there
one_finding pid k (IsSection bytes) = none_there
one_finding pid k (IsBadSection section_errors.Short) = of_rule rules.Section (Some pid) (k ∷ []) refl
one_finding pid k (IsBadSection section_errors.Length) = of_rule rules.Section (Some pid) (k ∷ []) refl
one_finding pid k (IsBadSection section_errors.CheckWord) = of_rule rules.Crc (Some pid) (k ∷ []) refl
one_finding pid k (IsBadSection section_errors.Syntax) = of_rule rules.Section (Some pid) (k ∷ []) refl
one_finding pid k (IsBadSection section_errors.Body) = of_rule rules.Section (Some pid) (k ∷ []) refl
one_finding pid k (IsBadSection section_errors.TooLong) = of_rule rules.Section (Some pid) (k ∷ []) refl
one_finding pid k (IsPes header unended body) = none_there
one_finding pid k (IsBadPes error) = none_there
one_finding pid k (IsBadPacket error) = none_there
one_finding pid k IsErrored = none_there
one_finding pid k (IsStray size) = none_there

of_findings : (pid : ℕ) (found : List PidFinding) → AllFit (finding_faults pid found)
of_findings pid [] = none_there
of_findings pid (x ∷ found) =
    both_fit (failing (Some pid) x.packet (finding_rule x.found.what)) (finding_faults pid found) (one_finding pid x.packet x.found.what)
    (of_findings pid found)

each_of_rule : (rule : Rule) (places : ℕ → List ℕ) (pids : List ℕ) → ((pid : ℕ) → has_its_pid rule (Some pid) ≡ true) → AllFit (on_each rule places pids)
each_of_rule rule places pids h = of_each (λ pid. map (fault rule (Some pid)) (places pid)) pids (λ pid. of_rule rule (Some pid) (places pid) (h pid))

-- 3. All groups

all_fit : (rate given : ℕ) (bytes : List ℕ) → AllFit (faults_of rate given bytes)
unfolding faults_of has_its_pid is_pid
all_fit rate given bytes =
    both_fit _ _
    (both_fit _ _ (both_fit _ _ (of_packets (enumerate_from 0 (cut_packets bytes))) (of_end bytes))
    (each_of_rule rules.Pcr (pcr_late rate given bytes) (packet_pids bytes) (λ pid. refl)))
    (both_fit _ _ (both_fit _ _ (both_fit _ _ (both_fit _ _ (both_fit _ _ (both_fit _ _ (both_fit _ _
    (of_each (λ pid. finding_faults pid (found_on pid bytes)) (packet_pids bytes) (λ pid. of_findings pid (found_on pid bytes)))
    (of_rule rules.Pat (Some 0x00) (pat_late rate bytes) refl))
    (each_of_rule rules.Pmt (map_late rate bytes) (map (λ naming. naming.0) (namings (found_on 0 bytes))) (λ pid. refl)))
    (of_rule rules.Nit (Some 0x10) (table_late rate 10000 0x10 0x40 bytes) refl))
    (of_rule rules.Sdt (Some 0x11) (table_late rate 2000 0x11 0x42 bytes) refl))
    (of_rule rules.Eit (Some 0x12) (table_late rate 2000 0x12 0x4E bytes) refl))
    (of_rule rules.Tdt (Some 0x14) (table_late rate 30000 0x14 0x70 bytes) refl))
    (each_of_rule rules.Pts (pts_late rate bytes) (packet_pids bytes) (λ pid. refl)))

pub pid_law : PidLaw
unfolding stream_report
pid_law rate given bytes f c =
    all_fit rate given bytes f (sym (has_in_order f (faults_of rate given bytes)) ∙ has_from_contains f (in_order (faults_of rate given bytes)) c)
