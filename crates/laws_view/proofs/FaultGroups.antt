-- The faults of a stream by one rule are the faults of one group.
use Rattle.std.proofs.Common.{◌≡◌, ◌∙◌, ℕ, ◌/◌, ◌%◌, ◌==◌, Bool, true, false, cond, List, [], ◌∷◌, ◌++◌, length, map, filter, Option, Some, None, Result, Ok}
use Rattle.std.proofs.Common.{Err, refl}
use Rattle.std.specs.List.{enumerate_from, flat_map}
use Rattle.psi_tables.specs.declared.error.SectionError.TheVariants as section_errors
use Rattle.ts_packet.specs.declared.packet.PacketError.{PacketError}
use Rattle.ts_packet.specs.declared.packet.PacketError.TheVariants as refusals
use Rattle.ts_packet.specs.Views.{PacketView}
use Rattle.ts_packet.specs.Reading.{packet_at}
use Rattle.ts_packet.specs.PidList.{cut_packets}
use Rattle.pid_findings.specs.Views.{PidFinding, WhatView, IsDuplicate, BreaksCounter, IsScrambled, IsTruncated, IsSection, IsBadSection, IsPes, IsBadPes}
use Rattle.pid_findings.specs.Views.{IsBadPacket}
use Rattle.pid_findings.specs.Views.{IsErrored, IsStray}
use Rattle.monitor.specs.declared.fault.StreamFault.{StreamFault}
use Rattle.monitor.specs.declared.fault.Rule.{Rule}
use Rattle.monitor.specs.declared.fault.Rule.TheVariants as rules
use Rattle.monitor.specs.InOrder.{rule_number}
use Rattle.monitor.specs.Begins.{found_on}
use Rattle.monitor.specs.NamedPids.{namings}
use Rattle.monitor.specs.Faults.{cut_faults, faults_of, faults_of_findings, faults_of_packets, finding_faults, map_late, on_each, packet_faults, packet_pids}
use Rattle.monitor.specs.Faults.{pat_late, pcr_late, pts_late, table_late}
use Rattle.monitor.specs.Rules.{failing, fault, finding_rule, packet_rule}
use Rattle.laws_view.specs.FaultsByRule.{is_by}
use Rattle.laws_view.proofs.FaultLists.{left_alone, none_at, none_on_each, right_alone}

-- 1. Groups without selected faults

-- The test selects no fault of a rule.
abbrev pub Without : (StreamFault → Bool) → Rule → Type 0
Without p rule = (pid : Option ℕ) (k : ℕ) → p (fault rule pid k) ≡ false

pub none_packet : (p : StreamFault → Bool) (k : ℕ) (r : Result PacketView PacketError) → Without p rules.Sync → Without p rules.Packet → Without p rules.Error →
    filter p (failing None k (packet_rule r)) ≡ []
unfolding packet_rule failing
none_packet p k (Err refusals.Sync) s q e = rw (s None k) refl
none_packet p k (Err refusals.ReservedControl) s q e = rw (q None k) refl
none_packet p k (Err refusals.FieldTooLong) s q e = rw (q None k) refl
none_packet p k (Err refusals.PartTooLong) s q e = rw (q None k) refl
none_packet p k (Ok packet) s q e = by packet.header.transport_error_indicator
  where
    by : (t : Bool) → filter p (failing None k (cond t (Some rules.Error) None)) ≡ []
    by true = rw (e None k) refl
    by false = refl

pub none_of_packets : (p : StreamFault → Bool) (packets : List (ℕ × List ℕ)) → Without p rules.Sync → Without p rules.Packet → Without p rules.Error →
    filter p (packet_faults packets) ≡ []
none_of_packets p [] s q e = refl
none_of_packets p (x ∷ packets) s q e =
    right_alone p (failing None x.0 (packet_rule (packet_at x.1))) (packet_faults packets) (none_packet p x.0 (packet_at x.1) s q e)
    ∙ none_of_packets p packets s q e

pub none_cut : (p : StreamFault → Bool) (bytes : List ℕ) → Without p rules.Cut → filter p (cut_faults bytes) ≡ []
none_cut p bytes h = by (length bytes % 188 == 0)
  where
    by : (t : Bool) → filter p (cond t [] (fault rules.Cut None (length bytes / 188) ∷ [])) ≡ []
    by true = refl
    by false = rw (h None (length bytes / 188)) refl

-- 2. Groups of other rules

-- If a test selects no rule of packets, it selects no fault of packets.
pub none_by_packets : (p : StreamFault → Bool) (rate limit : ℕ) (bytes : List ℕ) → Without p rules.Sync → Without p rules.Packet → Without p rules.Error →
    Without p rules.Cut → Without p rules.Pcr → filter p (faults_of_packets rate limit bytes) ≡ []
none_by_packets p rate limit bytes s q e c r =
    right_alone p (packet_faults (enumerate_from 0 (cut_packets bytes)) ++ cut_faults bytes) (on_each rules.Pcr (pcr_late rate limit bytes) (packet_pids bytes))
    (right_alone p (packet_faults (enumerate_from 0 (cut_packets bytes))) (cut_faults bytes) (none_of_packets p (enumerate_from 0 (cut_packets bytes)) s q e)
    ∙ none_cut p bytes c)
    ∙ none_on_each p rules.Pcr (pcr_late rate limit bytes) (packet_pids bytes) r

-- If a test selects no rule of tables and time stamps, it selects only the faults of the findings themselves.
pub findings_alone : (p : StreamFault → Bool) (rate : ℕ) (bytes : List ℕ) → Without p rules.Pat → Without p rules.Pmt → Without p rules.Nit →
    Without p rules.Sdt → Without p rules.Eit → Without p rules.Tdt → Without p rules.Pts →
    filter p (faults_of_findings rate bytes) ≡ filter p (flat_map (λ pid. finding_faults pid (found_on pid bytes)) (packet_pids bytes))
findings_alone p rate bytes pat pmt nit sdt eit tdt pts =
    left_alone p _ (on_each rules.Pts (pts_late rate bytes) (packet_pids bytes)) (none_on_each p rules.Pts (pts_late rate bytes) (packet_pids bytes) pts)
    ∙ left_alone p _ _ (none_at p rules.Tdt (Some 0x14) (table_late rate 30000 0x14 0x70 bytes) (tdt (Some 0x14)))
    ∙ left_alone p _ _ (none_at p rules.Eit (Some 0x12) (table_late rate 2000 0x12 0x4E bytes) (eit (Some 0x12)))
    ∙ left_alone p _ _ (none_at p rules.Sdt (Some 0x11) (table_late rate 2000 0x11 0x42 bytes) (sdt (Some 0x11)))
    ∙ left_alone p _ _ (none_at p rules.Nit (Some 0x10) (table_late rate 10000 0x10 0x40 bytes) (nit (Some 0x10)))
    ∙ left_alone p _ _ (none_on_each p rules.Pmt (map_late rate bytes) (map (λ naming. naming.0) (namings (found_on 0 bytes))) pmt)
    ∙ left_alone p _ _ (none_at p rules.Pat (Some 0x00) (pat_late rate bytes) (pat (Some 0x00)))

-- 3. The group of each rule

abbrev pub findings_part : List ℕ → List StreamFault
findings_part bytes = flat_map (λ pid. finding_faults pid (found_on pid bytes)) (packet_pids bytes)

-- Rule 4: continuity_counter
pub counter_group : (rate limit : ℕ) (bytes : List ℕ) → filter (is_by 4) (faults_of rate limit bytes) ≡ filter (is_by 4) (findings_part bytes)
unfolding faults_of rule_number
counter_group rate limit bytes =
    right_alone (is_by 4) (faults_of_packets rate limit bytes) (faults_of_findings rate bytes)
    (none_by_packets (is_by 4) rate limit bytes (λ o k. refl) (λ o k. refl) (λ o k. refl) (λ o k. refl) (λ o k. refl))
    ∙ findings_alone (is_by 4) rate bytes (λ o k. refl) (λ o k. refl) (λ o k. refl) (λ o k. refl) (λ o k. refl) (λ o k. refl) (λ o k. refl)

-- 4. If a test selects no rule of findings, it selects no finding

none_finding : (p : StreamFault → Bool) (pid k : ℕ) (what : WhatView) → Without p rules.Counter → Without p rules.Crc → Without p rules.Section →
    filter p (failing (Some pid) k (finding_rule what)) ≡ []
unfolding finding_rule failing
none_finding p pid k IsDuplicate n c s = refl
none_finding p pid k (BreaksCounter expected found) n c s = rw (n (Some pid) k) refl
none_finding p pid k IsScrambled n c s = refl
none_finding p pid k (IsTruncated bytes) n c s = refl
none_finding p pid k (IsSection bytes) n c s = refl
none_finding p pid k (IsBadSection section_errors.Short) n c s = rw (s (Some pid) k) refl
none_finding p pid k (IsBadSection section_errors.Length) n c s = rw (s (Some pid) k) refl
none_finding p pid k (IsBadSection section_errors.CheckWord) n c s = rw (c (Some pid) k) refl
none_finding p pid k (IsBadSection section_errors.Syntax) n c s = rw (s (Some pid) k) refl
none_finding p pid k (IsBadSection section_errors.Body) n c s = rw (s (Some pid) k) refl
none_finding p pid k (IsBadSection section_errors.TooLong) n c s = rw (s (Some pid) k) refl
none_finding p pid k (IsPes header unended body) n c s = refl
none_finding p pid k (IsBadPes error) n c s = refl
none_finding p pid k (IsBadPacket error) n c s = refl
none_finding p pid k IsErrored n c s = refl
none_finding p pid k (IsStray size) n c s = refl

none_of_pid : (p : StreamFault → Bool) (pid : ℕ) (found : List PidFinding) → Without p rules.Counter → Without p rules.Crc → Without p rules.Section →
    filter p (finding_faults pid found) ≡ []
none_of_pid p pid [] n c s = refl
none_of_pid p pid (x ∷ found) n c s =
    right_alone p (failing (Some pid) x.packet (finding_rule x.found.what)) (finding_faults pid found) (none_finding p pid x.packet x.found.what n c s)
    ∙ none_of_pid p pid found n c s

pub none_of_pids : (p : StreamFault → Bool) (bytes pids : List ℕ) → Without p rules.Counter → Without p rules.Crc → Without p rules.Section →
    filter p (flat_map (λ pid. finding_faults pid (found_on pid bytes)) pids) ≡ []
none_of_pids p bytes [] n c s = refl
none_of_pids p bytes (pid ∷ pids) n c s =
    right_alone p (finding_faults pid (found_on pid bytes)) _ (none_of_pid p pid (found_on pid bytes) n c s) ∙ none_of_pids p bytes pids n c s

-- A test that selects no rule of findings.
pub record OfPackets (p : StreamFault → Bool) : Type 0 where
  pub counter : Without p rules.Counter
  pub crc : Without p rules.Crc
  pub section : Without p rules.Section
  pub pat : Without p rules.Pat
  pub pmt : Without p rules.Pmt
  pub nit : Without p rules.Nit
  pub sdt : Without p rules.Sdt
  pub eit : Without p rules.Eit
  pub tdt : Without p rules.Tdt
  pub pts : Without p rules.Pts
  pub cut : Without p rules.Cut

packets_alone : (p : StreamFault → Bool) (rate limit : ℕ) (bytes : List ℕ) → OfPackets p →
    filter p (faults_of rate limit bytes) ≡ filter p (faults_of_packets rate limit bytes)
unfolding faults_of
packets_alone p rate limit bytes h =
    left_alone p (faults_of_packets rate limit bytes) (faults_of_findings rate bytes)
    (findings_alone p rate bytes h.pat h.pmt h.nit h.sdt h.eit h.tdt h.pts ∙ none_of_pids p bytes (packet_pids bytes) h.counter h.crc h.section)

-- Rules 1 to 3: packets that are refused or have transport_error_indicator
pub refusal_group : (p : StreamFault → Bool) (rate limit : ℕ) (bytes : List ℕ) → OfPackets p → Without p rules.Pcr →
    filter p (faults_of rate limit bytes) ≡ filter p (packet_faults (enumerate_from 0 (cut_packets bytes)))
refusal_group p rate limit bytes h pcr =
    packets_alone p rate limit bytes h
    ∙ left_alone p (packet_faults (enumerate_from 0 (cut_packets bytes)) ++ cut_faults bytes)
    (on_each rules.Pcr (pcr_late rate limit bytes) (packet_pids bytes))
    (none_on_each p rules.Pcr (pcr_late rate limit bytes) (packet_pids bytes) pcr)
    ∙ left_alone p (packet_faults (enumerate_from 0 (cut_packets bytes))) (cut_faults bytes) (none_cut p bytes h.cut)

-- Rule 13: clock references
pub pcr_group : (p : StreamFault → Bool) (rate limit : ℕ) (bytes : List ℕ) → OfPackets p → Without p rules.Sync → Without p rules.Packet →
    Without p rules.Error →
    filter p (faults_of rate limit bytes) ≡ filter p (on_each rules.Pcr (pcr_late rate limit bytes) (packet_pids bytes))
pcr_group p rate limit bytes h s q e =
    packets_alone p rate limit bytes h
    ∙ right_alone p (packet_faults (enumerate_from 0 (cut_packets bytes)) ++ cut_faults bytes)
    (on_each rules.Pcr (pcr_late rate limit bytes) (packet_pids bytes))
    (right_alone p (packet_faults (enumerate_from 0 (cut_packets bytes))) (cut_faults bytes) (none_of_packets p (enumerate_from 0 (cut_packets bytes)) s q e)
    ∙ none_cut p bytes h.cut)

-- Rule 15: the end of the stream
pub cut_group : (rate limit : ℕ) (bytes : List ℕ) → filter (is_by 15) (faults_of rate limit bytes) ≡ cut_faults bytes
unfolding faults_of rule_number
cut_group rate limit bytes =
    left_alone (is_by 15) (faults_of_packets rate limit bytes) (faults_of_findings rate bytes)
    (findings_alone (is_by 15) rate bytes (λ o k. refl) (λ o k. refl) (λ o k. refl) (λ o k. refl) (λ o k. refl) (λ o k. refl) (λ o k. refl)
    ∙ none_of_pids (is_by 15) bytes (packet_pids bytes) (λ o k. refl) (λ o k. refl) (λ o k. refl))
    ∙ left_alone (is_by 15) (packet_faults (enumerate_from 0 (cut_packets bytes)) ++ cut_faults bytes)
    (on_each rules.Pcr (pcr_late rate limit bytes) (packet_pids bytes))
    (none_on_each (is_by 15) rules.Pcr (pcr_late rate limit bytes) (packet_pids bytes) (λ o k. refl))
    ∙ right_alone (is_by 15) (packet_faults (enumerate_from 0 (cut_packets bytes))) (cut_faults bytes)
    (none_of_packets (is_by 15) (enumerate_from 0 (cut_packets bytes)) (λ o k. refl) (λ o k. refl) (λ o k. refl))
    ∙ all_of_cut (length bytes % 188 == 0)
  where
    all_of_cut : (t : Bool) → filter (is_by 15) (cond t [] (fault rules.Cut None (length bytes / 188) ∷ [])) ≡ cond t []
        (fault rules.Cut None (length bytes / 188) ∷ [])
    all_of_cut true = refl
    all_of_cut false = refl
