-- The monitor finds no fault in the packets of a run, nor in their contents.
use Rattle.std.proofs.Common.{◌≡◌, ℕ, zero, suc, ◌+◌, ◌-◌, ◌*◌, ◌/◌, ◌%◌, ◌^◌, ◌<◌, ◌==◌, Bool, false, List, [], ◌∷◌, ◌++◌, length, map, Some, None, Result, Ok}
use Rattle.std.proofs.Common.{refl, sym, ap, subst, ◌∙◌, arith, All, inl, inr, if◌then◌else◌}
use Rattle.std.specs.List.{enumerate_from}
use Rattle.std.proofs.lemmas.Bool.{cases_Bool}
use Rattle.std.proofs.lemmas.List.Concat.{flat_map-cons}
use Rattle.std.proofs.lemmas.List.Elements.{All-head, All-tail}
use Rattle.ts_packet.specs.Views.{PacketView}
use Rattle.ts_packet.specs.declared.packet.PacketError.{PacketError}
use Rattle.ts_packet.specs.Reading.{packet_at}
use Rattle.ts_packet.specs.PidList.{cut_packets, pid_list}
use Rattle.slot_contents.specs.Contents.{Content, PayloadContent, PcrContent, NullContent, ContentFits, packet_of, view_of, run_bytes}
use Rattle.slot_contents.specs.RunLaws.{Fits}
use Rattle.slot_contents.proofs.Runs.{content_again, run_length}
use Rattle.ts_packet.proofs.Listing.{first_cut}
use Rattle.pid_findings.specs.Views.{WhatView, IsDuplicate, BreaksCounter, IsScrambled, IsTruncated, IsSection, IsBadSection, IsPes, IsBadPes, IsBadPacket}
use Rattle.pid_findings.specs.Views.{IsErrored}
use Rattle.pid_findings.specs.Views.{IsStray}
use Rattle.pid_findings.specs.Views.{PidFinding}
use Rattle.pid_findings.specs.Findings.{findings_to_end}
use Rattle.demux.specs.Laws.{with_pid_at}
use Rattle.demux.proofs.WholeStream.{each_pid_alone}
use Rattle.monitor.specs.declared.fault.StreamFault.{StreamFault}
use Rattle.monitor.specs.Rules.{packet_rule, finding_rule, failing}
use Rattle.monitor.specs.Begins.{found_on}
use Rattle.monitor.specs.Faults.{packet_faults, cut_faults, finding_faults}
use Rattle.laws_run.specs.CleanPids.{is_fault, IsClean as IsFaultless}
use Rattle.laws_run.specs.PidLaws.{found_on as reported_on}
use Rattle.mux_core.specs.Histories.{content_at}
use Rattle.mux_core.proofs.Accepted.{units_kept}
use Rattle.mux_core.proofs.Whole.{contents_fit}
use Rattle.laws_run.specs.Monitored.{SoundLaw, AnyStateSoundLaw}
use Rattle.laws_run.proofs.Faultless.{pid_clean}

-- Packets

unflagged : (i : ℕ) (c : Content) → failing None i (packet_rule (Ok (view_of c))) ≡ []
unfolding packet_rule failing view_of
unflagged i (PayloadContent pid number start payload) = refl
unflagged i (PcrContent pid pcr) = refl
unflagged i NullContent = refl

one_sound : (i : ℕ) (c : Content) → ContentFits c → failing None i (packet_rule (packet_at (packet_of c))) ≡ []
one_sound i c fits = ap (λ (r : Result PacketView PacketError). failing None i (packet_rule r)) (content_again c fits).read ∙ unflagged i c

-- The faults of one numbered packet
abbrev faults_at : ℕ × List ℕ → List StreamFault
faults_at p = failing None p.0 (packet_rule (packet_at p.1))

packets_sound : (content : ℕ → Content) (s n i : ℕ) → Fits content → packet_faults (enumerate_from i (cut_packets (run_bytes content s n))) ≡ []
unfolding run_bytes
packets_sound content s zero i fits = refl
packets_sound content s (suc n) i fits =
    let rest : List (ℕ × List ℕ) = enumerate_from (i + 1) (cut_packets (run_bytes content (suc s) n)) in
    let cut = first_cut (packet_of (content s)) (run_bytes content (suc s) n) (content_again (content s) (fits s)).size in
    ap (λ (packets : List (List ℕ)). packet_faults (enumerate_from i packets)) cut
    ∙ flat_map-cons faults_at (i, packet_of (content s)) rest
    ∙ ap (λ (fs : List StreamFault). fs ++ packet_faults rest) (one_sound i (content s) (fits s))
    ∙ packets_sound content (suc s) n (i + 1) fits

-- The last packet is whole.
none_cut : (bytes : List ℕ) (n : ℕ) → length bytes ≡ 188 * n → cut_faults bytes ≡ []
none_cut bytes n size =
    let rest : length bytes % 188 ≡ 0 = omega (arith, size) in
    rw rest refl

-- Findings

no_rule : (what : WhatView) → is_fault what ≡ false → finding_rule what ≡ None
unfolding finding_rule
no_rule IsDuplicate h = refl
no_rule (BreaksCounter expected found) h = absurd cc
no_rule IsScrambled h = refl
no_rule (IsTruncated bytes) h = refl
no_rule (IsSection bytes) h = refl
no_rule (IsBadSection error) h = absurd cc
no_rule (IsPes header open_ended body) h = refl
no_rule (IsBadPes error) h = refl
no_rule (IsBadPacket error) h = refl
no_rule IsErrored h = refl
no_rule (IsStray size) h = refl

-- The faults of one finding
abbrev faults_of_one : ℕ → PidFinding → List StreamFault
faults_of_one pid at = failing (Some pid) at.packet (finding_rule at.found.what)

one_fine : (pid packet : ℕ) (what : WhatView) → is_fault what ≡ false → failing (Some pid) packet (finding_rule what) ≡ []
unfolding failing
one_fine pid packet what h = ap (failing (Some pid) packet) (no_rule what h)

findings_fine : (pid : ℕ) (xs : List PidFinding) → All IsFaultless (map (with_pid_at pid) xs) → finding_faults pid xs ≡ []
findings_fine pid [] h = refl
findings_fine pid (x ∷ xs) h =
    flat_map-cons (faults_of_one pid) x xs
    ∙ ap (λ (fs : List StreamFault). fs ++ finding_faults pid xs)
    (one_fine pid x.packet x.found.what (All-head IsFaultless (with_pid_at pid x) (map (with_pid_at pid) xs) h))
    ∙ findings_fine pid xs (All-tail IsFaultless (with_pid_at pid x) (map (with_pid_at pid) xs) h)

-- The monitor's findings of a PID are a demultiplexer's findings on this PID.
pub as_reported : (pid : ℕ) (bytes : List ℕ) → (pid == 8191) ≡ false → length bytes / 188 < 2 ^ 64 - 1 →
    reported_on pid bytes ≡ map (with_pid_at pid) (found_on pid bytes)
as_reported pid bytes reported few =
    let same : found_on pid bytes ≡ findings_to_end (length bytes / 188) (pid_list pid bytes) = rw reported refl in
    (each_pid_alone pid bytes reported few).1 ∙ ap (map (with_pid_at pid)) (sym same)

pid_sound : (pid : ℕ) (bytes : List ℕ) → length bytes / 188 < 2 ^ 64 - 1 → ((pid == 8191) ≡ false → All IsFaultless (reported_on pid bytes)) →
    finding_faults pid (found_on pid bytes) ≡ []
pid_sound pid bytes few clean = elim (cases_Bool (pid == 8191)) [
  | inl y ↦ ap (λ (b : Bool). finding_faults pid (if b then [] else findings_to_end (length bytes / 188) (pid_list pid bytes))) y
  | inr reported ↦ findings_fine pid (found_on pid bytes) (subst (All IsFaultless) (as_reported pid bytes reported few) (clean reported))
]

-- The laws

pub sound : SoundLaw
sound d units n r kept few =
    let bytes : List ℕ = run_bytes (content_at d units) 0 n in
    let fits : Fits (content_at d units) = contents_fit d units r kept in
    let size : length bytes ≡ 188 * n = run_length (content_at d units) 0 n fits in
    let count : length bytes / 188 ≡ n = omega (arith, size) in
    record {
      packets = packets_sound (content_at d units) 0 n 0 fits;
      whole = none_cut bytes n size;
      findings = λ pid. pid_sound pid bytes (omega (arith, count, few)) (pid_clean d units n r kept few pid);
    }

pub any_state_sound : AnyStateSoundLaw
any_state_sound h m n r st few = sound m.schedule h.units n r (units_kept h m r st) (omega (arith, few))
