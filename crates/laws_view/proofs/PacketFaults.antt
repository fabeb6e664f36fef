-- Faults of single packets: the packets at which they are reported.
use Rattle.std.proofs.Common.{◌≡◌, ◌∙◌, ℕ, ◌+◌, ◌/◌, ◌%◌, ◌<◌, ◌==◌, Bool, true, false, cond, List, [], ◌∷◌, ◌++◌, length, map, filter, Some, None}
use Rattle.std.proofs.Common.{Result, Ok, Err, refl, ap, ap₂, arith}
use Rattle.std.specs.Prelude.{◌&&◌, is_ok, not, slice_index}
use Rattle.std.specs.List.{enumerate_from}
use Rattle.std.proofs.lemmas.List.Elements.{filter-append}
use Rattle.ts_packet.specs.declared.header.Header.{Header}
use Rattle.ts_packet.specs.declared.packet.PacketError.{PacketError}
use Rattle.ts_packet.specs.declared.packet.PacketError.TheVariants as refusals
use Rattle.ts_packet.specs.Views.{PacketView}
use Rattle.ts_packet.specs.Reading.{header_of, packet_at}
use Rattle.ts_packet.specs.PidList.{cut_packets}
use Rattle.monitor.specs.declared.fault.StreamFault.{StreamFault}
use Rattle.monitor.specs.declared.fault.Rule.{Rule}
use Rattle.monitor.specs.declared.fault.Rule.TheVariants as rules
use Rattle.monitor.specs.InOrder.{in_order, placed, rule_number}
use Rattle.monitor.specs.Rules.{failing, fault, packet_rule}
use Rattle.monitor.specs.Faults.{cut_faults, faults_of, packet_faults}
use Rattle.monitor.specs.ReportOf.{stream_report}
use Rattle.monitor.proofs.SameOrder.{has}
use Rattle.laws_view.specs.FaultsByRule.{is_by}
use Rattle.laws_view.specs.PacketFaults.{EndLaw, NamesPackets, has_sync_byte_error, has_transport_error, is_readable, is_unreadable, packets_where}
use Rattle.laws_view.proofs.FaultLists.{part_in_order}
use Rattle.laws_view.proofs.FaultGroups.{cut_group, refusal_group}
use Rattle.laws_view.proofs.PlaceOrder.{Increasing, Over, order_stays, rising_places}
use Rattle.laws_view.proofs.PacketForms.{IsBody, read_as}

-- 1. Packets that pass a test

abbrev places_from : (List ℕ → Bool) → ℕ → List (List ℕ) → List ℕ
places_from test i packets = map (λ p. p.0) (filter (λ p. test p.1) (enumerate_from i packets))

over_places : (test : List ℕ → Bool) (n i : ℕ) (packets : List (List ℕ)) → n < i → Over n (places_from test i packets)
over_places test n i [] h = tt
over_places test n i (bytes ∷ packets) h = by (test bytes) (over_places test n (i + 1) packets (omega (arith, h)))
  where
    by : (t : Bool) → Over n (places_from test (i + 1) packets) → Over n
        (map (λ (p : ℕ × List ℕ). p.0) (cond t ((i, bytes) ∷ filter (λ (p : ℕ × List ℕ). test p.1) (enumerate_from (i + 1) packets))
        (filter (λ (p : ℕ × List ℕ). test p.1) (enumerate_from (i + 1) packets))))
    by true k = (h, k)
    by false k = k

increasing_places : (test : List ℕ → Bool) (i : ℕ) (packets : List (List ℕ)) → Increasing (places_from test i packets)
increasing_places test i [] = tt
increasing_places test i (bytes ∷ packets) = by (test bytes) (increasing_places test (i + 1) packets)
  where
    by : (t : Bool) → Increasing (places_from test (i + 1) packets) → Increasing
        (map (λ (p : ℕ × List ℕ). p.0) (cond t ((i, bytes) ∷ filter (λ (p : ℕ × List ℕ). test p.1) (enumerate_from (i + 1) packets))
        (filter (λ (p : ℕ × List ℕ). test p.1) (enumerate_from (i + 1) packets))))
    by true k = (over_places test i (i + 1) packets (omega arith), k)
    by false k = k

-- By a rule, exactly the packets that pass a test are faults.
abbrev Tests : (StreamFault → Bool) → Rule → (List ℕ → Bool) → Type 0
Tests p rule test = (k : ℕ) (bytes : List ℕ) →
    filter p (failing None k (packet_rule (packet_at bytes))) ≡ cond (test bytes) (fault rule None k ∷ []) []

tested : (p : StreamFault → Bool) (rule : Rule) (test : List ℕ → Bool) (i : ℕ) (packets : List (List ℕ)) → Tests p rule test →
    filter p (packet_faults (enumerate_from i packets)) ≡ map (fault rule None) (places_from test i packets)
tested p rule test i [] h = refl
tested p rule test i (bytes ∷ packets) h =
    filter-append p (failing None i (packet_rule (packet_at bytes))) (packet_faults (enumerate_from (i + 1) packets))
    ∙ ap₂ (λ (a b : List StreamFault). a ++ b) (h i bytes) (tested p rule test (i + 1) packets h)
    ∙ by (test bytes)
  where
    by : (t : Bool) → cond t (fault rule None i ∷ []) [] ++ map (fault rule None) (places_from test (i + 1) packets) ≡ map (fault rule None)
        (map (λ (p : ℕ × List ℕ). p.0) (cond t ((i, bytes) ∷ filter (λ (p : ℕ × List ℕ). test p.1) (enumerate_from (i + 1) packets))
        (filter (λ (p : ℕ × List ℕ). test p.1) (enumerate_from (i + 1) packets))))
    by true = refl
    by false = refl

named : (p : StreamFault → Bool) (rule : Rule) (test : List ℕ → Bool) (rate limit : ℕ) (bytes : List ℕ) → Tests p rule test →
    filter p (faults_of rate limit bytes) ≡ filter p (packet_faults (enumerate_from 0 (cut_packets bytes))) →
    filter p (in_order (faults_of rate limit bytes)) ≡ map (fault rule None) (packets_where test bytes)
named p rule test rate limit bytes h e =
    let places = map (fault rule None) (packets_where test bytes) in
    part_in_order p (faults_of rate limit bytes) places (λ z. ap (has z) (e ∙ tested p rule test 0 (cut_packets bytes) h))
    ∙ order_stays places (rising_places rule None (packets_where test bytes) (increasing_places test 0 (cut_packets bytes)))

-- 2. The rules of single packets

sync_tests : Tests (is_by 1) rules.Sync has_sync_byte_error
unfolding packet_rule failing rule_number
sync_tests k bytes = by (slice_index bytes 0 == 0x47) refl
  where
    body : (r : Result PacketView PacketError) → IsBody (header_of bytes) r → filter (is_by 1) (failing None k (packet_rule r)) ≡ []
    body (Err refusals.Sync) h = absurd h
    body (Err refusals.ReservedControl) h = refl
    body (Err refusals.FieldTooLong) h = refl
    body (Err refusals.PartTooLong) h = refl
    body (Ok packet) h = flagged packet.header.transport_error_indicator
      where
        flagged : (t : Bool) → filter (is_by 1) (failing None k (cond t (Some rules.Error) None)) ≡ []
        flagged true = refl
        flagged false = refl

    by : (t : Bool) → (slice_index bytes 0 == 0x47) ≡ t →
        filter (is_by 1) (failing None k (packet_rule (packet_at bytes))) ≡ cond (not t) (fault rules.Sync None k ∷ []) []
    by true e = let r = read_as bytes true e in rw r.1 (body r.0 r.2)
    by false e = let r = read_as bytes false e in rw (r.1 ∙ r.2) refl

packet_tests : Tests (is_by 2) rules.Packet is_unreadable
unfolding packet_rule failing rule_number
packet_tests k bytes = by (slice_index bytes 0 == 0x47) refl
  where
    body : (r : Result PacketView PacketError) → IsBody (header_of bytes) r →
        filter (is_by 2) (failing None k (packet_rule r)) ≡ cond (not (is_ok r)) (fault rules.Packet None k ∷ []) []
    body (Err refusals.Sync) h = absurd h
    body (Err refusals.ReservedControl) h = refl
    body (Err refusals.FieldTooLong) h = refl
    body (Err refusals.PartTooLong) h = refl
    body (Ok packet) h = flagged packet.header.transport_error_indicator
      where
        flagged : (t : Bool) → filter (is_by 2) (failing None k (cond t (Some rules.Error) None)) ≡ []
        flagged true = refl
        flagged false = refl

    by : (t : Bool) → (slice_index bytes 0 == 0x47) ≡ t →
        filter (is_by 2) (failing None k (packet_rule (packet_at bytes))) ≡ cond (t && not (is_readable bytes)) (fault rules.Packet None k ∷ []) []
    by true e = let r = read_as bytes true e in rw r.1 (body r.0 r.2)
    by false e = let r = read_as bytes false e in rw (r.1 ∙ r.2) refl

error_tests : Tests (is_by 3) rules.Error has_transport_error
unfolding packet_rule failing rule_number header_of
error_tests k bytes = by (slice_index bytes 0 == 0x47) refl
  where
    bit : Bool
    bit = slice_index bytes 1 / 128 % 2 == 1

    flagged : (t : Bool) → filter (is_by 3) (failing None k (cond t (Some rules.Error) None)) ≡ cond t (fault rules.Error None k ∷ []) []
    flagged true = refl
    flagged false = refl

    flag_is : (header_of bytes).transport_error_indicator ≡ bit
    flag_is = refl

    body : (r : Result PacketView PacketError) → IsBody (header_of bytes) r →
        filter (is_by 3) (failing None k (packet_rule r)) ≡ cond (is_ok r && bit) (fault rules.Error None k ∷ []) []
    body (Err refusals.Sync) h = absurd h
    body (Err refusals.ReservedControl) h = refl
    body (Err refusals.FieldTooLong) h = refl
    body (Err refusals.PartTooLong) h = refl
    body (Ok packet) h =
        ap (λ (t : Bool). filter (is_by 3) (failing None k (cond t (Some rules.Error) None))) (ap (λ (d : Header). d.transport_error_indicator) h ∙ flag_is)
        ∙ flagged bit

    by : (t : Bool) → (slice_index bytes 0 == 0x47) ≡ t →
        filter (is_by 3) (failing None k (packet_rule (packet_at bytes))) ≡ cond (is_readable bytes && bit) (fault rules.Error None k ∷ []) []
    by true e = let r = read_as bytes true e in rw r.1 (body r.0 r.2)
    by false e = let r = read_as bytes false e in rw (r.1 ∙ r.2) refl

pub sync_law : NamesPackets rules.Sync has_sync_byte_error
unfolding stream_report rule_number
sync_law rate limit bytes = named (is_by 1) rules.Sync has_sync_byte_error rate limit bytes sync_tests
    (refusal_group (is_by 1) rate limit bytes (record {
      counter = λ o k. refl;
      crc = λ o k. refl;
      section = λ o k. refl;
      pat = λ o k. refl;
      pmt = λ o k. refl;
      nit = λ o k. refl;
      sdt = λ o k. refl;
      eit = λ o k. refl;
      tdt = λ o k. refl;
      pts = λ o k. refl;
      cut = λ o k. refl;
    }) (λ o k. refl))

pub packet_law : NamesPackets rules.Packet is_unreadable
unfolding stream_report rule_number
packet_law rate limit bytes = named (is_by 2) rules.Packet is_unreadable rate limit bytes packet_tests
    (refusal_group (is_by 2) rate limit bytes (record {
      counter = λ o k. refl;
      crc = λ o k. refl;
      section = λ o k. refl;
      pat = λ o k. refl;
      pmt = λ o k. refl;
      nit = λ o k. refl;
      sdt = λ o k. refl;
      eit = λ o k. refl;
      tdt = λ o k. refl;
      pts = λ o k. refl;
      cut = λ o k. refl;
    }) (λ o k. refl))

pub error_law : NamesPackets rules.Error has_transport_error
unfolding stream_report rule_number
error_law rate limit bytes = named (is_by 3) rules.Error has_transport_error rate limit bytes error_tests
    (refusal_group (is_by 3) rate limit bytes (record {
      counter = λ o k. refl;
      crc = λ o k. refl;
      section = λ o k. refl;
      pat = λ o k. refl;
      pmt = λ o k. refl;
      nit = λ o k. refl;
      sdt = λ o k. refl;
      eit = λ o k. refl;
      tdt = λ o k. refl;
      pts = λ o k. refl;
      cut = λ o k. refl;
    }) (λ o k. refl))

-- 3. The end of the stream

one_fault : (bytes : List ℕ) → in_order (cut_faults bytes) ≡ cut_faults bytes
unfolding in_order placed
one_fault bytes = by (length bytes % 188 == 0)
  where
    by : (t : Bool) → in_order (cond t [] (fault rules.Cut None (length bytes / 188) ∷ [])) ≡ cond t [] (fault rules.Cut None (length bytes / 188) ∷ [])
    by true = refl
    by false = refl

pub end_law : EndLaw
unfolding stream_report rule_number
end_law rate limit bytes =
    part_in_order (is_by 15) (faults_of rate limit bytes) (cut_faults bytes) (λ z. ap (has z) (cut_group rate limit bytes)) ∙ one_fault bytes
