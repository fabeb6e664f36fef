-- The monitor's state after each packet of a stream, computed from all its packets.
use Rattle.std.proofs.Common.{◌≡◌, ℕ, ◌+◌, ◌^◌, ◌<◌, ◌==◌, Bool, true, false, cond, List, [], ◌∷◌, ◌++◌, length, filter, None, Result, Ok, Err, refl, sym, ap}
use Rattle.std.proofs.Common.{◌∙◌, arith, append_assoc}
use Rattle.std.specs.List.{enumerate_from, filter_map, flat_map, cons_option}
use Rattle.std.proofs.lemmas.List.{append-nil}
use Rattle.ts_packet.specs.declared.packet.PacketError.{PacketError}
use Rattle.ts_packet.specs.declared.packet.PacketError.TheVariants as refusals
use Rattle.ts_packet.specs.Views.{PacketView}
use Rattle.ts_packet.specs.Reading.{packet_at}
use Rattle.ts_packet.specs.PcrBytes.{has_pcr}
use Rattle.ts_packet.specs.PidList.{Entry, entry_of, is_of_pid}
use Rattle.demux.specs.Stream as stream
use Rattle.demux.specs.Stream.{StreamState}
use Rattle.demux.specs.StreamBodies.{headers_taken, without_bodies}
use Rattle.demux.proofs.StreamBodies.{found_in_same, taken_same}
use Rattle.pid_findings.specs.Views.{FindingView}
use Rattle.demux.specs.FoundSoFar.{found_in_all, taken_all}
use Rattle.monitor.specs.declared.fault.StreamFault.{StreamFault}
use Rattle.monitor.specs.Laws.{places_of}
use Rattle.monitor.specs.Recurrences.{RecurrenceState, marked, marked_all}
use Rattle.monitor.specs.Counts.{packet_counted}
use Rattle.monitor.specs.declared.counts.PacketCounts.{PacketCounts}
use Rattle.monitor.specs.PacketStates.{PacketState, packet_watched, packet_watched_by, packet_counted_by, refusal_rule}
use Rattle.monitor.specs.FindingStates.{FindingState, all_noted, finding_noted}
use Rattle.monitor.specs.MonitorStates.{MonitorState, packet_taken, packets_taken}
use Rattle.monitor.specs.Rules.{packet_rule, failing}
use Rattle.monitor.specs.Faults.{packet_faults}
use Rattle.monitor.specs.Begins.{pcr_places}
use Rattle.monitor.proofs.HeaderFindings.{all_alike}

-- 1. The parts of the state

pub noted_append : (s : FindingState) (xs ys : List FindingView) → all_noted s (xs ++ ys) ≡ all_noted (all_noted s xs) ys
unfolding all_noted
noted_append s [] ys = refl
noted_append s (x ∷ xs) ys = noted_append (finding_noted s x) xs ys

-- A step without bodies gives the next state without its bodies.
next_besides : (s t : StreamState) (bytes : List ℕ) → s ≡ without_bodies t → headers_taken s bytes ≡ without_bodies (stream.taken t bytes)
next_besides s t bytes e = ap (λ (x : StreamState). headers_taken x bytes) e ∙ taken_same t bytes

found_besides : (found : FindingState) (s t : StreamState) (bytes : List ℕ) → s ≡ without_bodies t →
    all_noted found (stream.found_in s bytes) ≡ all_noted found (stream.found_in t bytes)
found_besides found s t bytes e =
    ap (λ (x : StreamState). all_noted found (stream.found_in x bytes)) e
    ∙ all_alike found (stream.found_in (without_bodies t) bytes) (stream.found_in t bytes) (found_in_same t bytes)

pub taken_found : (s : MonitorState) (t : StreamState) (packets : List (List ℕ)) → s.demux ≡ without_bodies t →
    (packets_taken s packets).found ≡ all_noted s.found (found_in_all t packets)
unfolding packets_taken found_in_all all_noted
taken_found s t [] e = refl
taken_found s t (bytes ∷ packets) e =
    taken_found (packet_taken s bytes) (stream.taken t bytes) packets (next_besides s.demux t bytes e)
    ∙ ap (λ (found : FindingState). all_noted found (found_in_all (stream.taken t bytes) packets)) (found_besides s.found s.demux t bytes e)
    ∙ sym (noted_append s.found (stream.found_in t bytes) (found_in_all (stream.taken t bytes) packets))

pub taken_demux : (s : MonitorState) (t : StreamState) (packets : List (List ℕ)) → s.demux ≡ without_bodies t →
    (packets_taken s packets).demux ≡ without_bodies (taken_all t packets)
unfolding packets_taken taken_all
taken_demux s t [] e = e
taken_demux s t (bytes ∷ packets) e = taken_demux (packet_taken s bytes) (stream.taken t bytes) packets (next_besides s.demux t bytes e)

pub taken_count : (s : MonitorState) (packets : List (List ℕ)) → s.packets + length packets < 2 ^ 64 → (packets_taken s packets).packets ≡ s.packets
    + length packets
unfolding packets_taken
taken_count s [] h = omega arith
taken_count s (bytes ∷ packets) h =
    let e : stream.next_packet s.packets ≡ s.packets + 1 = omega arith in
    taken_count (packet_taken s bytes) packets (omega arith) ∙ omega arith

unfoldable pub seen_all : PacketState → List (ℕ × List ℕ) → PacketState
seen_all seen [] = seen
seen_all seen (p ∷ packets) = seen_all (packet_watched seen p.0 p.1) packets

pub taken_seen : (s : MonitorState) (packets : List (List ℕ)) → s.packets + length packets < 2 ^ 64 →
    (packets_taken s packets).seen ≡ seen_all s.seen (enumerate_from s.packets packets)
unfolding packets_taken seen_all
taken_seen s [] h = refl
taken_seen s (bytes ∷ packets) h =
    let e : stream.next_packet s.packets ≡ s.packets + 1 = omega arith in
    taken_seen (packet_taken s bytes) packets (omega arith)
    ∙ ap (λ (i : ℕ). seen_all (packet_watched s.seen s.packets bytes) (enumerate_from i packets)) e

-- 2. Packets that are faults by themselves

fault_of_packet : (s : PacketState) (index : ℕ) (r : Result PacketView PacketError) →
    (packet_watched_by s index r).faults ≡ s.faults ++ failing None index (packet_rule r)
unfolding packet_watched_by packet_counted_by refusal_rule packet_rule failing
fault_of_packet s index (Err refusals.Sync) = refl
fault_of_packet s index (Err refusals.ReservedControl) = refl
fault_of_packet s index (Err refusals.FieldTooLong) = refl
fault_of_packet s index (Err refusals.PartTooLong) = refl
fault_of_packet s index (Ok packet) = by packet.header.transport_error_indicator refl
  where
    by : (e : Bool) → packet.header.transport_error_indicator ≡ e → (packet_watched_by s index (Ok packet)).faults ≡ s.faults
        ++ failing None index (packet_rule (Ok packet))
    by true e = rw e refl
    by false e = rw e (sym (append-nil s.faults))

pub seen_faults : (seen : PacketState) (packets : List (ℕ × List ℕ)) → (seen_all seen packets).faults ≡ seen.faults ++ packet_faults packets
unfolding seen_all
seen_faults seen [] = sym (append-nil seen.faults)
seen_faults seen (p ∷ packets) =
    seen_faults (packet_watched seen p.0 p.1) packets
    ∙ ap (λ (xs : List StreamFault). xs ++ packet_faults packets) (fault_of_packet seen p.0 (packet_at p.1))
    ∙ append_assoc seen.faults (failing None p.0 (packet_rule (packet_at p.1))) (packet_faults packets)

-- 3. Clock references

unfoldable pub pcr_pair : ℕ → Result PacketView PacketError → List (ℕ × ℕ)
pcr_pair index (Err error) = []
pcr_pair index (Ok packet) = cond packet.header.transport_error_indicator [] (cond (has_pcr packet.adaptation) ((packet.header.pid, index) ∷ []) [])

abbrev pub pcr_pairs : List (ℕ × List ℕ) → List (ℕ × ℕ)
pcr_pairs packets = flat_map (λ p. pcr_pair p.0 (packet_at p.1)) packets

pub marked_append : (s : RecurrenceState) (xs ys : List (ℕ × ℕ)) → marked_all s (xs ++ ys) ≡ marked_all (marked_all s xs) ys
unfolding marked_all
marked_append s [] ys = refl
marked_append s (x ∷ xs) ys = marked_append (marked s x.0 x.1) xs ys

pcr_of_packet : (s : PacketState) (index : ℕ) (r : Result PacketView PacketError) → (packet_watched_by s index r).pcr ≡ marked_all s.pcr (pcr_pair index r)
unfolding packet_watched_by packet_counted_by pcr_pair marked_all
pcr_of_packet s index (Err error) = refl
pcr_of_packet s index (Ok packet) = by packet.header.transport_error_indicator refl (has_pcr packet.adaptation) refl
  where
    by : (e : Bool) → packet.header.transport_error_indicator ≡ e → (t : Bool) → has_pcr packet.adaptation ≡ t →
        (packet_watched_by s index (Ok packet)).pcr ≡ marked_all s.pcr (pcr_pair index (Ok packet))
    by true e t h = rw e refl
    by false e true h = rw (e, h) refl
    by false e false h = rw (e, h) refl

pub seen_pcr : (seen : PacketState) (packets : List (ℕ × List ℕ)) → (seen_all seen packets).pcr ≡ marked_all seen.pcr (pcr_pairs packets)
unfolding seen_all marked_all
seen_pcr seen [] = refl
seen_pcr seen (p ∷ packets) =
    seen_pcr (packet_watched seen p.0 p.1) packets
    ∙ ap (λ (s : RecurrenceState). marked_all s (pcr_pairs packets)) (pcr_of_packet seen p.0 (packet_at p.1))
    ∙ sym (marked_append seen.pcr (pcr_pair p.0 (packet_at p.1)) (pcr_pairs packets))

-- The packets of one PID in this list
abbrev pub listed : ℕ → List (ℕ × List ℕ) → List Entry
listed pid packets = filter (λ entry. is_of_pid pid entry.packet) (filter_map (λ p. entry_of p.0 p.1 (packet_at p.1)) packets)

pub pcr_places_of : (pid : ℕ) (packets : List (ℕ × List ℕ)) → places_of pid (pcr_pairs packets) ≡ pcr_places (listed pid packets)
unfolding pcr_pair entry_of
pcr_places_of pid [] = refl
pcr_places_of pid (p ∷ packets) = by (packet_at p.1) (pcr_places_of pid packets)
  where
    rest : List Entry
    rest = filter_map (λ p. entry_of p.0 p.1 (packet_at p.1)) packets

    on : (packet : PacketView) (e h t : Bool) → packet.header.transport_error_indicator ≡ e → has_pcr packet.adaptation ≡ h → (packet.header.pid == pid) ≡ t →
        places_of pid (pcr_pairs packets) ≡ pcr_places (listed pid packets) →
        places_of pid (pcr_pair p.0 (Ok packet) ++ pcr_pairs packets) ≡ pcr_places
        (filter (λ entry. is_of_pid pid entry.packet) (record { index = p.0; bytes = p.1; packet = packet } ∷ rest))
    on packet true h true e f g k = rw (e, g) k
    on packet true h false e f g k = rw (e, g) k
    on packet false true true e f g k = rw (e, g, f, g) (ap (λ (xs : List ℕ). p.0 ∷ xs) k)
    on packet false true false e f g k = rw (e, g, f, g) k
    on packet false false true e f g k = rw (e, g, f) k
    on packet false false false e f g k = rw (e, g, f) k

    by : (r : Result PacketView PacketError) → places_of pid (pcr_pairs packets) ≡ pcr_places (listed pid packets) →
        places_of pid (pcr_pair p.0 r ++ pcr_pairs packets) ≡ pcr_places (filter (λ entry. is_of_pid pid entry.packet) (cons_option (entry_of p.0 p.1 r) rest))
    by (Err error) k = k
    by (Ok packet) k = on packet packet.header.transport_error_indicator (has_pcr packet.adaptation) (packet.header.pid == pid) refl refl refl k

-- 4. Counts

unfoldable pub start_of : Result PacketView PacketError → List (ℕ × Bool)
start_of (Err error) = []
start_of (Ok packet) = cond packet.header.transport_error_indicator [] ((packet.header.pid, packet.header.payload_unit_start_indicator) ∷ [])

abbrev pub starts_of : List (ℕ × List ℕ) → List (ℕ × Bool)
starts_of packets = flat_map (λ p. start_of (packet_at p.1)) packets

unfoldable pub carried_all : List (ℕ × PacketCounts) → List (ℕ × Bool) → List (ℕ × PacketCounts)
carried_all entries [] = entries
carried_all entries (x ∷ starts) = carried_all (packet_counted entries x.0 x.1) starts

carried_append : (entries : List (ℕ × PacketCounts)) (xs ys : List (ℕ × Bool)) → carried_all entries (xs ++ ys) ≡ carried_all (carried_all entries xs) ys
unfolding carried_all
carried_append entries [] ys = refl
carried_append entries (x ∷ xs) ys = carried_append (packet_counted entries x.0 x.1) xs ys

carried_of_packet : (s : PacketState) (index : ℕ) (r : Result PacketView PacketError) →
    (packet_watched_by s index r).packet_counts ≡ carried_all s.packet_counts (start_of r)
unfolding packet_watched_by packet_counted_by start_of carried_all
carried_of_packet s index (Err error) = refl
carried_of_packet s index (Ok packet) = by packet.header.transport_error_indicator refl
  where
    by : (e : Bool) → packet.header.transport_error_indicator ≡ e →
        (packet_watched_by s index (Ok packet)).packet_counts ≡ carried_all s.packet_counts (start_of (Ok packet))
    by true e = rw e refl
    by false e = rw e refl

pub seen_carried : (seen : PacketState) (packets : List (ℕ × List ℕ)) →
    (seen_all seen packets).packet_counts ≡ carried_all seen.packet_counts (starts_of packets)
unfolding seen_all carried_all
seen_carried seen [] = refl
seen_carried seen (p ∷ packets) =
    seen_carried (packet_watched seen p.0 p.1) packets
    ∙ ap (λ (es : List (ℕ × PacketCounts)). carried_all es (starts_of packets)) (carried_of_packet seen p.0 (packet_at p.1))
    ∙ sym (carried_append seen.packet_counts (start_of (packet_at p.1)) (starts_of packets))
