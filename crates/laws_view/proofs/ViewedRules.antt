-- The faults of a report by each rule, packet by packet.
use Rattle.std.proofs.Common.{◌≡◌, ◌∙◌, ℕ, ◌+◌, ◌-◌, ◌/◌, ◌^◌, ◌<◌, Bool, true, false, cond, List, [], ◌∷◌, ◌++◌, length, map, filter, Option, Some, None}
use Rattle.std.proofs.Common.{Result, Ok, Err, refl, sym, ap, ap₂, arith}
use Rattle.std.specs.Prelude.{not}
use Rattle.std.specs.List.{cons_option, enumerate_from, filter_map}
use Rattle.std.proofs.lemmas.List.{append-nil}
use Rattle.std.proofs.lemmas.List.Elements.{filter-append}
use Rattle.ts_packet.specs.declared.packet.PacketError.{PacketError}
use Rattle.ts_packet.specs.Views.{PacketView}
use Rattle.ts_packet.specs.Reading.{packet_at}
use Rattle.ts_packet.specs.PidList.{Entry, entry_of}
use Rattle.demux.specs.Stream.{pushed}
use Rattle.tr101290.specs.Windows.{one_more}
use Rattle.tr101290.specs.Continuity.{Lasts, after, before_if, error_at, errors_from}
use Rattle.tr101290.specs.Errors.{repetition_error}
use Rattle.tr101290.specs.declared.report.PcrError.{PcrError}
use Rattle.tr101290.specs.declared.report.PcrReport.{PcrReport}
use Rattle.tr101290.specs.declared.continuity.ContinuityError.{ContinuityError}
use Rattle.ts_report.specs.Seen.{SeenState, counted_entry, report_on, with_counter, with_counter_read}
use Rattle.ts_report.specs.Views.{ViewState, after_packet, after_read, counter_events_at, events_all, events_at, events_read, table_events_at}
use Rattle.ts_report.specs.Views.{with_packet, with_tables, without, without_stream}
use Rattle.monitor.specs.declared.fault.StreamFault.{StreamFault}
use Rattle.monitor.specs.declared.fault.Rule.{Rule}
use Rattle.monitor.specs.declared.fault.Rule.TheVariants as rules
use Rattle.monitor.specs.InOrder.{rule_number}
use Rattle.monitor.specs.Faults.{packet_faults}
use Rattle.monitor.specs.Rules.{failing, fault, packet_rule}
use Rattle.laws_view.specs.Continuity.{counter_fault, is_sound}
use Rattle.laws_view.specs.FaultsByRule.{is_by}
use Rattle.laws_view.proofs.FaultGroups.{Without, none_packet}
use Rattle.laws_view.proofs.Continuity.{sound_in}
use Rattle.laws_view.proofs.ViewedPackets.{counter_if, counter_read, counters, late_if, late_reference, part, part_append, reads, repetition_of}
use Rattle.laws_view.proofs.ViewedPackets.{sections_none}

-- 1. The state after a packet

-- The state after 188 bytes with this result of reading.
abbrev pub seen_after : ViewState → List ℕ → Result PacketView PacketError → SeenState
seen_after s bytes r = with_counter_read (with_tables (after_read s r) bytes).seen bytes r

-- The state after a packet with or without transport_error_indicator, before its counter is judged.
abbrev pub seen_before : ViewState → List ℕ → PacketView → Bool → SeenState
seen_before s bytes packet wrong = (with_tables (cond wrong (without s) (with_packet s packet)) bytes).seen

abbrev pub seen_by : ViewState → List ℕ → PacketView → Bool → SeenState
seen_by s bytes packet wrong =
    cond wrong (seen_before s bytes packet wrong)
    (with_counter (seen_before s bytes packet wrong) (counted_entry (seen_before s bytes packet wrong) bytes packet))

packets_after : (s : ViewState) (bytes : List ℕ) (r : Result PacketView PacketError) → (seen_after s bytes r).packets ≡ one_more s.seen.packets
unfolding with_counter_read after_read
packets_after s bytes (Err error) = refl
packets_after s bytes (Ok packet) = by packet.header.transport_error_indicator
  where
    by : (t : Bool) → (seen_by s bytes packet t).packets ≡ one_more s.seen.packets
    by true = refl
    by false = refl

-- 2. The findings at a packet

abbrev pub With : (StreamFault → Bool) → Rule → Type 0
With p rule = (pid : Option ℕ) (k : ℕ) → p (fault rule pid k) ≡ true

repetition_none : (p : StreamFault → Bool) (pid : ℕ) (o : Option PcrError) → Without p rules.Pcr → filter p (repetition_of pid o) ≡ []
repetition_none p pid None h = refl
repetition_none p pid (Some e) h = rw (h (Some pid) (e.byte / 188)) refl

repetition_kept : (p : StreamFault → Bool) (pid : ℕ) (o : Option PcrError) → With p rules.Pcr → filter p (repetition_of pid o) ≡ repetition_of pid o
repetition_kept p pid None h = refl
repetition_kept p pid (Some e) h = rw (h (Some pid) (e.byte / 188)) refl

reference_none : (p : StreamFault → Bool) (pid : ℕ) (o : Option PcrReport) → Without p rules.Pcr → filter p (late_reference pid o) ≡ []
unfolding late_reference
reference_none p pid None h = refl
reference_none p pid (Some report) h = repetition_none p pid (repetition_error report) h

reference_kept : (p : StreamFault → Bool) (pid : ℕ) (o : Option PcrReport) → With p rules.Pcr → filter p (late_reference pid o) ≡ late_reference pid o
unfolding late_reference
reference_kept p pid None h = refl
reference_kept p pid (Some report) h = repetition_kept p pid (repetition_error report) h

late_none : (p : StreamFault → Bool) (s : SeenState) (r : Result PacketView PacketError) → Without p rules.Pcr → filter p (late_if s r) ≡ []
unfolding late_if
late_none p s (Err error) h = refl
late_none p s (Ok packet) h = by packet.header.transport_error_indicator
  where
    by : (t : Bool) → filter p (cond t [] (late_reference packet.header.pid (report_on s packet))) ≡ []
    by true = refl
    by false = reference_none p packet.header.pid (report_on s packet) h

pub late_kept : (p : StreamFault → Bool) (s : SeenState) (r : Result PacketView PacketError) → With p rules.Pcr → filter p (late_if s r) ≡ late_if s r
unfolding late_if
late_kept p s (Err error) h = refl
late_kept p s (Ok packet) h = by packet.header.transport_error_indicator
  where
    by : (t : Bool) →
        filter p (cond t [] (late_reference packet.header.pid (report_on s packet))) ≡ cond t [] (late_reference packet.header.pid (report_on s packet))
    by true = refl
    by false = reference_kept p packet.header.pid (report_on s packet) h

counter_one_none : (p : StreamFault → Bool) (o : Option ContinuityError) → Without p rules.Counter → filter p (counter_if o) ≡ []
unfolding counter_if
counter_one_none p None h = refl
counter_one_none p (Some e) h = rw (h (Some e.pid) e.packet) refl

counter_one_kept : (p : StreamFault → Bool) (o : Option ContinuityError) → With p rules.Counter → filter p (counter_if o) ≡ counter_if o
unfolding counter_if
counter_one_kept p None h = refl
counter_one_kept p (Some e) h = rw (h (Some e.pid) e.packet) refl

counter_none : (p : StreamFault → Bool) (s : SeenState) (bytes : List ℕ) (r : Result PacketView PacketError) → Without p rules.Counter →
    filter p (counter_read s bytes r) ≡ []
unfolding counter_read
counter_none p s bytes (Err error) h = refl
counter_none p s bytes (Ok packet) h = by packet.header.transport_error_indicator
  where
    o : Option ContinuityError
    o = error_at s.counters (record { index = s.packets - 1; bytes = bytes; packet = packet })

    by : (t : Bool) → filter p (cond t [] (counter_if o)) ≡ []
    by true = refl
    by false = counter_one_none p o h

counter_kept : (p : StreamFault → Bool) (s : SeenState) (bytes : List ℕ) (r : Result PacketView PacketError) → With p rules.Counter →
    filter p (counter_read s bytes r) ≡ counter_read s bytes r
unfolding counter_read
counter_kept p s bytes (Err error) h = refl
counter_kept p s bytes (Ok packet) h = by packet.header.transport_error_indicator
  where
    o : Option ContinuityError
    o = error_at s.counters (record { index = s.packets - 1; bytes = bytes; packet = packet })

    by : (t : Bool) → filter p (cond t [] (counter_if o)) ≡ cond t [] (counter_if o)
    by true = refl
    by false = counter_one_kept p o h

-- The faults at a packet that a test without sections selects.
abbrev pub before_counter : ViewState → List ℕ → SeenState
before_counter s bytes = (with_tables (after_read s (packet_at bytes)) bytes).seen

at_packet : (p : StreamFault → Bool) (s : ViewState) (bytes : List ℕ) → Without p rules.Crc → Without p rules.Nit → Without p rules.Sdt → Without p rules.Tdt →
    part p (events_at s bytes) ≡ (filter p (failing None s.seen.packets (packet_rule (packet_at bytes))) ++ filter p (late_if s.seen (packet_at bytes)))
    ++ filter p (counter_read (before_counter s bytes) bytes (packet_at bytes))
at_packet p s bytes c n d t =
    part_append p (events_read s r) (table_events_at v bytes ++ counter_events_at v bytes)
    ∙ ap₂ (λ (a b : List StreamFault). a ++ b)
    (ap (filter p) (reads s r) ∙ filter-append p (failing None s.seen.packets (packet_rule r)) (late_if s.seen r))
    (part_append p (table_events_at v bytes) (counter_events_at v bytes)
    ∙ ap₂ (λ (a b : List StreamFault). a ++ b)
    (sections_none p v.seen.options v.seen.tables.times (pushed v.seen.tables.demux (without_stream v bytes r)).found c n d t)
    (ap (filter p) (counters (before_counter s bytes) bytes r)))
  where
    r : Result PacketView PacketError
    r = packet_at bytes

    v : ViewState
    v = after_read s (packet_at bytes)

-- 3. Refusals

-- A test that selects rules of refusals only.
pub record Refuses (p : StreamFault → Bool) : Type 0 where
  pub crc : Without p rules.Crc
  pub nit : Without p rules.Nit
  pub sdt : Without p rules.Sdt
  pub tdt : Without p rules.Tdt
  pub pcr : Without p rules.Pcr
  pub counter : Without p rules.Counter

refused_at : (p : StreamFault → Bool) (s : ViewState) (bytes : List ℕ) → Refuses p →
    part p (events_at s bytes) ≡ filter p (failing None s.seen.packets (packet_rule (packet_at bytes)))
refused_at p s bytes h =
    at_packet p s bytes h.crc h.nit h.sdt h.tdt
    ∙ ap₂ (λ (a b : List StreamFault). (filter p (failing None s.seen.packets (packet_rule (packet_at bytes))) ++ a) ++ b)
    (late_none p s.seen (packet_at bytes) h.pcr) (counter_none p (before_counter s bytes) bytes (packet_at bytes) h.counter)
    ∙ append-nil (filter p (failing None s.seen.packets (packet_rule (packet_at bytes))) ++ [])
    ∙ append-nil (filter p (failing None s.seen.packets (packet_rule (packet_at bytes))))

pub next_count : (s : ViewState) (bytes : List ℕ) → s.seen.packets + 1 < 2 ^ 64 → (after_packet s bytes).seen.packets ≡ s.seen.packets + 1
next_count s bytes h = let e : one_more s.seen.packets ≡ s.seen.packets + 1 = omega arith in packets_after s bytes (packet_at bytes) ∙ e

pub refused_along : (p : StreamFault → Bool) (s : ViewState) (packets : List (List ℕ)) → Refuses p → s.seen.packets + length packets < 2 ^ 64 →
    part p (events_all s packets) ≡ filter p (packet_faults (enumerate_from s.seen.packets packets))
unfolding events_all
refused_along p s [] h n = refl
refused_along p s (bytes ∷ packets) h n =
    let e : (after_packet s bytes).seen.packets ≡ s.seen.packets + 1 = next_count s bytes (omega arith) in
    part_append p (events_at s bytes) (events_all (after_packet s bytes) packets)
    ∙ ap₂ (λ (a b : List StreamFault). a ++ b) (refused_at p s bytes h)
    (refused_along p (after_packet s bytes) packets h (omega arith) ∙ ap (λ (i : ℕ). filter p (packet_faults (enumerate_from i packets))) e)
    ∙ sym (filter-append p (failing None s.seen.packets (packet_rule (packet_at bytes))) (packet_faults (enumerate_from (s.seen.packets + 1) packets)))

-- 4. Counters

first_error : (lasts : Lasts) (entry : Entry) (rest : List Entry) →
    map counter_fault (errors_from lasts (entry ∷ rest)) ≡ counter_if (error_at lasts entry) ++ map counter_fault (errors_from (after lasts entry) rest)
unfolding errors_from before_if counter_if
first_error lasts entry rest = by (error_at lasts entry)
  where
    by : (o : Option ContinuityError) → map counter_fault (before_if o (errors_from (after lasts entry) rest)) ≡ counter_if o
        ++ map counter_fault (errors_from (after lasts entry) rest)
    by None = refl
    by (Some e) = refl

counter_step : (s : ViewState) (bytes : List ℕ) (r : Result PacketView PacketError) (rest : List Entry) → one_more s.seen.packets - 1 ≡ s.seen.packets →
    counter_read (with_tables (after_read s r) bytes).seen bytes r ++ map counter_fault (errors_from (seen_after s bytes r).counters (filter is_sound rest))
    ≡ map counter_fault (errors_from s.seen.counters (filter is_sound (cons_option (entry_of s.seen.packets bytes r) rest)))
unfolding after_read with_counter_read counter_read entry_of
counter_step s bytes (Err error) rest n = refl
counter_step s bytes (Ok packet) rest n = by packet.header.transport_error_indicator
  where
    at : ℕ → Entry
    at index = record { index = index; bytes = bytes; packet = packet }

    of : ℕ → List StreamFault
    of index = counter_if (error_at s.seen.counters (at index)) ++ map counter_fault (errors_from (after s.seen.counters (at index)) (filter is_sound rest))

    error : Bool → List StreamFault
    error t = cond t [] (counter_if (error_at (seen_before s bytes packet t).counters (at ((seen_before s bytes packet t).packets - 1))))

    by : (t : Bool) → error t ++ map counter_fault (errors_from (seen_by s bytes packet t).counters (filter is_sound rest))
        ≡ map counter_fault (errors_from s.seen.counters (cond (not t) (at s.seen.packets ∷ filter is_sound rest) (filter is_sound rest)))
    by true = refl
    by false = ap of n ∙ sym (first_error s.seen.counters (at s.seen.packets) (filter is_sound rest))

counter_at_packet : (s : ViewState) (bytes : List ℕ) → part (is_by 4) (events_at s bytes) ≡ counter_read (before_counter s bytes) bytes (packet_at bytes)
unfolding rule_number
counter_at_packet s bytes =
    at_packet (is_by 4) s bytes (λ o k. refl) (λ o k. refl) (λ o k. refl) (λ o k. refl)
    ∙ ap₂ (λ (a b : List StreamFault). (a ++ b) ++ filter (is_by 4) (counter_read (before_counter s bytes) bytes (packet_at bytes)))
    (none_packet (is_by 4) s.seen.packets (packet_at bytes) (λ o k. refl) (λ o k. refl) (λ o k. refl))
    (late_none (is_by 4) s.seen (packet_at bytes) (λ o k. refl))
    ∙ counter_kept (is_by 4) (before_counter s bytes) bytes (packet_at bytes) (λ o k. refl)

pub counters_along : (s : ViewState) (packets : List (List ℕ)) → s.seen.packets + length packets < 2 ^ 64 →
    part (is_by 4) (events_all s packets) ≡ map counter_fault (errors_from s.seen.counters (sound_in (enumerate_from s.seen.packets packets)))
unfolding events_all errors_from
counters_along s [] n = refl
counters_along s (bytes ∷ packets) n =
    let e : (after_packet s bytes).seen.packets ≡ s.seen.packets + 1 = next_count s bytes (omega arith) in
    let k : one_more s.seen.packets - 1 ≡ s.seen.packets = omega arith in
    let rest = filter_map (λ p. entry_of p.0 p.1 (packet_at p.1)) (enumerate_from (s.seen.packets + 1) packets) in
    part_append (is_by 4) (events_at s bytes) (events_all (after_packet s bytes) packets)
    ∙ ap₂ (λ (a b : List StreamFault). a ++ b) (counter_at_packet s bytes)
    (counters_along (after_packet s bytes) packets (omega arith)
    ∙ ap (λ (i : ℕ). map counter_fault (errors_from (after_packet s bytes).seen.counters (sound_in (enumerate_from i packets)))) e)
    ∙ counter_step s bytes (packet_at bytes) rest k

-- 5. Clock references

pub clock_at_packet : (s : ViewState) (bytes : List ℕ) → part (is_by 13) (events_at s bytes) ≡ late_if s.seen (packet_at bytes)
unfolding rule_number
clock_at_packet s bytes =
    at_packet (is_by 13) s bytes (λ o k. refl) (λ o k. refl) (λ o k. refl) (λ o k. refl)
    ∙ ap₂ (λ (a b : List StreamFault). (a ++ filter (is_by 13) (late_if s.seen (packet_at bytes))) ++ b)
    (none_packet (is_by 13) s.seen.packets (packet_at bytes) (λ o k. refl) (λ o k. refl) (λ o k. refl))
    (counter_none (is_by 13) (before_counter s bytes) bytes (packet_at bytes) (λ o k. refl))
    ∙ append-nil (filter (is_by 13) (late_if s.seen (packet_at bytes)))
    ∙ late_kept (is_by 13) s.seen (packet_at bytes) (λ o k. refl)
