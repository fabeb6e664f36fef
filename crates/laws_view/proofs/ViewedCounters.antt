-- The events `continuity` of a view, packet by packet
use Rattle.std.proofs.Common.{◌≡◌, ◌∙◌, ℕ, ◌+◌, ◌-◌, ◌*◌, ◌/◌, ◌^◌, ◌<◌, Bool, true, false, cond, List, [], ◌∷◌, ◌++◌, length, map, filter}
use Rattle.std.proofs.Common.{Option, Some, None, Result, Ok, Err, refl, sym, ap, ap₂, arith}
use Rattle.std.specs.Prelude.{◌||◌, not, flat_map}
use Rattle.std.specs.List.{cons_option, enumerate_from, filter_map}
use Rattle.ts_packet.specs.declared.packet.PacketError.{PacketError}
use Rattle.ts_packet.specs.Views.{PacketView}
use Rattle.ts_packet.specs.Reading.{packet_at}
use Rattle.ts_packet.specs.PidList.{Entry, cut_packets, entry_of}
use Rattle.slot_contents.specs.Contents.{run_bytes}
use Rattle.slot_contents.proofs.Runs.{run_length}
use Rattle.pes_packet.specs.Units.{units_of}
use Rattle.pid_findings.specs.Views.{PidFinding}
use Rattle.monitor.specs.declared.fault.StreamFault.{StreamFault}
use Rattle.monitor.specs.Begins.{found_on}
use Rattle.monitor.specs.Faults.{finding_faults, packet_pids}
use Rattle.monitor.proofs.FoundWhole.{found_whole, packet_count}
use Rattle.monitor.proofs.FindingSteps.{faults_of_all}
use Rattle.monitor.proofs.GroupedFaults.{findings_alike}
use Rattle.monitor.proofs.SameOrder.{has, same, same_itself}
use Rattle.tr101290.specs.Continuity.{Lasts, after, before_if, error_at, errors_from}
use Rattle.tr101290.specs.declared.continuity.ContinuityError.{ContinuityError}
use Rattle.laws_view.specs.Continuity.{counter_fault, is_sound, sound_packets}
use Rattle.laws_view.proofs.Continuity.{whole_errors}
use Rattle.laws_view.specs.FaultsByRule.{is_by}
use Rattle.laws_run.specs.Monitored.{IsSound}
use Rattle.laws_run.proofs.Soundness as soundness
use Rattle.laws_run.proofs.MonitoredJobs.{job_kept}
use Rattle.mux_core.specs.Histories.{content_at}
use Rattle.mux_core.proofs.JobWriting.{output_bytes}
use Rattle.mux_core.proofs.Whole.{contents_fit}
use Rattle.events.specs.declared.event.Event.{Event}
use Rattle.tr101290.specs.Windows.{one_more}
use Rattle.ts_watch.specs.Choices.{RequestView}
use Rattle.ts_report.specs.Seen.{SeenState, counted_entry, counter_events, counter_events_by, with_counter, with_counter_read}
use Rattle.ts_report.specs.Views.{ViewState, after_packet, after_read, start, with_packet, with_tables, without}
use Rattle.laws_view.specs.ViewedCounters.{JobCountersLaw, RunCountersLaw, ViewedCountersLaw, counter_event, counters_in}

-- 1. One packet

error_event : (o : Option ContinuityError) (es : List ContinuityError) → map counter_event (before_if o es) ≡ counter_events_by o ++ map counter_event es
unfolding before_if counter_events_by
error_event None es = refl
error_event (Some e) es = refl

-- The counters after the packet
record Counted (s : ViewState) (bytes : List ℕ) (r : Result PacketView PacketError) (rest : List Entry) : Type 0 where
  next : Lasts
  packets : (with_counter_read (with_tables (after_read s r) bytes).seen bytes r).packets ≡ one_more s.seen.packets
  kept : (with_counter_read (with_tables (after_read s r) bytes).seen bytes r).counters ≡ next
  events : map counter_event (errors_from s.seen.counters (filter is_sound (cons_option (entry_of s.seen.packets bytes r) rest)))
      ≡ counter_events (with_tables (after_read s r) bytes).seen bytes r ++ map counter_event (errors_from next (filter is_sound rest))

one : (s : ViewState) (bytes : List ℕ) (r : Result PacketView PacketError) (rest : List Entry) → s.seen.packets + 1 < 2 ^ 64 → Counted s bytes r rest
unfolding after_read with_counter_read counter_events entry_of errors_from
one s bytes (Err error) rest few = record { next = s.seen.counters; packets = refl; kept = refl; events = refl }
one s bytes (Ok packet) rest few =
    let c = cases packet.header.transport_error_indicator in record { next = c.0; packets = c.1; kept = c.2; events = c.3 }
  where
    lasts : Lasts
    lasts = s.seen.counters

    sound : List Entry
    sound = filter is_sound rest

    at_place : ℕ → Entry
    at_place i = record { index = i; bytes = bytes; packet = packet }

    place : one_more s.seen.packets - 1 ≡ s.seen.packets
    place = omega arith

    before : Bool → SeenState
    before t = (with_tables (cond t (without s) (with_packet s packet)) bytes).seen

    read : Bool → SeenState
    read t = cond t (before t) (with_counter (before t) (counted_entry (before t) bytes packet))

    reported : Bool → List Event
    reported t = cond t [] (counter_events_by (error_at (before t).counters (counted_entry (before t) bytes packet)))

    cases : (t : Bool) → (next : Lasts) × ((read t).packets ≡ one_more s.seen.packets) × ((read t).counters ≡ next)
        × (map counter_event (errors_from lasts (cond (not t) (at_place s.seen.packets ∷ sound) sound)) ≡ reported t
        ++ map counter_event (errors_from next sound))
    cases true = (lasts, refl, refl, refl)
    cases false = (
      after lasts (at_place s.seen.packets),
      refl,
      ap (λ (i : ℕ). after lasts (at_place i)) place,
      error_event (error_at lasts (at_place s.seen.packets)) (errors_from (after lasts (at_place s.seen.packets)) sound)
          ∙ ap (λ (i : ℕ). counter_events_by (error_at lasts (at_place i)) ++ map counter_event (errors_from (after lasts (at_place s.seen.packets)) sound))
          (sym place),
    )

-- 2. All packets

abbrev sound_in : List (ℕ × List ℕ) → List Entry
sound_in packets = filter is_sound (filter_map (λ p. entry_of p.0 p.1 (packet_at p.1)) packets)

along : (s : ViewState) (packets : List (List ℕ)) → s.seen.packets + length packets < 2 ^ 64 →
    counters_in s packets ≡ map counter_event (errors_from s.seen.counters (sound_in (enumerate_from s.seen.packets packets)))
unfolding counters_in errors_from
along s [] few = refl
along s (bytes ∷ packets) few =
    let e : one_more s.seen.packets ≡ s.seen.packets + 1 = omega arith in
    let rest : List Entry = filter_map (λ p. entry_of p.0 p.1 (packet_at p.1)) (enumerate_from (s.seen.packets + 1) packets) in
    let p = one s bytes (packet_at bytes) rest (omega arith) in
    let now : List Event = counter_events (with_tables (after_read s (packet_at bytes)) bytes).seen bytes (packet_at bytes) in
    ap (λ (l : List Event). now ++ l)
    (along (after_packet s bytes) packets (omega (arith, p.packets))
    ∙ ap₂ (λ (l : Lasts) (i : ℕ). map counter_event (errors_from l (sound_in (enumerate_from i packets)))) p.kept (p.packets ∙ e))
    ∙ sym p.events

pub viewed_counters_law : ViewedCountersLaw
viewed_counters_law request bytes few =
    let count : length (cut_packets bytes) ≡ length bytes / 188 = packet_count (length bytes / 188) bytes in
    along (start request) (cut_packets bytes) (omega (arith, count))

-- 3. Sound bytes

none_found : (pids : List ℕ) (found : ℕ → List PidFinding) → ((pid : ℕ) → finding_faults pid (found pid) ≡ []) →
    flat_map (λ pid. finding_faults pid (found pid)) pids ≡ []
none_found [] found h = refl
none_found (pid ∷ pids) found h = rw (h pid, none_found pids found h) refl

no_faults : (faults : List StreamFault) → ((y : StreamFault) → has y faults ≡ has y []) → faults ≡ []
unfolding has
no_faults [] h = refl
no_faults (x ∷ faults) h = absurd (by (same x x) (same_itself x) (h x))
  where
    by : (t : Bool) → t ≡ true → (t || has x faults) ≡ false → ⊥
    by true e k = let no : ⊥ = cc in no
    by false e k = let no : ⊥ = cc in no

no_error : (es : List ContinuityError) → map counter_fault es ≡ [] → es ≡ []
no_error [] h = refl
no_error (e ∷ es) h = absurd (let no : ⊥ = cc in no)

-- In sound bytes no finding is a fault.
pub sound_findings : (bytes : List ℕ) → length bytes / 188 < 2 ^ 64 - 1 → IsSound bytes → faults_of_all (found_whole bytes) ≡ []
sound_findings bytes few h =
    let none = none_found (packet_pids bytes) (λ pid. found_on pid bytes) h.findings in
    no_faults _ (λ y. findings_alike bytes few y ∙ ap (has y) none)

no_counter_errors : (bytes : List ℕ) → length bytes / 188 < 2 ^ 64 - 1 → IsSound bytes → errors_from [] (sound_packets bytes) ≡ []
no_counter_errors bytes few h = no_error _ (sym (whole_errors bytes few) ∙ ap (filter (is_by 4)) (sound_findings bytes few h))

quiet : (request : RequestView) (bytes : List ℕ) → length bytes / 188 < 2 ^ 64 - 1 → IsSound bytes → counters_in (start request) (cut_packets bytes) ≡ []
quiet request bytes few h = viewed_counters_law request bytes few ∙ ap (map counter_event) (no_counter_errors bytes few h)

pub run_counters_law : RunCountersLaw
run_counters_law d units slots request ranges kept few =
    let bytes : List ℕ = run_bytes (content_at d units) 0 slots in
    let size : length bytes ≡ 188 * slots = run_length (content_at d units) 0 slots (contents_fit d units ranges kept) in
    let count : length bytes / 188 ≡ slots = omega (arith, size) in
    quiet request bytes (omega (arith, count, few)) (soundness.sound d units slots ranges kept few)

pub job_counters_law : JobCountersLaw
job_counters_law d units slots request ranges none few =
    ap (λ (bytes : List ℕ). counters_in (start request) (cut_packets bytes)) (output_bytes (content_at d (λ k. units_of k units)) 0 slots)
    ∙ run_counters_law d (λ k. units_of k units) slots request ranges (job_kept d units ranges none) (omega (arith, few))
