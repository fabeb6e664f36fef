-- The late clock references of each PID, at a constant rate, packet by packet of a report.
use Rattle.std.proofs.Common.{◌≡◌, ◌∙◌, ℕ, ◌+◌, ◌-◌, ◌*◌, ◌/◌, ◌^◌, ◌<◌, ◌≤◌, ◌==◌, Bool, true, false, cond, nat_eq, List, [], ◌∷◌, ◌++◌, length, map, filter}
use Rattle.std.proofs.Common.{Option, Some, None, Result, Ok, Err, true≢false, refl, sym, ap, arith, append_assoc}
use Rattle.std.specs.Prelude.{is_some, nat_lt, option_map, unwrap_or}
use Rattle.std.specs.List.{enumerate_from}
use Rattle.std.specs.Map.{lookup}
use Rattle.std.proofs.lemmas.Bool.Decides.{nat_tests}
use Rattle.std.proofs.lemmas.List.{append-nil, map-append}
use Rattle.indexmap.specs.IndexMap.{insert_entry}
use Rattle.clock27.specs.Reference.{Reference}
use Rattle.ts_packet.specs.declared.packet.PacketError.{PacketError}
use Rattle.ts_packet.specs.Views.{AdaptationView, NoFlags, PacketView, WithFlags}
use Rattle.ts_packet.specs.Reading.{packet_at}
use Rattle.ts_packet.specs.PcrBytes.{has_pcr}
use Rattle.ts_packet.specs.PidList.{cut_packets}
use Rattle.arrival.specs.declared.arrival.Arrival.{Arrival}
use Rattle.arrival.specs.declared.arrival.Arrival.TheVariants.{AtRate}
use Rattle.arrival.specs.declared.clock.PcrSample.{PcrSample}
use Rattle.arrival.specs.declared.clock.TimedSample.{TimedSample}
use Rattle.arrival.specs.declared.line.Line.{Line}
use Rattle.arrival.specs.Clock.{line_in, step_after}
use Rattle.tr101290.specs.Errors.{beyond_if, repetition_error}
use Rattle.tr101290.specs.Measures.{interval_after, interval_from, time_of_bytes}
use Rattle.tr101290.specs.PidWatches.{WatchesState, report_if, sample_report, taken_if, watch_of, watch_or_new, with_sample}
use Rattle.tr101290.specs.PidWatches as watching
use Rattle.tr101290.specs.Samples.{is_near, sample_of, sample_in, sample_with}
use Rattle.tr101290.specs.Watches.{PcrState}
use Rattle.tr101290.specs.Watches as watch
use Rattle.tr101290.specs.declared.watch.PcrTiming.{PcrTiming}
use Rattle.tr101290.specs.declared.watch.PcrTiming.TheVariants.{ConstantRate}
use Rattle.tr101290.proofs.Rounding.{interval_law}
use Rattle.ts_watch.specs.Choices.{RequestView}
use Rattle.ts_report.specs.Seen.{report_on, timing_for, with_counter_read}
use Rattle.ts_report.specs.Views.{ViewState, after_packet, after_read, events_all, events_at, start}
use Rattle.monitor.specs.declared.fault.StreamFault.{StreamFault}
use Rattle.monitor.specs.declared.fault.Rule.TheVariants as rules
use Rattle.monitor.specs.Gaps.{is_long}
use Rattle.monitor.specs.Recurrences.{RecurrenceState, late_at, marked_all, no_marks}
use Rattle.monitor.specs.Reports.{late_fault}
use Rattle.monitor.specs.Rules.{fault}
use Rattle.monitor.proofs.PacketSteps.{marked_append, pcr_pair, pcr_pairs}
use Rattle.monitor.proofs.FoundWhole.{packet_count}
use Rattle.laws_view.specs.FaultsByRule.{is_by}
use Rattle.laws_view.specs.ViewedFaults.{faults_before_end}
use Rattle.laws_view.proofs.InsertedEntries.{kept}
use Rattle.laws_view.proofs.ViewedPackets.{late_if, late_reference, part, part_append, repetition_of}
use Rattle.laws_view.proofs.WaitingPackets.{at_one_rate}
use Rattle.laws_view.proofs.ViewedRules.{clock_at_packet, next_count, seen_after, seen_by}

-- 1. One clock reference after another on its PID

abbrev byte_at : ℕ → ℕ
byte_at index = 188 * index + 10

abbrev last_byte : Option TimedSample → Option ℕ
last_byte o = option_map (λ t. t.sample.byte) o

-- Comparing 100 ms in ticks of 27 MHz and in milliseconds gives the same result.
long_alike : (rate index before : ℕ) → 0 < rate → nat_lt 2700000 (time_of_bytes rate (byte_at index - byte_at before)) ≡ is_long (100 * rate) (index - before)
long_alike rate index before some = by (nat_lt 2700000 (time_of_bytes rate n)) (is_long (100 * rate) (index - before)) refl refl
  where
    n : ℕ
    n = byte_at index - byte_at before

    size : n ≡ 188 * (index - before)
    size = omega arith

    by : (a b : Bool) → nat_lt 2700000 (time_of_bytes rate n) ≡ a → is_long (100 * rate) (index - before) ≡ b → a ≡ b
    by true true e f = refl
    by false false e f = refl
    by true false e f =
        let over : 2700000 < time_of_bytes rate n = grind (arith, nat_tests) in
        let exact : 2700000 * rate < n * 216000000 = (interval_law rate n some).0 over in
        let under : (index - before) * 1504000 ≤ 100 * rate = grind (arith, nat_tests) in
        absurd (omega (arith, size, exact, under))
    by false true e f =
        let over : 100 * rate < (index - before) * 1504000 = grind (arith, nat_tests) in
        let exact : 2700000 * rate < n * 216000000 = omega (arith, size, over) in
        let long : 2700000 < time_of_bytes rate n = (interval_law rate n some).1 exact in
        absurd (grind (arith, nat_tests))

gap : (rate index pid : ℕ) (timing : PcrTiming) (o : Option TimedSample) (k : Option ℕ) (sample : PcrSample) (line : Option Line) → 0 < rate →
    timing ≡ ConstantRate rate → last_byte o ≡ option_map byte_at k → sample.byte ≡ byte_at index →
    repetition_of pid (beyond_if 2700000 sample.byte (interval_after timing o sample line)) ≡ map (late_fault rules.Pcr) (late_at (100 * rate) pid k index)
unfolding beyond_if interval_after interval_from late_at
gap rate index pid timing None None sample line some t h b = refl
gap rate index pid timing None (Some before) sample line some t h b = absurd (true≢false (sym (ap is_some h)))
gap rate index pid timing (Some last) None sample line some t h b = absurd (true≢false (ap is_some h))
gap rate index pid timing (Some last) (Some before) sample line some t h b =
    ap (λ (u : PcrTiming). repetition_of pid (beyond_if 2700000 sample.byte (interval_after u (Some last) sample line))) t
    ∙ ap (λ (x : ℕ). repetition_of pid (beyond_if 2700000 x (Some (time_of_bytes rate (x - last.sample.byte))))) b
    ∙ ap (λ (y : ℕ). repetition_of pid (beyond_if 2700000 (byte_at index) (Some (time_of_bytes rate (byte_at index - y))))) is
    ∙ ap of (long_alike rate index before some)
    ∙ by (is_long (100 * rate) (index - before))
  where
    is : last.sample.byte ≡ byte_at before
    is = ap (λ (x : Option ℕ). unwrap_or x 0) h

    of : Bool → List StreamFault
    of long = repetition_of pid
        (cond long (Some (record { byte = byte_at index; value = time_of_bytes rate (byte_at index - byte_at before); limit = 2700000 })) None)

    place : byte_at index / 188 ≡ index
    place = omega arith

    by : (t : Bool) → of t ≡ map (late_fault rules.Pcr) (cond t (record { pid = pid; packet = index } ∷ []) [])
    by true = ap (λ (k : ℕ). fault rules.Pcr (Some pid) k ∷ []) place
    by false = refl

-- 2. The notes on each PID in both programs

pub record Same (rate : ℕ) (last : List (ℕ × ℕ)) (w : WatchesState) : Type 0 where
  pub timing : (pid : ℕ) → (watch_of w pid).timing ≡ ConstantRate rate
  pub places : (pid : ℕ) → last_byte (watch_of w pid).clock.last ≡ option_map byte_at (lookup (nat_eq pid) last)

watch_next : (w : WatchesState) (q pid : ℕ) (sample : PcrSample) (t : Bool) → (q == pid) ≡ t →
    watch_of (with_sample w q sample) pid ≡ cond t (watch.taken (watch_of w q) sample) (watch_of w pid)
unfolding watch_or_new
watch_next w q pid sample true e = ap (watch_or_new w.timing) (kept pid q (watch.taken (watch_of w q) sample) w.watches true e)
watch_next w q pid sample false e = ap (watch_or_new w.timing) (kept pid q (watch.taken (watch_of w q) sample) w.watches false e)

same_next : (rate : ℕ) (last : List (ℕ × ℕ)) (w : WatchesState) (q index : ℕ) (sample : PcrSample) → Same rate last w → sample.byte ≡ byte_at index →
    Same rate (insert_entry nat_eq last q index) (with_sample w q sample)
same_next rate last w q index sample h b = record { timing = λ pid. timing_by pid (q == pid) refl; places = λ pid. places_by pid (q == pid) refl }
  where
    timing_by : (pid : ℕ) (t : Bool) → (q == pid) ≡ t → (watch_of (with_sample w q sample) pid).timing ≡ ConstantRate rate
    timing_by pid true e = ap (λ (s : PcrState). s.timing) (watch_next w q pid sample true e) ∙ h.timing q
    timing_by pid false e = ap (λ (s : PcrState). s.timing) (watch_next w q pid sample false e) ∙ h.timing pid

    places_by : (pid : ℕ) (t : Bool) → (q == pid) ≡ t →
        last_byte (watch_of (with_sample w q sample) pid).clock.last ≡ option_map byte_at (lookup (nat_eq pid) (insert_entry nat_eq last q index))
    places_by pid true e =
        ap (λ (s : PcrState). last_byte s.clock.last) (watch_next w q pid sample true e)
        ∙ ap (λ (n : ℕ). Some n) b
        ∙ ap (option_map byte_at) (sym (kept pid q index last true e))
    places_by pid false e =
        ap (λ (s : PcrState). last_byte s.clock.last) (watch_next w q pid sample false e)
        ∙ h.places pid
        ∙ ap (option_map byte_at) (sym (kept pid q index last false e))

-- 3. One packet

-- What the monitor notes of a packet that it takes.
abbrev pair_of : ℕ → ℕ → Bool → List (ℕ × ℕ)
pair_of pid index has = cond has ((pid, index) ∷ []) []

record Taken (rate : ℕ) (m : RecurrenceState) (w : WatchesState) (pairs : List (ℕ × ℕ)) (found : List StreamFault) (next : WatchesState) : Type 0 where
  limit : (marked_all m pairs).limit_times_rate ≡ 100 * rate
  same : Same rate (marked_all m pairs).last next
  late : map (late_fault rules.Pcr) m.late ++ found ≡ map (late_fault rules.Pcr) (marked_all m pairs).late

none_taken : (rate : ℕ) (m : RecurrenceState) (w : WatchesState) → m.limit_times_rate ≡ 100 * rate → Same rate m.last w → Taken rate m w [] [] w
unfolding marked_all
none_taken rate m w l h = record { limit = l; same = h; late = append-nil (map (late_fault rules.Pcr) m.late) }

one_taken : (rate : ℕ) (m : RecurrenceState) (w : WatchesState) (pid index : ℕ) (sample : PcrSample) → 0 < rate → m.limit_times_rate ≡ 100 * rate →
    Same rate m.last w →
    sample.byte ≡ byte_at index →
    Taken rate m w ((pid, index) ∷ []) (repetition_of pid (repetition_error (sample_report w pid sample))) (with_sample w pid sample)
unfolding marked_all
one_taken rate m w pid index sample some l h b = record {
  limit = l;
  same = same_next rate m.last w pid index sample h b;
  late = ap (λ (xs : List StreamFault). map (late_fault rules.Pcr) m.late ++ xs)
      (gap rate index pid (watch_of w pid).timing (watch_of w pid).clock.last (lookup (nat_eq pid) m.last) sample
      (line_in (step_after (watch_of w pid).clock.last sample)) some (h.timing pid) (h.places pid) b
      ∙ ap (λ (n : ℕ). map (late_fault rules.Pcr) (late_at n pid (lookup (nat_eq pid) m.last) index)) (sym l))
      ∙ sym (map-append (late_fault rules.Pcr) m.late (late_at m.limit_times_rate pid (lookup (nat_eq pid) m.last) index));
}

-- A packet's effect on both notes, by its clock reference.
by_sample : (rate : ℕ) (m : RecurrenceState) (w : WatchesState) (pid index : ℕ) (adaptation : Option AdaptationView) → 0 < rate →
    m.limit_times_rate ≡ 100 * rate →
    Same rate m.last w → is_near index ≡ true →
    Taken rate m w (pair_of pid index (has_pcr adaptation)) (late_reference pid (report_if w pid (sample_in index adaptation)))
    (taken_if w pid (sample_in index adaptation))
unfolding sample_in sample_with report_if taken_if late_reference
by_sample rate m w pid index None some l h near = none_taken rate m w l h
by_sample rate m w pid index (Some NoFlags) some l h near = none_taken rate m w l h
by_sample rate m w pid index (Some (WithFlags parts)) some l h near = by parts.pcr refl
  where
    by : (o : Option Reference) → parts.pcr ≡ o →
        Taken rate m w (pair_of pid index (is_some o)) (late_reference pid (report_if w pid (sample_with index parts.discontinuity_indicator o)))
        (taken_if w pid (sample_with index parts.discontinuity_indicator o))
    by None e = none_taken rate m w l h
    by (Some pcr) e = rw near (one_taken rate m w pid index (sample_of index parts.discontinuity_indicator pcr) some l h refl)

-- A packet's effect on both notes, by the result of reading it.
of_read : (rate : ℕ) (m : RecurrenceState) (s : ViewState) (bytes : List ℕ) (r : Result PacketView PacketError) → 0 < rate → m.limit_times_rate ≡ 100 * rate →
    Same rate m.last s.seen.watches → is_near s.seen.packets ≡ true →
    Taken rate m s.seen.watches (pcr_pair s.seen.packets r) (late_if s.seen r) (seen_after s bytes r).watches
unfolding pcr_pair late_if with_counter_read after_read
of_read rate m s bytes (Err error) some l h near = none_taken rate m s.seen.watches l h
of_read rate m s bytes (Ok packet) some l h near = by packet.header.transport_error_indicator
  where
    by : (t : Bool) → Taken rate m s.seen.watches (cond t [] (pair_of packet.header.pid s.seen.packets (has_pcr packet.adaptation)))
        (cond t [] (late_reference packet.header.pid (report_on s.seen packet))) (seen_by s bytes packet t).watches
    by true = none_taken rate m s.seen.watches l h
    by false = by_sample rate m s.seen.watches packet.header.pid s.seen.packets packet.adaptation some l h near

-- 4. Packets one after another

clocks_along : (rate : ℕ) (m : RecurrenceState) (s : ViewState) (packets : List (List ℕ)) → 0 < rate → m.limit_times_rate ≡ 100 * rate →
    Same rate m.last s.seen.watches → 188 * (s.seen.packets + length packets) ≤ 2 ^ 40 →
    map (late_fault rules.Pcr) m.late
    ++ part (is_by 13) (events_all s packets) ≡ map (late_fault rules.Pcr) (marked_all m (pcr_pairs (enumerate_from s.seen.packets packets))).late
unfolding events_all marked_all
clocks_along rate m s [] some l h n = append-nil (map (late_fault rules.Pcr) m.late)
clocks_along rate m s (bytes ∷ packets) some l h n =
    let e : (after_packet s bytes).seen.packets ≡ s.seen.packets + 1 = next_count s bytes (omega arith) in
    let less : 188 * s.seen.packets + 10 ≤ 2 ^ 40 = omega arith in
    let near : is_near s.seen.packets ≡ true = grind (arith, nat_tests) in
    let p = of_read rate m s bytes (packet_at bytes) some l h near in
    let next = marked_all m (pcr_pair s.seen.packets (packet_at bytes)) in
    let rest = part (is_by 13) (events_all (after_packet s bytes) packets) in
    ap (λ (xs : List StreamFault). map (late_fault rules.Pcr) m.late ++ xs)
    (part_append (is_by 13) (events_at s bytes) (events_all (after_packet s bytes) packets)
    ∙ ap (λ (xs : List StreamFault). xs ++ rest) (clock_at_packet s bytes))
    ∙ sym (append_assoc (map (late_fault rules.Pcr) m.late) (late_if s.seen (packet_at bytes)) rest)
    ∙ ap (λ (xs : List StreamFault). xs ++ rest) p.late
    ∙ clocks_along rate next (after_packet s bytes) packets some p.limit p.same (omega arith)
    ∙ ap (λ (i : ℕ). map (late_fault rules.Pcr) (marked_all next (pcr_pairs (enumerate_from i packets))).late) e
    ∙ ap (λ (t : RecurrenceState). map (late_fault rules.Pcr) t.late)
    (sym (marked_append m (pcr_pair s.seen.packets (packet_at bytes)) (pcr_pairs (enumerate_from (s.seen.packets + 1) packets))))

same_first : (rate : ℕ) (timing : PcrTiming) → timing ≡ ConstantRate rate → Same rate [] (watching.no_packet timing)
unfolding watch_or_new
same_first rate timing e = record { timing = λ pid. e; places = λ pid. refl }

timing_at : (rate : ℕ) (stamps : Bool) (arrival : Arrival) → arrival ≡ AtRate rate → timing_for stamps arrival ≡ ConstantRate rate
unfolding timing_for
timing_at rate stamps arrival e = rw e refl

clocks_of_packets : (rate : ℕ) (request : RequestView) (bytes : List ℕ) → request.options.arrival ≡ AtRate rate → 0 < rate → length bytes ≤ 2 ^ 40 →
    part (is_by 13) (events_all (start request) (cut_packets bytes)) ≡ map (late_fault rules.Pcr)
    (marked_all (no_marks (100 * rate)) (pcr_pairs (enumerate_from 0 (cut_packets bytes)))).late
clocks_of_packets rate request bytes at some short =
    let k : length (cut_packets bytes) ≡ length bytes / 188 = packet_count (length bytes / 188) bytes in
    clocks_along rate (no_marks (100 * rate)) (start request) (cut_packets bytes) some refl
    (same_first rate (timing_for request.stamps request.options.arrival) (timing_at rate request.stamps request.options.arrival at)) (omega arith)

pub viewed_clocks : (rate : ℕ) (request : RequestView) (bytes : List ℕ) → request.options.arrival ≡ AtRate rate → 0 < rate → length bytes ≤ 2 ^ 40 →
    filter (is_by 13) (faults_before_end request bytes) ≡ map (late_fault rules.Pcr)
    (marked_all (no_marks (100 * rate)) (pcr_pairs (enumerate_from 0 (cut_packets bytes)))).late
viewed_clocks rate request bytes at some short =
    at_one_rate (is_by 13) rate request bytes at ∙ clocks_of_packets rate request bytes at some short
