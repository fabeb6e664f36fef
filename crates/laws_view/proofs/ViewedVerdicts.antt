-- A view of a multiplexer's output counts no errors.
use Rattle.std.proofs.Common.{◌≡◌, ◌∙◌, ℕ, ◌+◌, ◌-◌, ◌*◌, ◌/◌, ◌%◌, ◌^◌, ◌≤◌, ◌<◌, ◌==◌, ◌&&◌, Bool, true, false, cond, List, [], ◌∷◌, ◌++◌, length, map}
use Rattle.std.proofs.Common.{filter}
use Rattle.std.proofs.Common.{Option, Some, None, Result, Ok, Err, refl, sym, ap, ap₂, subst, arith, append-nil}
use Rattle.std.specs.Prelude.{◌||◌, is_some, min}
use Rattle.std.specs.List.{enumerate_from}
use Rattle.std.proofs.lemmas.List.Concat.{flat_map-cons}
use Rattle.std.proofs.lemmas.List.Elements.{filter-append}
use Rattle.ts_packet.specs.declared.packet.PacketError.{PacketError}
use Rattle.ts_packet.specs.declared.packet.PacketError.TheVariants as packet_errors
use Rattle.ts_packet.specs.Views.{PacketView}
use Rattle.ts_packet.specs.Reading.{packet_at}
use Rattle.ts_packet.specs.PidList.{cut_packets}
use Rattle.slot_contents.specs.Contents.{run_bytes}
use Rattle.slot_contents.proofs.Runs.{run_length}
use Rattle.pes_packet.specs.Units.{units_of}
use Rattle.monitor.specs.declared.fault.Rule.TheVariants as rules
use Rattle.monitor.specs.declared.fault.StreamFault.{StreamFault}
use Rattle.monitor.specs.Faults.{packet_faults}
use Rattle.monitor.specs.Rules.{failing, packet_rule}
use Rattle.mux_core.specs.Histories.{content_at}
use Rattle.mux_core.proofs.JobWriting.{output_bytes}
use Rattle.mux_core.proofs.Whole.{contents_fit}
use Rattle.laws_run.specs.Monitored.{IsSound}
use Rattle.laws_run.proofs.MonitoredJobs.{job_kept}
use Rattle.laws_run.proofs.Soundness as soundness
use Rattle.arrival.specs.declared.arrival.Arrival.{Arrival}
use Rattle.arrival.specs.declared.arrival.Arrival.TheVariants.{AtRate}
use Rattle.pid_findings.specs.Views.{FindingView}
use Rattle.tr101290.specs.Continuity.{error_at}
use Rattle.tr101290.specs.declared.continuity.ContinuityError.{ContinuityError}
use Rattle.tr101290.specs.Errors.{accuracy_error, discontinuity_error, repetition_error}
use Rattle.tr101290.specs.Intervals as intervals
use Rattle.tr101290.specs.Intervals.{IntervalState}
use Rattle.tr101290.specs.RateJudges.{JudgeState, error_list, varies}
use Rattle.tr101290.specs.Sections.{whole_section}
use Rattle.tr101290.specs.declared.intervals.SectionBegin.{SectionBegin}
use Rattle.tr101290.specs.declared.intervals.TableError.{TableError}
use Rattle.tr101290.specs.declared.rate_judge.PidError.{PidError}
use Rattle.tr101290.specs.declared.report.PcrError.{PcrError}
use Rattle.tr101290.specs.declared.report.PcrReport.{PcrReport}
use Rattle.tr101290.specs.declared.watch.PcrTiming.{PcrTiming}
use Rattle.tr101290.specs.declared.watch.PcrTiming.TheVariants.{ConstantRate}
use Rattle.events.specs.declared.event.Event.{Event}
use Rattle.events.specs.declared.event.TableFault.{TableFault}
use Rattle.events.specs.declared.fault_kind.FaultKind.{FaultKind}
use Rattle.events.specs.declared.fault_kind.FaultKind.TheVariants.{PcrDiscontinuity, PcrRepetition}
use Rattle.es_events.specs.declared.view_options.ViewOptions.{ViewOptions}
use Rattle.system_tables.specs.Programs.{known}
use Rattle.ts_watch.specs.Choices.{RequestView}
use Rattle.ts_watch.specs.ClockEvents.{errors_in, error_events, inaccuracy_events, report_events_if}
use Rattle.ts_watch.specs.RuleEvents.{accuracy_count, accuracy_events, holds_none}
use Rattle.ts_watch.specs.SystemEvents.{all_fit}
use Rattle.ts_watch.specs.TableEvents as section_events
use Rattle.ts_watch.specs.TableEvents.{TablesState, TimesState, begin_events, check_word_event, check_word_events, distance_events, finding_events}
use Rattle.ts_watch.specs.TableEvents.{findings_events}
use Rattle.ts_watch.specs.TableEvents.{is_bad, more_errors, other_events, section_in, whole_in, with_begin, with_check_word, with_finding, with_findings}
use Rattle.ts_watch.specs.TableEvents.{with_whole}
use Rattle.ts_report.specs.Seen.{SeenState, counted_entry, counter_events, counter_events_by, inaccurate_on, report_on, timing_of, with_counter}
use Rattle.ts_report.specs.Seen.{with_counter_read}
use Rattle.ts_report.specs.StreamTables as streams
use Rattle.ts_report.specs.Views.{ViewState, after_all, after_packet, after_read, counter_events_at, start, table_events_at, with_packet, with_tables}
use Rattle.ts_report.specs.Views.{without}
use Rattle.laws_view.specs.StreamPackets.{most_packets, sound_packet}
use Rattle.laws_view.specs.ViewedCounters.{counters_in}
use Rattle.laws_view.specs.ViewedReferences.{IsFine}
use Rattle.laws_view.specs.ViewedSections.{is_check_word, sections_in}
use Rattle.laws_view.specs.ViewedTables.{AreBytes, is_late_on, is_on, late_of}
use Rattle.laws_view.specs.ViewedVerdicts.{GoesByBuffers, JobVerdictLaw, RunVerdictLaw}
use Rattle.laws_view.proofs.ClockedStreams.{packet_options}
use Rattle.laws_view.proofs.LateEvents.{itself}
use Rattle.laws_view.proofs.MuxedTableEvents.{none_later, run_table_events_law}
use Rattle.laws_view.proofs.Steps.{packet_is}
use Rattle.laws_view.proofs.ViewedCounters.{run_counters_law}
use Rattle.laws_view.proofs.ViewedReferences.{Watches, all_watches, fine_at, next_watches, run_begins, run_packets, run_rated}
use Rattle.laws_view.proofs.HomeTables.{run_check_words_law}
use Rattle.laws_view.proofs.ViewedFindings.{counter_keeps}
use Rattle.laws_view.proofs.ViewedTables.{read_tables}
use Rattle.laws_view.proofs.WatchedReferences.{Rated}

pub none_first : {X : Type 0} (xs ys : List X) → xs ++ ys ≡ [] → xs ≡ []
none_first [] ys e = refl
none_first (x ∷ xs) ys e = absurd (let no : ⊥ = cc in no)

pub none_last : {X : Type 0} (xs ys : List X) → xs ++ ys ≡ [] → ys ≡ []
none_last [] ys e = e
none_last (x ∷ xs) ys e = absurd (let no : ⊥ = cc in no)

-- 1. Clock references

none_so : (kind : FaultKind) (pid : ℕ) (o : Option PcrError) → error_events kind pid o ≡ [] → is_some o ≡ false
unfolding error_events
none_so kind pid None e = refl
none_so kind pid (Some x) e = absurd (let no : ⊥ = cc in no)

no_reference : (pid : ℕ) (o : Option PcrReport) → report_events_if pid o ≡ [] → errors_in o ≡ 0
unfolding report_events_if errors_in
no_reference pid None e = refl
no_reference pid (Some report) e =
    let a = none_so PcrRepetition pid (repetition_error report)
    (none_first (error_events PcrRepetition pid (repetition_error report)) (error_events PcrDiscontinuity pid (discontinuity_error report)) e) in
    let b = none_so PcrDiscontinuity pid (discontinuity_error report)
    (none_last (error_events PcrRepetition pid (repetition_error report)) (error_events PcrDiscontinuity pid (discontinuity_error report)) e) in
    rw (a, b) refl

none_listed : (errors : List PidError) → inaccuracy_events errors ≡ [] → length errors ≡ 0
none_listed [] e = refl
none_listed (x ∷ errors) e = absurd (let no : ⊥ = cc in no)

no_accuracy : (rate : ℕ) (judge : JudgeState) (index pid : ℕ) (o : Option PcrReport) → accuracy_events (ConstantRate rate) judge index pid o ≡ [] →
    accuracy_count (ConstantRate rate) judge pid o ≡ 0
unfolding accuracy_events accuracy_count
no_accuracy rate judge index pid None e = refl
no_accuracy rate judge index pid (Some report) e = none_listed (error_list pid (accuracy_error report)) e

-- 2. A packet that is read

-- The counts of errors and of refused packets are 0.
record Counts (s : SeenState) : Type 0 where
  errors : s.errors ≡ 0
  refused : s.refused ≡ 0

fine_counts : (rate : ℕ) (s : ViewState) (packet : PacketView) → s.seen.options.arrival ≡ AtRate rate → IsFine s.seen packet → Counts s.seen →
    Counts (with_packet s packet).seen
unfolding timing_of
fine_counts rate s packet at fine h =
    let timed = ap timing_of at in
    let events = fine.events in
    let reports = no_reference packet.header.pid (report_on s.seen packet)
    (none_first (report_events_if packet.header.pid (report_on s.seen packet))
    (accuracy_events (timing_of s.seen.options.arrival) s.seen.rules.judge s.seen.packets packet.header.pid (report_on s.seen packet)) events) in
    let last = none_last (report_events_if packet.header.pid (report_on s.seen packet))
    (accuracy_events (timing_of s.seen.options.arrival) s.seen.rules.judge s.seen.packets packet.header.pid (report_on s.seen packet)) events in
    let accuracy : inaccurate_on s.seen packet ≡ 0 =
    ap (λ (t : PcrTiming). accuracy_count t s.seen.rules.judge packet.header.pid (report_on s.seen packet)) timed
    ∙ no_accuracy rate s.seen.rules.judge s.seen.packets packet.header.pid (report_on s.seen packet)
    (ap (λ (t : PcrTiming). accuracy_events t s.seen.rules.judge s.seen.packets packet.header.pid (report_on s.seen packet)) (sym timed) ∙ last) in
    record { errors = omega (arith, reports, accuracy, h.errors); refused = h.refused }

read_counts : (rate : ℕ) (s : ViewState) (r : Result PacketView PacketError) → s.seen.options.arrival ≡ AtRate rate → is_some (sound_packet r) ≡ true →
    ((packet : PacketView) → sound_packet r ≡ Some packet → IsFine s.seen packet) → Counts s.seen → Counts (after_read s r).seen
unfolding after_read sound_packet
read_counts rate s (Err error) at sound fine h = absurd (let no : ⊥ = cc in no)
read_counts rate s (Ok packet) at sound fine h = by packet.header.transport_error_indicator sound fine
  where
    by : (t : Bool) → is_some (cond t None (Some packet)) ≡ true → ((p : PacketView) → cond t None (Some packet) ≡ Some p → IsFine s.seen p) →
        Counts (cond t (without s) (with_packet s packet)).seen
    by true so each = absurd (let no : ⊥ = cc in no)
    by false so each = fine_counts rate s packet at (each packet refl) h

-- The counter of a packet
none_broken : (o : Option ContinuityError) → counter_events_by o ≡ [] → is_some o ≡ false
unfolding counter_events_by
none_broken None e = refl
none_broken (Some x) e = absurd (let no : ⊥ = cc in no)

counter_counts : (s : SeenState) (bytes : List ℕ) (r : Result PacketView PacketError) → counter_events s bytes r ≡ [] → Counts s →
    Counts (with_counter_read s bytes r)
unfolding counter_events with_counter_read
counter_counts s bytes (Err error) none h = h
counter_counts s bytes (Ok packet) none h = by packet.header.transport_error_indicator none
  where
    by : (t : Bool) → cond t [] (counter_events_by (error_at s.counters (counted_entry s bytes packet))) ≡ [] →
        Counts (cond t s (with_counter s (counted_entry s bytes packet)))
    by true k = h
    by false k =
        let no_break = none_broken (error_at s.counters (counted_entry s bytes packet)) k in
        record {
          errors = ap (λ (b : Bool). min (s.errors + cond b 1 0) (2 ^ 64 - 1)) no_break ∙ omega (arith, h.errors);
          refused = h.refused;
        }

-- 3. The sections of a packet

abbrev pub is_fault : Event → Bool
is_fault e = is_check_word e || is_some (late_of e)

abbrev pub faults : List Event → List Event
faults events = filter is_fault events

no_more : (errors : ℕ) (o : Option TableError) → faults (section_events.error_events o) ≡ [] → more_errors errors o ≡ errors
unfolding section_events.error_events more_errors is_check_word late_of
no_more errors None e = refl
no_more errors (Some x) e = absurd (let no : ⊥ = cc in no)

begin_counts : (x y : TimesState) (o : Option SectionBegin) → x.intervals ≡ y.intervals → faults (begin_events x o) ≡ [] → y.errors ≡ 0 →
    (with_begin y o).errors ≡ 0
unfolding begin_events with_begin
begin_counts x y None same e h = h
begin_counts x y (Some s) same e h =
    ap (λ (i : IntervalState). more_errors y.errors (intervals.error_at i s)) (sym same) ∙ no_more y.errors (intervals.error_at x.intervals s) e ∙ h

not_wrong : (f : FindingView) (b : Bool) → faults (cond b (check_word_event f ∷ []) []) ≡ [] → b ≡ false
unfolding is_check_word late_of
not_wrong f true e = absurd (let no : ⊥ = cc in no)
not_wrong f false e = refl

finding_counts : (options : ViewOptions) (x : TimesState) (f : FindingView) → faults (finding_events options x f) ≡ [] → x.errors ≡ 0 →
    (with_finding options x f).errors ≡ 0
finding_counts options x f e h =
    let parts = sym (filter-append is_fault (check_word_events f) (other_events (whole_section f)
    ++ (distance_events x.distances (whole_in options f) ++ begin_events x (section_in options f)))) ∙ e in
    let right = not_wrong f (is_bad f) (none_first (faults (check_word_events f)) _ parts) in
    let second = none_last (faults (check_word_events f)) _ parts in
    let third = none_last (faults (other_events (whole_section f))) _ (sym (filter-append is_fault (other_events (whole_section f))
    (distance_events x.distances (whole_in options f) ++ begin_events x (section_in options f))) ∙ second) in
    let last = none_last (faults (distance_events x.distances (whole_in options f))) _ (sym (filter-append is_fault
    (distance_events x.distances (whole_in options f)) (begin_events x (section_in options f))) ∙ third) in
    let before : TimesState = with_whole (with_check_word x f) (whole_in options f) in
    let none : before.errors ≡ 0 = ap (λ (b : Bool). min (x.errors + cond b 1 0) (2 ^ 64 - 1)) right ∙ omega (arith, h) in
    begin_counts x before (section_in options f) refl last none

findings_counts : (options : ViewOptions) (x : TimesState) (fs : List FindingView) → faults (findings_events options x fs) ≡ [] → x.errors ≡ 0 →
    (with_findings options x fs).errors ≡ 0
unfolding findings_events with_findings
findings_counts options x [] e h = h
findings_counts options x (f ∷ fs) e h =
    let parts = sym (filter-append is_fault (finding_events options x f) (findings_events options (with_finding options x f) fs)) ∙ e in
    findings_counts options (with_finding options x f) fs (none_last (faults (finding_events options x f)) _ parts)
    (finding_counts options x f (none_first (faults (finding_events options x f)) _ parts) h)

-- 4. All packets

unfoldable pub AreFine : ViewState → List (List ℕ) → Type 0
AreFine s [] = Unit {0}
AreFine s (bytes ∷ packets) = ((packet : PacketView) → sound_packet (packet_at bytes) ≡ Some packet → IsFine s.seen packet) × AreFine (after_packet s bytes)
    packets

unfoldable pub AreSound : List (List ℕ) → Type 0
AreSound [] = Unit {0}
AreSound (bytes ∷ packets) = (is_some (sound_packet (packet_at bytes)) ≡ true) × AreSound packets

record Quiet (rate : ℕ) (s : ViewState) : Type 0 where
  arrival : s.seen.options.arrival ≡ AtRate rate
  counts : Counts s.seen
  tables : s.seen.tables.times.errors ≡ 0

one_quiet : (rate : ℕ) (s : ViewState) (bytes : List ℕ) → Quiet rate s → is_some (sound_packet (packet_at bytes)) ≡ true →
    ((packet : PacketView) → sound_packet (packet_at bytes) ≡ Some packet → IsFine s.seen packet) →
    counter_events_at (after_read s (packet_at bytes)) bytes ≡ [] → faults (table_events_at (after_read s (packet_at bytes)) bytes) ≡ [] →
    Quiet rate (after_packet s bytes)
one_quiet rate s bytes h sound fine counters sections =
    let v : ViewState = after_read s (packet_at bytes) in
    let read : Counts v.seen = read_counts rate s (packet_at bytes) h.arrival sound fine h.counts in
    let kept : Counts (with_tables v bytes).seen = record { errors = read.errors; refused = read.refused } in
    let after : Counts (with_counter_read (with_tables v bytes).seen bytes (packet_at bytes)) =
    counter_counts (with_tables v bytes).seen bytes (packet_at bytes) counters kept in
    let before : v.seen.tables.times.errors ≡ 0 = ap (λ (t : TablesState). t.times.errors) (read_tables s (packet_at bytes)) ∙ h.tables in
    let found : (with_tables v bytes).seen.tables.times.errors ≡ 0 = findings_counts v.seen.options v.seen.tables.times _ sections before in
    record {
      arrival = ap (λ (w : ViewOptions). w.arrival) (packet_options s bytes) ∙ h.arrival;
      counts = record { errors = after.errors; refused = after.refused };
      tables = ap (λ (t : TablesState). t.times.errors) (counter_keeps (with_tables v bytes).seen bytes (packet_at bytes)) ∙ found;
    }

all_quiet : (rate : ℕ) (s : ViewState) (packets : List (List ℕ)) → Quiet rate s → AreSound packets → AreFine s packets → counters_in s packets ≡ [] →
    faults (sections_in s packets) ≡ [] → Quiet rate (after_all s packets)
unfolding after_all AreSound AreFine counters_in sections_in
all_quiet rate s [] h sound fine counters sections = h
all_quiet rate s (bytes ∷ packets) h sound fine counters sections =
    let v : ViewState = after_read s (packet_at bytes) in
    let parts = sym (filter-append is_fault (table_events_at v bytes) (sections_in (after_packet s bytes) packets)) ∙ sections in
    all_quiet rate (after_packet s bytes) packets
    (one_quiet rate s bytes h sound.0 fine.0 (none_first (counter_events_at v bytes) (counters_in (after_packet s bytes) packets) counters)
    (none_first (faults (table_events_at v bytes)) _ parts))
    sound.1 fine.1 (none_last (counter_events_at v bytes) (counters_in (after_packet s bytes) packets) counters)
    (none_last (faults (table_events_at v bytes)) _ parts)

-- 5. A run

no_rule : (r : Result PacketView PacketError) (i : ℕ) → failing None i (packet_rule r) ≡ [] → is_some (sound_packet r) ≡ true
unfolding failing packet_rule sound_packet
no_rule (Err packet_errors.Sync) i e = absurd (let no : ⊥ = cc in no)
no_rule (Err packet_errors.ReservedControl) i e = absurd (let no : ⊥ = cc in no)
no_rule (Err packet_errors.FieldTooLong) i e = absurd (let no : ⊥ = cc in no)
no_rule (Err packet_errors.PartTooLong) i e = absurd (let no : ⊥ = cc in no)
no_rule (Ok packet) i e = by packet.header.transport_error_indicator e
  where
    by : (t : Bool) → failing None i (cond t (Some rules.Error) None) ≡ [] → is_some (cond t None (Some packet)) ≡ true
    by true k = absurd (let no : ⊥ = cc in no)
    by false k = refl

pub sound_from : (i : ℕ) (packets : List (List ℕ)) → packet_faults (enumerate_from i packets) ≡ [] → AreSound packets
unfolding AreSound
sound_from i [] e = tt
sound_from i (bytes ∷ packets) e =
    let f : ℕ × List ℕ → List StreamFault = λ p. failing None p.0 (packet_rule (packet_at p.1)) in
    let parts = sym (flat_map-cons f (i, bytes) (enumerate_from (i + 1) packets)) ∙ e in (
      no_rule (packet_at bytes) i (none_first (f (i, bytes)) (packet_faults (enumerate_from (i + 1) packets)) parts),
      sound_from (i + 1) packets (none_last (f (i, bytes)) (packet_faults (enumerate_from (i + 1) packets)) parts),
    )

pub fine_from : (r : Rated) (s : ViewState) (index : ℕ) (packets : List (List ℕ)) → index + length packets ≤ r.slots → Watches r s index packets → AreFine s packets
unfolding AreFine
fine_from r s index [] few h = tt
fine_from r s index (bytes ∷ packets) few h = (
  λ packet sound. fine_at r s index bytes packets packet (omega (arith, few)) sound h,
  fine_from r (after_packet s bytes) (index + 1) packets (omega (arith, few))
      (subst (λ (x : ViewState). Watches r x (index + 1) packets) (sym (packet_is s bytes)) (next_watches r s index bytes packets (omega (arith, few)) h)),
)

-- None of these events is a fault.
pub none_of_all : (events : List Event) → ((pid : ℕ) → filter (is_late_on pid) events ≡ []) → filter is_check_word events ≡ [] → faults events ≡ []
none_of_all [] late words = refl
none_of_all (e ∷ events) late words =
    by (late_of e) (is_check_word e) (λ pid. late pid) words
    (none_of_all events (λ pid. none_later (is_late_on pid) e events (late pid)) (none_later is_check_word e events words))
  where
    by : (o : Option TableFault) (b : Bool) →
        ((pid : ℕ) → cond (is_on pid o) (e ∷ filter (is_late_on pid) events) (filter (is_late_on pid) events) ≡ []) →
        cond b (e ∷ filter is_check_word events) (filter is_check_word events) ≡ [] → faults events ≡ [] →
        cond (b || is_some o) (e ∷ faults events) (faults events) ≡ []
    by o true k w rest = absurd (let no : ⊥ = cc in no)
    by None false k w rest = rest
    by (Some fault) false k w rest = absurd (
        let one : (e ∷ filter (is_late_on fault.pid) events) ≡ [] =
        ap (λ (t : Bool). cond t (e ∷ filter (is_late_on fault.pid) events) (filter (is_late_on fault.pid) events)) (sym (itself fault.pid))
        ∙ k fault.pid in
        let no : ⊥ = cc in no)

none_held : (judge : JudgeState) → judge.held ≡ [] → (varies judge || (length judge.held == 0)) ≡ true
none_held judge h = ap (λ (l : List PidError). varies judge || (length l == 0)) h ∙ by (varies judge)
  where
    by : (b : Bool) → (b || true) ≡ true
    by true = refl
    by false = refl

good_is : (a b d e : ℕ) (c f g : Bool) → a ≡ 0 → b ≡ 0 → c ≡ true → d ≡ 0 → e ≡ 0 →
    cond (a == 0) (cond (b == 0) (cond c (cond (d == 0) (cond (e == 0) (cond f g false) false) false) false) false) false ≡ (f && g)
good_is a b d e c f g p q r s t = rw (p, q, r, s, t) (by f)
  where
    by : (f : Bool) → cond f g false ≡ (f && g)
    by true = refl
    by false = refl

pub run_verdict_law : RunVerdictLaw
run_verdict_law d units slots request ranges promised kept few at small none =
    let bytes : List ℕ = run_bytes (content_at d units) 0 slots in
    let packets : List (List ℕ) = cut_packets bytes in
    let size : length bytes ≡ 188 * slots = run_length (content_at d units) 0 slots (contents_fit d units ranges kept) in
    let count : length packets ≡ slots = run_packets d units slots ranges promised kept in
    let many : slots < 2 ^ 64 - 1 = omega (arith, few) in
    let r : Rated = run_rated d slots ranges few in
    let watched : Watches r (start request) 0 packets = run_begins d units slots request ranges promised kept few at in
    let fine : AreFine (start request) packets = fine_from r (start request) 0 packets (omega (arith, count)) watched in
    let all : length (packets ++ []) ≡ slots = ap length (append-nil packets) ∙ count in
    let held = (all_watches r (start request) 0 packets [] (omega (arith, all))
    (subst (λ (l : List (List ℕ)). Watches r (start request) 0 l) (sym (append-nil packets)) watched)).held in
    let sound : AreSound packets = sound_from 0 packets (soundness.sound d units slots ranges kept many).packets in
    let faultless : faults (sections_in (start request) packets) ≡ [] =
    none_of_all (sections_in (start request) packets)
    (λ pid. run_table_events_law d units slots request ranges promised kept many at small pid (λ t i is on. none t i is))
    (run_check_words_law d units slots request ranges kept many none) in
    let first : Quiet d.description.rate (start request) = record { arrival = at; counts = record { errors = refl; refused = refl }; tables = refl } in
    let q : Quiet d.description.rate (after_all (start request) packets) =
    all_quiet d.description.rate (start request) packets first sound fine (run_counters_law d units slots request ranges kept many) faultless in
    good_is (after_all (start request) packets).seen.refused (after_all (start request) packets).seen.errors
    (after_all (start request) packets).seen.tables.times.errors (length bytes % 188) (holds_none (after_all (start request) packets).seen.rules)
    (all_fit (after_all (start request) packets).table.choice (known (after_all (start request) packets).seen.systems))
    (streams.is_good (after_all (start request) packets).table) q.counts.refused q.counts.errors
    (none_held (after_all (start request) packets).seen.rules.judge held) q.tables (omega (arith, size))

pub job_verdict_law : JobVerdictLaw
job_verdict_law d units slots request ranges promised none few at small made =
    let same = output_bytes (content_at d (λ k. units_of k units)) 0 slots in
    subst (GoesByBuffers request) (sym same)
    (run_verdict_law d (λ k. units_of k units) slots request ranges promised (job_kept d units ranges none) few at (subst AreBytes same small) made)
