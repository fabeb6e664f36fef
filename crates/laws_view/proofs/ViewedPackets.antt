-- What the report finds in a packet, as faults of the monitor: refusals, clock references, sections and counters.
use Rattle.std.proofs.Common.{◌≡◌, ◌∙◌, ℕ, ◌-◌, ◌/◌, ◌==◌, Bool, true, false, cond, List, [], ◌∷◌, ◌++◌, filter, Option, Some, None, Result, Ok, Err, refl}
use Rattle.std.proofs.Common.{sym, ap, ap₂}
use Rattle.std.specs.Prelude.{◌&&◌, option_map, unwrap_or}
use Rattle.std.specs.List.{filter_map}
use Rattle.std.proofs.lemmas.List.{append-nil}
use Rattle.std.proofs.lemmas.List.Elements.{filter-append, filter_map-append}
use Rattle.ts_packet.specs.declared.packet.PacketError.{PacketError}
use Rattle.ts_packet.specs.declared.packet.PacketError.TheVariants as refusals
use Rattle.ts_packet.specs.Views.{PacketView}
use Rattle.pid_findings.specs.Views.{FindingView}
use Rattle.arrival.specs.declared.arrival.Arrival.{Arrival}
use Rattle.tr101290.specs.Continuity.{error_at}
use Rattle.tr101290.specs.Distances.{DistanceState}
use Rattle.tr101290.specs.Distances as distances
use Rattle.tr101290.specs.Homes.{belongs}
use Rattle.tr101290.specs.Intervals as intervals
use Rattle.tr101290.specs.Errors.{discontinuity_error, repetition_error}
use Rattle.tr101290.specs.RateJudges.{JudgeState, errors_at}
use Rattle.tr101290.specs.Sections.{whole_section}
use Rattle.tr101290.specs.Stamps.{StampState}
use Rattle.tr101290.specs.Stamps as stamping
use Rattle.tr101290.specs.declared.continuity.ContinuityError.{ContinuityError}
use Rattle.tr101290.specs.declared.distances.WholeSection.{WholeSection}
use Rattle.tr101290.specs.declared.intervals.SectionBegin.{SectionBegin}
use Rattle.tr101290.specs.declared.intervals.TableError.{TableError}
use Rattle.tr101290.specs.declared.rate_judge.PidError.{PidError}
use Rattle.tr101290.specs.declared.report.PcrError.{PcrError}
use Rattle.tr101290.specs.declared.report.PcrReport.{PcrReport}
use Rattle.tr101290.specs.declared.stamps.PtsError.{PtsError}
use Rattle.tr101290.specs.declared.watch.PcrTiming.{PcrTiming}
use Rattle.tr101290.specs.declared.watch.PcrTiming.TheVariants.{ConstantRate, References, Stamps}
use Rattle.events.specs.declared.event.ClockFault.{ClockFault}
use Rattle.events.specs.declared.event.Event.{Event}
use Rattle.events.specs.declared.event.Event.TheVariants as found
use Rattle.events.specs.declared.fault_kind.FaultKind.TheVariants as kinds
use Rattle.events.specs.declared.rule_event.RuleEvent.TheVariants as rule_events
use Rattle.events.specs.declared.packet_fault.RefusalCause.TheVariants as causes
use Rattle.es_events.specs.declared.view_options.ViewOptions.{ViewOptions}
use Rattle.ts_tables.specs.NamedStreams.{NamedView}
use Rattle.ts_watch.specs.ClockEvents.{error_event, error_events, inaccuracy_events, report_events_if, variable_events}
use Rattle.ts_watch.specs.RuleEvents.{RuleState, accuracy_events, is_map, is_scrambled, judge_taken, judged_events, packet_events, place_at}
use Rattle.ts_watch.specs.RuleEvents.{gap_events, pts_events, scrambled_events, stamp_events, varies_now}
use Rattle.packet_times.specs.Gaps.{GapState, gap_at}
use Rattle.packet_times.specs.GapEvents.{gap_event_if}
use Rattle.packet_times.specs.Watched.{is_watched}
use Rattle.ts_watch.specs.PidLabels.{label_of}
use Rattle.ts_watch.specs.StampPids.{said}
use Rattle.ts_watch.specs.TableEvents.{TimesState, begin_events, check_word_event, check_word_events, distance_events, error_events as table_error_events}
use Rattle.ts_watch.specs.TableEvents.{finding_events, findings_events, is_bad, other_events, section_in, soon_events, whole_in, with_finding}
use Rattle.ts_report.specs.Seen.{SeenState, cause_of, clock_errors, counter_events, counter_events_by, next_window, refused_events, report_on, timing_of}
use Rattle.ts_report.specs.Seen.{window_ends}
use Rattle.packet_times.specs.ClockWindows as clock_windows
use Rattle.ts_watch.specs.WindowEvents.{window_events}
use Rattle.ts_report.specs.StreamTables.{table_units}
use Rattle.ts_report.specs.Views.{ViewState, all_window_events, buffer_events_at, clocked, events_read, last_window}
use Rattle.ts_report.specs.Views.{packet_events as view_packet_events, with_begun, with_buffers}
use Rattle.monitor.specs.declared.fault.StreamFault.{StreamFault}
use Rattle.monitor.specs.declared.fault.Rule.{Rule}
use Rattle.monitor.specs.declared.fault.Rule.TheVariants as rules
use Rattle.monitor.specs.Rules.{failing, fault, packet_rule}
use Rattle.laws_view.specs.Continuity.{counter_fault}
use Rattle.laws_view.specs.ViewedFaults.{cause_rule, fault_in}
use Rattle.laws_view.proofs.FaultGroups.{Without}
use Rattle.laws_view.proofs.QuietEvents.{Quiet, begins, clocks as quiet_clocks, each, join, one_if, one_unless, streams, system, units, windows}

-- 1. The selected faults in a list of events

abbrev pub part : (StreamFault → Bool) → List Event → List StreamFault
part p events = filter p (filter_map fault_in events)

pub part_append : (p : StreamFault → Bool) (xs ys : List Event) → part p (xs ++ ys) ≡ part p xs ++ part p ys
part_append p xs ys = ap (filter p) (filter_map-append fault_in xs ys) ∙ filter-append p (filter_map fault_in xs) (filter_map fault_in ys)

pub of_quiet : (p : StreamFault → Bool) (events : List Event) → Quiet events → part p events ≡ []
of_quiet p events h = ap (filter p) h

pub both_none : (p : StreamFault → Bool) (xs ys : List Event) → part p xs ≡ [] → part p ys ≡ [] → part p (xs ++ ys) ≡ []
both_none p xs ys h k = part_append p xs ys ∙ ap₂ (λ (a b : List StreamFault). a ++ b) h k

-- 2. Sections

pub table_none : (p : StreamFault → Bool) (e : TableError) → Without p rules.Nit → Without p rules.Sdt → Without p rules.Tdt →
    part p (table_error_events (Some e)) ≡ []
unfolding table_error_events fault_in
table_none p e n s t =
    by ((e.section.pid == 0x10) && (e.section.table_id == 0x40)) ((e.section.pid == 0x11) && (e.section.table_id == 0x42))
    ((e.section.pid == 0x14) && (e.section.table_id == 0x70))
  where
    of : Option Rule → List StreamFault
    of rule = filter p (filter_map (λ (r : Option Rule). option_map (λ rule. fault rule (Some e.section.pid) e.section.packet) r) (rule ∷ []))

    by : (a b c : Bool) → of (cond a (Some rules.Nit) (cond b (Some rules.Sdt) (cond c (Some rules.Tdt) None))) ≡ []
    by true b c = rw (n (Some e.section.pid) e.section.packet) refl
    by false true c = rw (s (Some e.section.pid) e.section.packet) refl
    by false false true = rw (t (Some e.section.pid) e.section.packet) refl
    by false false false = refl

table_if_none : (p : StreamFault → Bool) (o : Option TableError) → Without p rules.Nit → Without p rules.Sdt → Without p rules.Tdt →
    part p (table_error_events o) ≡ []
unfolding table_error_events
table_if_none p None n s t = refl
table_if_none p (Some e) n s t = table_none p e n s t

begin_none : (p : StreamFault → Bool) (s : TimesState) (o : Option SectionBegin) → Without p rules.Nit → Without p rules.Sdt → Without p rules.Tdt →
    part p (begin_events s o) ≡ []
unfolding begin_events
begin_none p s None n d t = refl
begin_none p s (Some section) n d t = table_if_none p (intervals.error_at s.intervals section) n d t

other_quiet : (o : Option WholeSection) → Quiet (other_events o)
unfolding other_events fault_in
other_quiet None = refl
other_quiet (Some w) =
    one_unless (belongs w.begin.pid w.begin.table_id)
    (found.Rule (rule_events.OtherTable (record { pid = w.begin.pid; table = w.begin.table_id; packet = w.begin.packet }))) refl

soon_quiet : (o : Option TableError) → Quiet (soon_events o)
unfolding soon_events fault_in
soon_quiet None = refl
soon_quiet (Some e) = refl

distance_quiet : (d : DistanceState) (o : Option WholeSection) → Quiet (distance_events d o)
unfolding distance_events
distance_quiet d None = refl
distance_quiet d (Some w) = soon_quiet (distances.error_at d w)

check_none : (p : StreamFault → Bool) (f : FindingView) → Without p rules.Crc → part p (check_word_events f) ≡ []
unfolding fault_in
check_none p f c = by (is_bad f)
  where
    by : (t : Bool) → part p (cond t (check_word_event f ∷ []) []) ≡ []
    by true = rw (c (Some (unwrap_or f.pid 0)) f.packet) refl
    by false = refl

pub sections_none : (p : StreamFault → Bool) (options : ViewOptions) (s : TimesState) (found : List FindingView) → Without p rules.Crc → Without p rules.Nit →
    Without p rules.Sdt → Without p rules.Tdt → part p (findings_events options s found) ≡ []
unfolding findings_events
sections_none p options s [] c n d t = refl
sections_none p options s (f ∷ found) c n d t =
    both_none p (finding_events options s f) (findings_events options (with_finding options s f) found)
    (both_none p (check_word_events f) _ (check_none p f c)
    (both_none p (other_events (whole_section f)) _ (of_quiet p (other_events (whole_section f)) (other_quiet (whole_section f)))
    (both_none p (distance_events s.distances (whole_in options f)) (begin_events s (section_in options f))
    (of_quiet p (distance_events s.distances (whole_in options f)) (distance_quiet s.distances (whole_in options f)))
    (begin_none p s (section_in options f) n d t))))
    (sections_none p options (with_finding options s f) found c n d t)

-- 3. Clock references: the monitor's only rule for their errors is repetition

abbrev pub repetition_of : ℕ → Option PcrError → List StreamFault
repetition_of pid None = []
repetition_of pid (Some e) = fault rules.Pcr (Some pid) (e.byte / 188) ∷ []

repetitions : (pid : ℕ) (o : Option PcrError) → filter_map fault_in (error_events kinds.PcrRepetition pid o) ≡ repetition_of pid o
unfolding error_events fault_in
repetitions pid None = refl
repetitions pid (Some e) = refl

discontinuities : (pid : ℕ) (o : Option PcrError) → Quiet (error_events kinds.PcrDiscontinuity pid o)
unfolding error_events fault_in
discontinuities pid None = refl
discontinuities pid (Some e) = refl

unfoldable pub late_reference : ℕ → Option PcrReport → List StreamFault
late_reference pid None = []
late_reference pid (Some report) = repetition_of pid (repetition_error report)

references : (pid : ℕ) (o : Option PcrReport) → filter_map fault_in (report_events_if pid o) ≡ late_reference pid o
unfolding report_events_if late_reference
references pid None = refl
references pid (Some report) =
    filter_map-append fault_in (error_events kinds.PcrRepetition pid (repetition_error report))
    (error_events kinds.PcrDiscontinuity pid (discontinuity_error report))
    ∙ ap₂ (λ (a b : List StreamFault). a ++ b) (repetitions pid (repetition_error report)) (discontinuities pid (discontinuity_error report))
    ∙ append-nil (repetition_of pid (repetition_error report))

pub inaccuracies : (errors : List PidError) → Quiet (inaccuracy_events errors)
unfolding fault_in
inaccuracies errors = each (λ (e : PidError). error_event kinds.PcrAccuracy e.pid e.error) errors (λ e. refl)

pub variables : (t : Bool) (packet : ℕ) (judge : JudgeState) → Quiet (variable_events t packet judge)
unfolding fault_in
variables t packet judge = one_if t (found.Rule (rule_events.VariableRate (record { packet = packet; pairs = judge.pairs; apart = judge.apart }))) refl

judged : (judge : JudgeState) (index pid : ℕ) (report : PcrReport) → Quiet (judged_events judge index pid report)
judged judge index pid report =
    join (inaccuracy_events (errors_at judge pid report)) _ (inaccuracies (errors_at judge pid report))
    (variables (varies_now judge (judge_taken judge pid report)) index (judge_taken judge pid report))

accuracies : (timing : PcrTiming) (judge : JudgeState) (index pid : ℕ) (o : Option PcrReport) → Quiet (accuracy_events timing judge index pid o)
unfolding accuracy_events
accuracies timing judge index pid None = refl
accuracies (ConstantRate rate) judge index pid (Some report) = inaccuracies _
accuracies References judge index pid (Some report) = judged judge index pid report
accuracies Stamps judge index pid (Some report) = judged judge index pid report

pts_quiet : (o : Option PtsError) → Quiet (pts_events o)
unfolding pts_events fault_in
pts_quiet None = refl
pts_quiet (Some e) = refl

stamps_quiet : (stamps : StampState) (index : ℕ) (place : Option ℕ) (named : NamedView) (packet : PacketView) →
    Quiet (stamp_events stamps index place named packet)
unfolding stamp_events
stamps_quiet stamps index None named packet = refl
stamps_quiet stamps index (Some place) named packet = pts_quiet (stamping.error_at stamps index place (said named packet.header.pid) packet)

scrambled_quiet : (index : ℕ) (named : NamedView) (packet : PacketView) → Quiet (scrambled_events index named packet)
unfolding fault_in
scrambled_quiet index named packet = one_if (is_scrambled packet && is_map (label_of named packet.header.pid).coding)
    (found.Rule (rule_events.ScrambledTable (record { pid = packet.header.pid; packet = index }))) refl

gap_quiet : (named : NamedView) (o : Option ClockFault) → Quiet (gap_event_if named o)
unfolding gap_event_if fault_in
gap_quiet named None = refl
gap_quiet named (Some gap) = one_if (is_watched named gap.pid) (found.ClockFault kinds.PidRepetition gap) refl

gaps_quiet : (gaps : GapState) (index : ℕ) (place : Option ℕ) (named : NamedView) (pid : ℕ) → Quiet (gap_events gaps index place named pid)
unfolding gap_events
gaps_quiet gaps index None named pid = refl
gaps_quiet gaps index (Some place) named pid = gap_quiet named (gap_at gaps pid index place)

rules_quiet : (s : RuleState) (arrival : Arrival) (index : ℕ) (named : NamedView) (packet : PacketView) → Quiet (packet_events s arrival index named packet)
rules_quiet s arrival index named packet =
    join (stamp_events s.stamps index (place_at arrival index) named packet) _ (stamps_quiet s.stamps index (place_at arrival index) named packet)
    (join (gap_events s.gaps index (place_at arrival index) named packet.header.pid) (scrambled_events index named packet)
    (gaps_quiet s.gaps index (place_at arrival index) named packet.header.pid) (scrambled_quiet index named packet))

clocks : (s : SeenState) (packet : PacketView) → filter_map fault_in (clock_errors s packet) ≡ late_reference packet.header.pid (report_on s packet)
clocks s packet =
    filter_map-append fault_in (report_events_if packet.header.pid (report_on s packet)) _
    ∙ ap₂ (λ (a b : List StreamFault). a ++ b) (references packet.header.pid (report_on s packet))
    (join (accuracy_events (timing_of s.options.arrival) s.rules.judge s.packets packet.header.pid (report_on s packet)) _
    (accuracies (timing_of s.options.arrival) s.rules.judge s.packets packet.header.pid (report_on s packet))
    (rules_quiet s.rules s.options.arrival s.packets s.named packet))
    ∙ append-nil (late_reference packet.header.pid (report_on s packet))

-- 4. Reading a packet

pub window_end : (s : SeenState) → Quiet (window_ends s)
window_end s =
    join (window_events s.options s.named s.services.names s.window) (clock_windows.window_events s.references s.window.number)
    (windows s.options s.named s.services.names s.window) (quiet_clocks s.references s.window.number)

window_quiet : (s : ViewState) → Quiet (last_window s)
window_quiet s = by (s.seen.window.number == next_window s.seen)
  where
    all : Quiet (all_window_events s)
    all = join (window_ends s.seen) (table_units s.seen.options s.seen.window.number s.table) (window_end s.seen)
        (units s.seen.options s.seen.window.number s.table)

    by : (t : Bool) → Quiet (cond t [] (all_window_events s))
    by true = refl
    by false = all

-- Except for the errors of its clock reference, a packet that is read has no events with a rule.
packet_read : (s : ViewState) (packet : PacketView) →
    filter_map fault_in (view_packet_events s packet) ≡ late_reference packet.header.pid (report_on s.seen packet)
packet_read s packet =
    filter_map-append fault_in (last_window s) _
    ∙ ap₂ (λ (a b : List StreamFault). a ++ b) (window_quiet s)
    (filter_map-append fault_in (clock_errors s.seen packet) _
    ∙ ap₂ (λ (a b : List StreamFault). a ++ b) (clocks s.seen packet)
    (join (buffer_events_at (clocked s packet) packet) _
    (join _ _ (begins (clocked s packet).seen.packets (clocked s packet).seen.named (clocked s packet).table packet)
    (streams (clocked s packet).seen.options (clocked s packet).seen.packets (clocked s packet).seen.clocks (with_begun (clocked s packet) packet) packet))
    (system (clocked s packet).seen.options (with_buffers (clocked s packet) packet).table.choice (clocked s packet).seen.packets _))
    ∙ append-nil (late_reference packet.header.pid (report_on s.seen packet)))

-- The error of a packet's clock reference, unless the packet has transport_error_indicator.
unfoldable pub late_if : SeenState → Result PacketView PacketError → List StreamFault
late_if s (Err error) = []
late_if s (Ok packet) = cond packet.header.transport_error_indicator [] (late_reference packet.header.pid (report_on s packet))

refusal : (index : ℕ) (error : PacketError) → fault (cause_rule (cause_of error)) None index ∷ [] ≡ failing None index (packet_rule (Err error))
unfolding cause_rule cause_of failing packet_rule
refusal index refusals.Sync = refl
refusal index refusals.ReservedControl = refl
refusal index refusals.FieldTooLong = refl
refusal index refusals.PartTooLong = refl

pub reads : (s : ViewState) (r : Result PacketView PacketError) → filter_map fault_in (events_read s r) ≡ failing None s.seen.packets (packet_rule r)
    ++ late_if s.seen r
unfolding events_read late_if fault_in failing cause_rule packet_rule
reads s (Err error) = refusal s.seen.packets error ∙ sym (append-nil (failing None s.seen.packets (packet_rule (Err error))))
reads s (Ok packet) = by packet.header.transport_error_indicator refl
  where
    by : (t : Bool) → packet.header.transport_error_indicator ≡ t →
        filter_map fault_in (cond t (refused_events s.seen causes.TransportError) (view_packet_events s packet))
        ≡ failing None s.seen.packets (cond t (Some rules.Error) None) ++ cond t [] (late_reference packet.header.pid (report_on s.seen packet))
    by true e = refl
    by false e = packet_read s packet

-- 5. Counters

unfoldable pub counter_if : Option ContinuityError → List StreamFault
counter_if None = []
counter_if (Some e) = counter_fault e ∷ []

counters_by : (o : Option ContinuityError) → filter_map fault_in (counter_events_by o) ≡ counter_if o
unfolding counter_events_by counter_if fault_in
counters_by None = refl
counters_by (Some e) = refl

unfoldable pub counter_read : SeenState → List ℕ → Result PacketView PacketError → List StreamFault
counter_read s bytes (Err error) = []
counter_read s bytes (Ok packet) = cond packet.header.transport_error_indicator []
    (counter_if (error_at s.counters (record { index = s.packets - 1; bytes = bytes; packet = packet })))

pub counters : (s : SeenState) (bytes : List ℕ) (r : Result PacketView PacketError) → filter_map fault_in (counter_events s bytes r) ≡ counter_read s bytes r
unfolding counter_events counter_read
counters s bytes (Err error) = refl
counters s bytes (Ok packet) = by packet.header.transport_error_indicator
  where
    by : (t : Bool) →
        filter_map fault_in (cond t [] (counter_events_by (error_at s.counters (record { index = s.packets - 1; bytes = bytes; packet = packet }))))
        ≡ cond t [] (counter_if (error_at s.counters (record { index = s.packets - 1; bytes = bytes; packet = packet })))
    by true = refl
    by false = counters_by (error_at s.counters (record { index = s.packets - 1; bytes = bytes; packet = packet }))
