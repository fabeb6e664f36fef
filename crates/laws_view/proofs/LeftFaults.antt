-- The packets of what a multiplexer wrote give a view no fault of another kind than those that are left.
use Rattle.std.proofs.Common.{◌≡◌, ◌∙◌, ℕ, ◌-◌, ◌^◌, ◌<◌, ◌==◌, Bool, true, false, cond, List, [], ◌∷◌, ◌++◌, length}
use Rattle.std.proofs.Common.{filter, Option, Some, None, Result, Ok, Err, refl, sym, ap, ap₂, subst, arith}
use Rattle.std.specs.Prelude.{◌||◌, is_some}
use Rattle.std.proofs.lemmas.List.Elements.{filter-append}
use Rattle.ts_packet.specs.declared.packet.PacketError.{PacketError}
use Rattle.ts_packet.specs.Views.{PacketView}
use Rattle.ts_packet.specs.Reading.{packet_at}
use Rattle.ts_packet.specs.PidList.{cut_packets}
use Rattle.slot_contents.specs.Contents.{run_bytes}
use Rattle.pes_packet.specs.Units.{units_of}
use Rattle.mux_core.specs.Histories.{content_at}
use Rattle.mux_core.proofs.JobWriting.{output_bytes}
use Rattle.laws_run.proofs.MonitoredJobs.{job_kept}
use Rattle.laws_run.proofs.Soundness as soundness
use Rattle.pid_findings.specs.Views.{FindingView}
use Rattle.tr101290.specs.declared.intervals.SectionBegin.{SectionBegin}
use Rattle.tr101290.specs.declared.intervals.TableError.{TableError}
use Rattle.tr101290.specs.declared.distances.WholeSection.{WholeSection}
use Rattle.tr101290.specs.Distances.{DistanceState}
use Rattle.tr101290.specs.Distances as distances
use Rattle.tr101290.specs.Intervals as intervals
use Rattle.tr101290.specs.Homes.{belongs}
use Rattle.tr101290.specs.Sections.{whole_section}
use Rattle.events.specs.Faults.{fault_of, rule_fault}
use Rattle.events.specs.declared.event.Event.{Event}
use Rattle.events.specs.declared.event.Event.TheVariants as found
use Rattle.events.specs.declared.packet_fault.RefusalCause.TheVariants as causes
use Rattle.events.specs.declared.rule_event.RuleEvent.TheVariants as rules
use Rattle.es_events.specs.declared.view_options.ViewOptions.{ViewOptions}
use Rattle.ts_watch.specs.ClockEvents.{report_events_if}
use Rattle.ts_watch.specs.RuleEvents.{accuracy_events, packet_events}
use Rattle.ts_watch.specs.TableEvents as section_events
use Rattle.ts_watch.specs.TableEvents.{TimesState, begin_events, check_word_event, check_word_events, distance_events, finding_events, findings_events}
use Rattle.ts_watch.specs.TableEvents.{is_bad, other_events, section_in, soon_events, whole_in, with_finding}
use Rattle.ts_report.specs.Seen.{clock_errors, next_window, refused_events, report_on, timing_of, window_ends}
use Rattle.ts_report.specs.StreamTables.{beginning, table_units}
use Rattle.ts_report.specs.Views.{ViewState, after_packet, after_read, all_window_events, buffer_events_at, clocked, counter_events_at, events_all, events_at}
use Rattle.ts_report.specs.Views.{events_read, last_window, packet_events as events_of_packet, start, system_events_at, table_events_at, with_begun, with_buffers}
use Rattle.system_tables.specs.Programs.{excesses_at}
use Rattle.laws_view.specs.HomeTables.{is_other_table}
use Rattle.laws_view.specs.LeftFaults.{JobFaultsLaw, NoOtherFault, RunFaultsLaw, is_left, is_other, is_other_fault}
use Rattle.laws_view.specs.StreamPackets.{sound_packet}
use Rattle.laws_view.specs.ViewedCounters.{counters_in}
use Rattle.laws_view.specs.ViewedReferences.{IsFine}
use Rattle.laws_view.specs.ViewedSections.{is_check_word, sections_in}
use Rattle.laws_view.specs.ViewedTables.{AreBytes, late_of}
use Rattle.laws_view.proofs.HomeTables.{run_check_words_law, run_homes_law}
use Rattle.laws_view.proofs.LeftEvents.{Quiet, begins_if, both, of_rules, of_streams, of_tables, units, unless_so, windows}
use Rattle.laws_view.proofs.MuxedTableEvents.{run_table_events_law}
use Rattle.laws_view.proofs.ViewedCounters.{run_counters_law}
use Rattle.laws_view.proofs.ViewedReferences.{Watches, run_begins, run_packets, run_rated}
use Rattle.laws_view.proofs.ViewedVerdicts.{AreFine, AreSound, faults, fine_from, is_fault, none_first, none_last, none_of_all, sound_from}
use Rattle.laws_view.proofs.WatchedReferences.{Rated}

quiet_of_none : (events : List Event) → events ≡ [] → Quiet events
quiet_of_none events e = ap (filter is_other_fault) e

-- 1. A packet that is read

references : (s : ViewState) (packet : PacketView) → IsFine s.seen packet → Quiet (clock_errors s.seen packet)
references s packet fine =
    let reports = report_events_if packet.header.pid (report_on s.seen packet) in
    let accuracy = accuracy_events (timing_of s.seen.options.arrival) s.seen.rules.judge s.seen.packets packet.header.pid (report_on s.seen packet) in
    let last = packet_events s.seen.rules s.seen.options.arrival s.seen.packets s.seen.named packet in
    both reports (accuracy ++ last) (quiet_of_none reports (none_first reports accuracy fine.events))
    (both accuracy last (quiet_of_none accuracy (none_last reports accuracy fine.events))
    (of_rules s.seen.rules s.seen.options.arrival s.seen.packets s.seen.named packet))

window_before : (s : ViewState) → Quiet (last_window s)
window_before s =
    unless_so (s.seen.window.number == next_window s.seen) (all_window_events s)
    (both (window_ends s.seen) (table_units s.seen.options s.seen.window.number s.table) (windows s.seen) (units s.seen.options s.seen.window.number s.table))

buffers : (s : ViewState) (packet : PacketView) → Quiet (buffer_events_at s packet)
buffers s packet =
    both _ _ (begins_if s.seen.packets s.table packet (beginning s.seen.named s.table packet))
    (of_streams s.seen.options s.seen.packets s.seen.clocks (with_begun s packet) packet)

tables : (s : ViewState) (packet : PacketView) → Quiet (system_events_at s packet)
tables s packet =
    of_tables s.seen.options (with_buffers s packet).table.choice s.seen.packets
    (excesses_at s.seen.options.arrival s.seen.packets s.seen.named packet.header.pid s.seen.systems)

packet_quiet : (s : ViewState) (packet : PacketView) → IsFine s.seen packet → Quiet (events_of_packet s packet)
packet_quiet s packet fine =
    both (last_window s) _ (window_before s)
    (both (clock_errors s.seen packet) _ (references s packet fine)
    (both (buffer_events_at (clocked s packet) packet) (system_events_at (clocked s packet) packet) (buffers (clocked s packet) packet)
    (tables (clocked s packet) packet)))

read_quiet : (s : ViewState) (r : Result PacketView PacketError) → is_some (sound_packet r) ≡ true →
    ((packet : PacketView) → sound_packet r ≡ Some packet → IsFine s.seen packet) → Quiet (events_read s r)
unfolding events_read sound_packet
read_quiet s (Err error) sound fine = absurd (let no : ⊥ = cc in no)
read_quiet s (Ok packet) sound fine = by packet.header.transport_error_indicator sound fine
  where
    by : (t : Bool) → is_some (cond t None (Some packet)) ≡ true → ((p : PacketView) → cond t None (Some packet) ≡ Some p → IsFine s.seen p) →
        Quiet (cond t (refused_events s.seen causes.TransportError) (events_of_packet s packet))
    by true so each = absurd (let no : ⊥ = cc in no)
    by false so each = packet_quiet s packet (each packet refl)

-- 2. The sections of a packet: an event of them is another fault exactly if it is of a wrong check word, of a late section or of another table

abbrev is_of_section : Event → Bool
is_of_section e = is_fault e || is_other_table e

abbrev Agree : List Event → Type 0
Agree events = filter is_other_fault events ≡ filter is_of_section events

both_agree : (xs ys : List Event) → Agree xs → Agree ys → Agree (xs ++ ys)
both_agree xs ys a b =
    filter-append is_other_fault xs ys ∙ ap₂ (λ (us vs : List Event). us ++ vs) a b ∙ sym (filter-append is_of_section xs ys)

guarded : (b : Bool) (es : List Event) → Agree es → Agree (cond b es [])
guarded true es q = q
guarded false es q = refl

unguarded : (b : Bool) (es : List Event) → Agree es → Agree (cond b [] es)
unguarded true es q = refl
unguarded false es q = q

check_words : (f : FindingView) → Agree (check_word_events f)
unfolding fault_of is_left is_other is_check_word late_of is_other_table
check_words f = guarded (is_bad f) (check_word_event f ∷ []) refl

others : (o : Option WholeSection) → Agree (other_events o)
unfolding other_events fault_of rule_fault is_left is_other is_check_word late_of is_other_table
others None = refl
others (Some w) =
    unguarded (belongs w.begin.pid w.begin.table_id)
    (found.Rule (rules.OtherTable (record { pid = w.begin.pid; table = w.begin.table_id; packet = w.begin.packet })) ∷ []) refl

soon : (o : Option TableError) → Agree (soon_events o)
unfolding soon_events fault_of rule_fault is_left is_other is_check_word late_of is_other_table
soon None = refl
soon (Some e) = refl

apart : (d : DistanceState) (o : Option WholeSection) → Agree (distance_events d o)
unfolding distance_events
apart d None = refl
apart d (Some w) = soon (distances.error_at d w)

late : (o : Option TableError) → Agree (section_events.error_events o)
unfolding section_events.error_events fault_of is_left is_other is_check_word late_of is_other_table
late None = refl
late (Some e) = refl

beginnings : (s : TimesState) (o : Option SectionBegin) → Agree (begin_events s o)
unfolding begin_events
beginnings s None = refl
beginnings s (Some section) = late (intervals.error_at s.intervals section)

finding_agrees : (options : ViewOptions) (s : TimesState) (f : FindingView) → Agree (finding_events options s f)
finding_agrees options s f =
    both_agree (check_word_events f) _ (check_words f)
    (both_agree (other_events (whole_section f)) _ (others (whole_section f))
    (both_agree (distance_events s.distances (whole_in options f)) (begin_events s (section_in options f)) (apart s.distances (whole_in options f))
    (beginnings s (section_in options f))))

findings_agree : (options : ViewOptions) (s : TimesState) (fs : List FindingView) → Agree (findings_events options s fs)
unfolding findings_events
findings_agree options s [] = refl
findings_agree options s (f ∷ fs) =
    both_agree (finding_events options s f) (findings_events options (with_finding options s f) fs) (finding_agrees options s f)
    (findings_agree options (with_finding options s f) fs)

-- 3. All packets

all_left : (s : ViewState) (packets : List (List ℕ)) → AreSound packets → AreFine s packets → counters_in s packets ≡ [] →
    filter is_of_section (sections_in s packets) ≡ [] → Quiet (events_all s packets)
unfolding events_all AreSound AreFine counters_in sections_in
all_left s [] sound fine counters sections = refl
all_left s (bytes ∷ packets) sound fine counters sections =
    let v : ViewState = after_read s (packet_at bytes) in
    let parts = sym (filter-append is_of_section (table_events_at v bytes) (sections_in (after_packet s bytes) packets)) ∙ sections in
    let of_tables_none : Quiet (table_events_at v bytes) =
    findings_agree v.seen.options v.seen.tables.times _ ∙ none_first (filter is_of_section (table_events_at v bytes)) _ parts in
    both (events_at s bytes) (events_all (after_packet s bytes) packets)
    (both (events_read s (packet_at bytes)) (table_events_at v bytes ++ counter_events_at v bytes) (read_quiet s (packet_at bytes) sound.0 fine.0)
    (both (table_events_at v bytes) (counter_events_at v bytes) of_tables_none
    (quiet_of_none (counter_events_at v bytes) (none_first (counter_events_at v bytes) (counters_in (after_packet s bytes) packets) counters))))
    (all_left (after_packet s bytes) packets sound.1 fine.1 (none_last (counter_events_at v bytes) (counters_in (after_packet s bytes) packets) counters)
    (none_last (filter is_of_section (table_events_at v bytes)) _ parts))

-- 4. A run

neither : (p q : Event → Bool) (xs : List Event) → filter p xs ≡ [] → filter q xs ≡ [] → filter (λ e. p e || q e) xs ≡ []
neither p q [] a b = refl
neither p q (x ∷ xs) a b = by (p x) (q x) (neither p q xs) a b
  where
    by : (i j : Bool) → (filter p xs ≡ [] → filter q xs ≡ [] → filter (λ e. p e || q e) xs ≡ []) → cond i (x ∷ filter p xs) (filter p xs) ≡ [] →
        cond j (x ∷ filter q xs) (filter q xs) ≡ [] → cond (i || j) (x ∷ filter (λ e. p e || q e) xs) (filter (λ e. p e || q e) xs) ≡ []
    by true j rest c d = absurd (let no : ⊥ = cc in no)
    by false true rest c d = absurd (let no : ⊥ = cc in no)
    by false false rest c d = rest c d

pub run_faults_law : RunFaultsLaw
run_faults_law d units slots request ranges promised kept few at small none =
    let packets : List (List ℕ) = cut_packets (run_bytes (content_at d units) 0 slots) in
    let count : length packets ≡ slots = run_packets d units slots ranges promised kept in
    let many : slots < 2 ^ 64 - 1 = omega (arith, few) in
    let r : Rated = run_rated d slots ranges few in
    let watched : Watches r (start request) 0 packets = run_begins d units slots request ranges promised kept few at in
    let fine : AreFine (start request) packets = fine_from r (start request) 0 packets (omega (arith, count)) watched in
    let sound : AreSound packets = sound_from 0 packets (soundness.sound d units slots ranges kept many).packets in
    let faultless : faults (sections_in (start request) packets) ≡ [] =
    none_of_all (sections_in (start request) packets)
    (λ pid. run_table_events_law d units slots request ranges promised kept many at small pid (λ t i is on. none t i is))
    (run_check_words_law d units slots request ranges kept many none) in
    all_left (start request) packets sound fine (run_counters_law d units slots request ranges kept many)
    (neither is_fault is_other_table (sections_in (start request) packets) faultless (run_homes_law d units slots request ranges kept many))

pub job_faults_law : JobFaultsLaw
job_faults_law d units slots request ranges promised none few at small made =
    let same = output_bytes (content_at d (λ k. units_of k units)) 0 slots in
    subst (NoOtherFault request) (sym same)
    (run_faults_law d (λ k. units_of k units) slots request ranges promised (job_kept d units ranges none) few at (subst AreBytes same small) made)
