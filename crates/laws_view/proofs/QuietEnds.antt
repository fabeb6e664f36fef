-- Events of the end of a stream: the monitor has no rule for them, except for tables and clock references that have stopped.
use Rattle.std.proofs.Common.{◌≡◌, ◌∙◌, ℕ, Bool, true, false, cond, List, [], ◌∷◌, ◌++◌, filter, Option, Some, None, refl, ap}
use Rattle.std.specs.List.{filter_map}
use Rattle.std.specs.Option.{option_to_list}
use Rattle.std.specs.Prelude.{flat_map, is_some, nat_lt}
use Rattle.pid_findings.specs.Views.{FindingView}
use Rattle.tr101290.specs.declared.pid_windows.PidCounts.{PidCounts}
use Rattle.program_tables.specs.KnownTables.{known_in}
use Rattle.psi_tables.specs.declared.pat.programs.Program.{Program}
use Rattle.arrival.specs.declared.arrival.Arrival.{Arrival}
use Rattle.system_tables.specs.Programs.{ProgramState, known}
use Rattle.tstd_rows.specs.Held.{Held, transport_busy_under_way, transport_under_way, unit_before}
use Rattle.tstd_rows.specs.Limits.{tb_size}
use Rattle.tstd_rows.specs.declared.busy_watch.Stay.{Stay}
use Rattle.tr101290.specs.RateJudges.{last_errors}
use Rattle.tr101290.specs.declared.intervals.TableError.{TableError}
use Rattle.tr101290.specs.declared.intervals.TableTiming.{TableTiming}
use Rattle.events.specs.declared.event.ClockFault.{ClockFault}
use Rattle.events.specs.declared.event.Event.TheVariants as found
use Rattle.events.specs.declared.fault_kind.FaultKind.TheVariants as kinds
use Rattle.events.specs.declared.rule_event.BufferKind.{BufferKind}
use Rattle.events.specs.declared.rule_event.BufferKind.TheVariants as buffers
use Rattle.events.specs.declared.rule_event.RuleEvent.TheVariants as rule_events
use Rattle.events.specs.declared.rule_event.ScrambledPacket.{ScrambledPacket}
use Rattle.es_events.specs.declared.entry_events.Place.{Place}
use Rattle.es_events.specs.declared.tally.Tally.{Tally}
use Rattle.es_events.specs.declared.video_figures.VideoFigures.{VideoFigures}
use Rattle.es_events.specs.declared.video_tally.VideoTally.{VideoTally}
use Rattle.es_events.specs.declared.view_options.ViewOptions.{ViewOptions}
use Rattle.es_events.specs.Clocks.{ClockEntries, clock_of}
use Rattle.es_events.specs.EntryEvents.{closing_events, excess_event, excess_events, late_events, main_event, main_figures}
use Rattle.es_events.specs.EntryEvents.{transport_total, under_way_events, with_size}
use Rattle.es_events.specs.VideoEvents.{elementary_event, multiplexing_event, video_closing_events, video_under_way}
use Rattle.es_events.specs.VideoFigures.{figures_of}
use Rattle.es_view.specs.HeldEvents.{tally_events}
use Rattle.es_events.specs.MarkTallies.{mark_events}
use Rattle.es_events.specs.EntryStays.{busy_closing}
use Rattle.es_view.specs.EntryFrames.{leak_under_way}
use Rattle.es_view.specs.Entries.{EntryState, closed_seen, place_at, seen_held, stays_closing}
use Rattle.es_view.specs.Entries as entry_views
use Rattle.ts_watch.specs.Choices.{ChoiceView, takes}
use Rattle.ts_watch.specs.ClockEvents.{clock_event, clock_events, inaccuracy_events, variable_events}
use Rattle.ts_report.specs.AbsentTables.{absent_events, absent_tables, absent_unless, association_events, has_own_map, map_events, maps_events}
use Rattle.ts_report.specs.ReferenceEvents.{events_by, expected_pids, missing_events, reference_events, unreferenced_event, unreferenced_events}
use Rattle.ts_watch.specs.RuleEvents.{RuleState, cat_events, ends_varying}
use Rattle.ts_watch.specs.RuleEvents as rule_views
use Rattle.ts_report.specs.StoppedClocks.{beyond_events, clock_event as stopped_clock, clocks_by, clocks_events, expected_clocks, longest_without, stopped_clocks, stops}
use Rattle.ts_report.specs.StoppedClocks.{clock_events as stopped_clock_events, time_without}
use Rattle.ts_report.specs.StoppedEvents.{errors_events, stopped_by, stopped_errors, stopped_events}
use Rattle.ts_report.specs.StoppedPids.{stopped_pids_by, stopped_pids, stops_at}
use Rattle.packet_times.specs.Gaps.{GapState}
use Rattle.packet_times.specs.GapEvents.{watched_event}
use Rattle.packet_times.specs.Watched.{is_watched}
use Rattle.ts_watch.specs.SystemEvents.{event_if, system_event, system_events, under_way}
use Rattle.ts_watch.specs.SystemEvents as systems
use Rattle.ts_tables.specs.NamedStreams.{NamedView}
use Rattle.ts_watch.specs.TableEvents.{TablesState, error_event, error_events, has_table, table_event, table_events}
use Rattle.ts_watch.specs.TableNames.{NamesState, has_name}
use Rattle.ts_watch.specs.WindowEvents.{pid_event, pid_events}
use Rattle.tr101290.specs.Packets.{missing_pids, unreferenced_pids}
use Rattle.tr101290.specs.References.{referenced_pids}
use Rattle.ts_report.specs.Seen.{SeenState, arrival_events, end_event, is_stream, last_rules, lasts, pid_ends, rule_ends, unclocked, unclocked_event, window_ends}
use Rattle.ts_report.specs.StreamTables.{TableState, table_end}
use Rattle.ts_report.specs.Views.{ViewState, end_events}
use Rattle.monitor.specs.declared.fault.StreamFault.{StreamFault}
use Rattle.monitor.specs.declared.fault.Rule.TheVariants as rules
use Rattle.laws_view.specs.ViewedFaults.{EndFaultLaw, fault_in}
use Rattle.laws_view.proofs.FaultGroups.{Without}
use Rattle.laws_view.proofs.QuietEvents.{Quiet, all_of, each, join, lates, of_both, one_if, one_unless, quiet_after, quiet_before, system, tallies}
use Rattle.laws_view.proofs.QuietTraces.{entry_traces}
use Rattle.laws_view.proofs.ViewedPackets.{both_none, inaccuracies, part, table_none, variables, window_end}

-- 1. Packets that no longer wait

pub arrivals : (s : SeenState) (arrival : Arrival) (count : ℕ) → Quiet (arrival_events s arrival count)
unfolding fault_in
arrivals s arrival count = one_if (unclocked arrival count) (unclocked_event s count) refl

-- 2. Streams

busy_closes : (options : ViewOptions) (place : Place) (buffer : BufferKind) (o : Option Stay) → Quiet (busy_closing options place buffer o)
unfolding busy_closing fault_in
busy_closes options place buffer None = refl
busy_closes options place buffer (Some s) = refl

closes : (options : ViewOptions) (place : Place) (h : Held) (t : Tally) → Quiet (closing_events options place h t)
unfolding fault_in
closes options place h t =
    join (under_way_events options place h) (transport_total place h t ∷ main_event place (main_figures h t) t ∷ [])
    (join (excess_events buffers.Transport options (with_size place tb_size) (option_to_list (transport_under_way h))) _
    (each (excess_event buffers.Transport options (with_size place tb_size)) (option_to_list (transport_under_way h)) (λ x. refl))
    (join (excess_events buffers.Main options place (option_to_list h.main.under_way)) (late_events options place (unit_before h))
    (each (excess_event buffers.Main options place) (option_to_list h.main.under_way) (λ x. refl)) (lates options place (unit_before h))))
    refl

video_closes : (options : ViewOptions) (place : Place) (o : Option VideoFigures) (units : ℕ) (t : VideoTally) →
    Quiet (video_closing_events options place o units t)
unfolding video_closing_events fault_in
video_closes options place None units t = refl
video_closes options place (Some f) units t =
    join (video_under_way options place f) (multiplexing_event place f t ∷ elementary_event place f units t ∷ [])
    (of_both options place f.limits (option_to_list f.multiplexing) f.elementary f.unit) refl

entry_ends : (options : ViewOptions) (packets window : ℕ) (e : EntryState) → Quiet (entry_views.end_events options packets window e)
unfolding fault_in
entry_ends options packets window e =
    join (tally_events options window place (closed_seen window e) (seen_held e)) _ (tallies options window place (closed_seen window e) (seen_held e))
    (join (closing_events options place (seen_held e) (closed_seen window e)) _ (closes options place (seen_held e) (closed_seen window e))
    (join (video_closing_events options place (figures_of e.video (seen_held e)) (closed_seen window e).units e.video_tally) _
    (video_closes options place (figures_of e.video (seen_held e)) (closed_seen window e).units e.video_tally)
    (join (stays_closing options place e) (mark_events e.pid e.mark_tally)
    (join (busy_closing options place buffers.Transport (transport_busy_under_way (seen_held e)))
    (busy_closing options place buffers.Multiplexing (leak_under_way e.video (seen_held e)))
    (busy_closes options place buffers.Transport (transport_busy_under_way (seen_held e)))
    (busy_closes options place buffers.Multiplexing (leak_under_way e.video (seen_held e))))
    refl)))
  where
    place : Place
    place = place_at packets e

streams_end : (options : ViewOptions) (packets window : ℕ) (t : TableState) → Quiet (table_end options packets window t)
streams_end options packets window t =
    join (flat_map (entry_views.end_events options packets window) t.entries) (flat_map (entry_views.traces_of options) t.entries)
    (all_of (entry_views.end_events options packets window) t.entries (entry_ends options packets window))
    (all_of (entry_views.traces_of options) t.entries (entry_traces options))

-- 3. Tables, clocks and PIDs

one_program : (options : ViewOptions) (choice : ChoiceView) (packets : ℕ) (p : ProgramState) → Quiet (systems.events_of options choice packets p)
unfolding fault_in
one_program options choice packets p =
    join (systems.excess_events options choice packets (under_way p)) (event_if choice p) (system options choice packets (under_way p))
    (one_if (takes choice p.number) (system_event p) refl)

programs_end : (options : ViewOptions) (choice : ChoiceView) (packets : ℕ) (programs : List ProgramState) →
    Quiet (system_events options choice packets programs)
programs_end options choice packets programs = all_of (systems.events_of options choice packets) programs (one_program options choice packets)

unnamed_end : (names : NamesState) (pid : ℕ) → Quiet (unreferenced_event names pid)
unfolding fault_in
unnamed_end names pid = one_unless (has_name names pid) (found.Unreferenced pid) refl

named_end : (entries : List (ℕ × PidCounts)) (long : Bool) (names : NamesState) (o : Option (List ℕ)) → Quiet (events_by entries long names o)
unfolding events_by fault_in
named_end entries long names None = refl
named_end entries long names (Some referenced) =
    let missing = expected_pids long names (missing_pids entries [] referenced) in
    join (unreferenced_events names (unreferenced_pids referenced entries)) (missing_events missing)
    (all_of (unreferenced_event names) (unreferenced_pids referenced entries) (unnamed_end names))
    (each (λ pid. found.Missing pid) missing (λ x. refl))

access_table : (o : Option ScrambledPacket) (has_cat : Bool) → Quiet (cat_events o has_cat)
unfolding cat_events fault_in
access_table None has_cat = refl
access_table (Some packet) has_cat = one_unless has_cat (found.Rule (rule_events.NoCat packet)) refl

rules_end : (s : RuleState) (packets : ℕ) (has_cat : Bool) → Quiet (rule_views.end_events s packets has_cat)
rules_end s packets has_cat =
    join (inaccuracy_events (last_errors s.judge)) _ (inaccuracies (last_errors s.judge))
    (join (variable_events (ends_varying s.judge) packets s.judge) (cat_events s.scrambled has_cat)
    (variables (ends_varying s.judge) packets s.judge) (access_table s.scrambled has_cat))

absent : (has : Bool) (pid table : ℕ) → Quiet (absent_unless has pid table)
unfolding fault_in
absent has pid table = one_unless has (found.Rule (rule_events.NoTable (record { pid = pid; table = table }))) refl

absent_map : (findings : List FindingView) (tables : TablesState) (program : Program) → Quiet (map_events findings tables program)
absent_map findings tables program = absent (has_own_map findings tables program) program.pid 2

absent_maps : (findings : List FindingView) (tables : TablesState) (programs : List Program) → Quiet (maps_events findings tables programs)
absent_maps findings tables programs = all_of (map_events findings tables) programs (absent_map findings tables)

tables_absent : (findings : List FindingView) (tables : TablesState) → Quiet (absent_tables findings tables)
tables_absent findings tables =
    join (association_events (known_in findings)) (maps_events findings tables (known_in findings).programs)
    (absent (is_some (known_in findings).version) 0 0) (absent_maps findings tables (known_in findings).programs)

absent_end : (stream : Bool) (named : NamedView) (tables : TablesState) → Quiet (absent_events stream named tables)
absent_end true named tables = tables_absent named.demux.found tables
absent_end false named tables = refl

pid_stopped : (named : NamedView) (gap : ClockFault) → Quiet (watched_event named gap)
unfolding fault_in
pid_stopped named gap = one_if (is_watched named gap.pid) (found.ClockFault kinds.PidRepetition gap) refl

pids_stopped : (options : ViewOptions) (named : NamedView) (names : NamesState) (gaps : GapState) (packets : ℕ) (place : Option ℕ) →
    Quiet (stopped_pids_by options named names gaps packets place)
unfolding stopped_pids_by
pids_stopped options named names gaps packets None = refl
pids_stopped options named names gaps packets (Some place) =
    all_of (watched_event named) (stops_at options names gaps packets place) (pid_stopped named)

last_end : (s : SeenState) → Quiet (last_rules s)
last_end s =
    join (stopped_pids s.options s.named s.tables.named s.rules.gaps s.packets) (rule_views.end_events s.rules s.packets (has_table s.tables 0x01 0x01))
    (pids_stopped s.options s.named s.tables.named s.rules.gaps s.packets (rule_views.place_at s.options.arrival s.packets))
    (rules_end s.rules s.packets (has_table s.tables 0x01 0x01))

-- The faults of tables and clock references that have stopped.
abbrev pub stopped_of : SeenState → List StreamFault
stopped_of s = filter_map fault_in (stops s.options s.named s.tables s.clocks s.packets)

rules_of : (s : SeenState) → filter_map fault_in (rule_ends s) ≡ stopped_of s
unfolding rule_ends
rules_of s =
    quiet_before (absent_events (is_stream s) s.named s.tables) _ (absent_end (is_stream s) s.named s.tables)
    ∙ quiet_after (stops s.options s.named s.tables s.clocks s.packets) (last_rules s) (last_end s)

tables_quiet : (t : TablesState) → Quiet (table_events t)
unfolding fault_in
tables_quiet t = each (table_event t.times.intervals.timing) t.times.intervals.entries (λ x. refl)

clocks_quiet : (s : SeenState) → Quiet (clock_events s.watches)
unfolding fault_in
clocks_quiet s = each clock_event s.watches.watches (λ x. refl)

totals_quiet : (s : SeenState) → Quiet (pid_events s.totals)
unfolding fault_in
totals_quiet s = each pid_event s.totals.counts (λ x. refl)

pids_end : (s : SeenState) → filter_map fault_in (pid_ends s) ≡ stopped_of s
unfolding pid_ends
pids_end s =
    quiet_before (clock_events s.watches) _ (clocks_quiet s)
    ∙ quiet_before (table_events s.tables) _ (tables_quiet s.tables)
    ∙ quiet_before (pid_events s.totals) _ (totals_quiet s)
    ∙ quiet_before (reference_events (lasts s) s.named s.tables s.totals) (rule_ends s)
    (named_end s.totals.counts (lasts s) s.tables.named (referenced_pids s.named))
    ∙ rules_of s

end_quiet : (s : SeenState) (left : ℕ) → Quiet (end_event s left ∷ [])
unfolding fault_in
end_quiet s left = refl

-- 4. All events of the end: only tables and clock references that have stopped have a rule

pub ends : EndFaultLaw
ends s left =
    quiet_before (window_ends s.seen) _ (window_end s.seen)
    ∙ quiet_before (table_end s.seen.options s.seen.packets s.seen.window.number s.table) _
    (streams_end s.seen.options s.seen.packets s.seen.window.number s.table)
    ∙ quiet_before (system_events s.seen.options s.table.choice s.seen.packets (known s.seen.systems)) _
    (programs_end s.seen.options s.table.choice s.seen.packets (known s.seen.systems))
    ∙ quiet_after (pid_ends s.seen) (end_event s.seen left ∷ []) (end_quiet s.seen left)
    ∙ pids_end s.seen

-- A test that selects none of the rules of tables and clock references that both programs judge.
pub record OfNoStop (p : StreamFault → Bool) : Type 0 where
  pub nit : Without p rules.Nit
  pub sdt : Without p rules.Sdt
  pub tdt : Without p rules.Tdt
  pub pcr : Without p rules.Pcr

errors_none : (p : StreamFault → Bool) (errors : List TableError) → OfNoStop p → part p (errors_events errors) ≡ []
unfolding error_events
errors_none p [] h = refl
errors_none p (e ∷ errors) h =
    both_none p (error_event e ∷ []) (errors_events errors) (table_none p e h.nit h.sdt h.tdt) (errors_none p errors h)

stopped_none : (p : StreamFault → Bool) (options : ViewOptions) (t : TablesState) (packets : ℕ) (place : Option ℕ) → OfNoStop p →
    part p (stopped_by options t packets place) ≡ []
unfolding stopped_by
stopped_none p options t packets None h = refl
stopped_none p options t packets (Some place) h = errors_none p (stopped_errors options t packets place) h

beyond_none : (p : StreamFault → Bool) (longest pid packets value : ℕ) → OfNoStop p → part p (beyond_events longest pid packets value) ≡ []
unfolding fault_in
beyond_none p longest pid packets value h = by (nat_lt longest value)
  where
    by : (t : Bool) → part p (cond t (stopped_clock pid packets value ∷ []) []) ≡ []
    by true = rw (h.pcr (Some pid) packets) refl
    by false = refl

clocks_none : (p : StreamFault → Bool) (options : ViewOptions) (timing : TableTiming) (clocks : ClockEntries) (packets place : ℕ) (pids : List ℕ) →
    OfNoStop p → part p (clocks_events options timing clocks packets place pids) ≡ []
clocks_none p options timing clocks packets place [] h = refl
clocks_none p options timing clocks packets place (pid ∷ pids) h =
    both_none p (stopped_clock_events options timing clocks packets place pid) (clocks_events options timing clocks packets place pids)
    (beyond_none p (longest_without options.arrival) pid packets (time_without options timing place (clock_of clocks pid)) h)
    (clocks_none p options timing clocks packets place pids h)

placed_none : (p : StreamFault → Bool) (options : ViewOptions) (timing : TableTiming) (clocks : ClockEntries) (packets : ℕ) (pids : List ℕ)
    (place : Option ℕ) → OfNoStop p → part p (clocks_by options timing clocks packets pids place) ≡ []
unfolding clocks_by
placed_none p options timing clocks packets pids None h = refl
placed_none p options timing clocks packets pids (Some place) h = clocks_none p options timing clocks packets place pids h

stops_none : (p : StreamFault → Bool) (s : SeenState) → OfNoStop p → part p (stops s.options s.named s.tables s.clocks s.packets) ≡ []
stops_none p s h =
    both_none p (stopped_events s.options s.tables s.packets)
    (stopped_clocks s.options s.named s.tables s.clocks s.packets)
    (stopped_none p s.options s.tables s.packets (rule_views.place_at s.options.arrival s.packets) h)
    (placed_none p s.options s.tables.times.intervals.timing s.clocks s.packets (expected_clocks s.tables.named s.named.streams)
    (rule_views.place_at s.options.arrival s.packets) h)

-- It selects no fault at the end.
abbrev pub Ends : (StreamFault → Bool) → Type 0
Ends p = (s : ViewState) (left : ℕ) → part p (end_events s left) ≡ []

pub of_no_stop : (p : StreamFault → Bool) → OfNoStop p → Ends p
of_no_stop p h = λ s left. ap (filter p) (ends s left) ∙ stops_none p s.seen h
