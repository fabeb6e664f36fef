-- The events of buffers, of windows and of rules in a view are no faults of another kind than those that are left.
use Rattle.std.proofs.Common.{◌≡◌, ◌∙◌, ℕ, ◌==◌, ◌&&◌, Bool, true, false, cond, List, [], ◌∷◌, ◌++◌, map, filter, Option, Some, None, refl, ap, ap₂}
use Rattle.std.specs.Prelude.{flat_map, min, nat_eq, nat_lt, not, slice_get, unwrap_or}
use Rattle.std.specs.Option.{option_to_list}
use Rattle.std.specs.Map.{lookup}
use Rattle.std.proofs.lemmas.List.Concat.{flat_map-cons}
use Rattle.std.proofs.lemmas.List.Elements.{filter-append}
use Rattle.arrival.specs.declared.arrival.Arrival.{Arrival}
use Rattle.arrival.specs.declared.clock.PcrSample.{PcrSample}
use Rattle.ts_packet.specs.Views.{PacketView}
use Rattle.tr101290.specs.declared.pid_windows.PidCounts.{PidCounts}
use Rattle.stream_programs.specs.Streams.{FoundStreamView}
use Rattle.sound_frames.specs.FrameWalks.{WalkView}
use Rattle.sound_frames.specs.declared.frame_walk.FramePart.{FramePart}
use Rattle.system_tables.specs.declared.table_excess.TableExcess.{TableExcess}
use Rattle.tr101290.specs.declared.counts.PcrCounts.{PcrCounts}
use Rattle.tr101290.specs.declared.stamps.PtsError.{PtsError}
use Rattle.tr101290.specs.Stamps.{StampState, error_at}
use Rattle.tstd_rows.specs.Entering.{EnteredView, after_part, entered, entered_first, entered_part, size_of}
use Rattle.tstd_rows.specs.EnteringVideo.{video_of, video_unit_of}
use Rattle.tstd_rows.specs.Held.{Held, transport_busy}
use Rattle.tstd_rows.specs.HeldVideo.{VideoEnteredView, VideoSizes}
use Rattle.tstd_rows.specs.Limits.{tb_size}
use Rattle.tstd_rows.specs.VideoViewed.{unit_cause}
use Rattle.tstd_rows.specs.declared.arriving.Arriving.{Arriving}
use Rattle.tstd_rows.specs.declared.busy_watch.BusyWatch.{BusyWatch}
use Rattle.tstd_rows.specs.declared.busy_watch.Stay.{Stay}
use Rattle.tstd_rows.specs.declared.excess.Excess.{Excess}
use Rattle.tstd_rows.specs.declared.late_causes.LateCause.{LateCause}
use Rattle.tstd_rows.specs.declared.late_causes.VideoUnit.{VideoUnit}
use Rattle.tstd_rows.specs.declared.unit_seen.UnitSeen.{UnitSeen}
use Rattle.events.specs.BufferKinds.{excess_kind}
use Rattle.events.specs.Faults.{buffer_fault, fault_of, rule_fault}
use Rattle.events.specs.declared.event.BufferExcess.{BufferExcess}
use Rattle.events.specs.declared.event.ClockFault.{ClockFault}
use Rattle.events.specs.declared.event.Event.{Event}
use Rattle.events.specs.declared.event.Event.TheVariants as found
use Rattle.events.specs.declared.fault_kind.FaultKind.TheVariants as kinds
use Rattle.events.specs.declared.rule_event.BufferKind.{BufferKind}
use Rattle.events.specs.declared.rule_event.RuleEvent.TheVariants as rules
use Rattle.events.specs.declared.rule_event.BufferKind.TheVariants.{Elementary, Main, Multiplexing, System, TableTransport, Transport}
use Rattle.es_events.specs.Clocks.{ClockEntries, clock_of}
use Rattle.es_events.specs.EntryEvents.{ahead_events, ended_events, excess_event, excess_events, late_event, late_events, with_size}
use Rattle.es_events.specs.EntryStays.{busy_ended, busy_event, delayed_events, overstay_of}
use Rattle.es_events.specs.Tallies.{is_late}
use Rattle.es_events.specs.VideoEvents.{elementary_late_events, late_events_by, video_ended_events}
use Rattle.es_events.specs.VideoFigures.{limits_of}
use Rattle.es_events.specs.declared.entry_events.Place.{Place}
use Rattle.es_events.specs.declared.tally.Tally.{Tally}
use Rattle.es_events.specs.declared.video_tally.VideoLimits.{VideoLimits}
use Rattle.es_events.specs.declared.view_options.ViewOptions.{ViewOptions}
use Rattle.es_view.specs.Entries.{EntryState, Framed, ahead_by, arriving_at, beginning_in, entry_events, events_entered, held_after, last_buffer, payload_at}
use Rattle.es_view.specs.Entries.{place_at, seen_held, seen_tally, unit_stay, units_of}
use Rattle.es_view.specs.EntryFrames.{FramedPayload, busy_seen, count_of, frame_events, frame_tick, frames_among, frames_events, front_held, leak_busy_of}
use Rattle.es_view.specs.EntryFrames.{leak_ended, part_of, payload_events, place_of, stays_ended, whole_events}
use Rattle.es_view.specs.HeldEvents.{held_event, held_events, unit_event, unit_events}
use Rattle.ts_tables.specs.NamedStreams.{NamedView}
use Rattle.ts_watch.specs.Choices.{ChoiceView, takes}
use Rattle.packet_times.specs.ClockWindows.{ClocksState}
use Rattle.packet_times.specs.ClockWindows as clocks_by_window
use Rattle.ts_watch.specs.PidLabels.{label_of}
use Rattle.ts_watch.specs.StampPids.{said}
use Rattle.packet_times.specs.Gaps.{GapState, gap_at}
use Rattle.packet_times.specs.GapEvents.{gap_event_if}
use Rattle.packet_times.specs.Watched.{is_watched}
use Rattle.ts_watch.specs.RuleEvents.{RuleState, gap_events, is_map, is_scrambled, packet_events, place_at as place_in, pts_events, scrambled_events, stamp_events}
use Rattle.ts_watch.specs.SystemEvents.{excess_if}
use Rattle.ts_watch.specs.SystemEvents as of_systems
use Rattle.ts_watch.specs.WindowEvents as of_windows
use Rattle.ts_report.specs.Seen.{SeenState, window_ends}
use Rattle.ts_report.specs.StreamTables.{TableState, begin_events_if, events_if, events_in, events_of, table_units}
use Rattle.laws_view.specs.LeftFaults.{is_left, is_other, is_other_fault}

-- 1. Lists of events

abbrev pub Quiet : List Event → Type 0
Quiet events = filter is_other_fault events ≡ []

pub both : (xs ys : List Event) → Quiet xs → Quiet ys → Quiet (xs ++ ys)
both xs ys a b = filter-append is_other_fault xs ys ∙ ap₂ (λ (us vs : List Event). us ++ vs) a b

one : (e : Event) (es : List Event) → is_other_fault e ≡ false → Quiet es → Quiet (e ∷ es)
one e es h q = ap (λ (b : Bool). cond b (e ∷ filter is_other_fault es) (filter is_other_fault es)) h ∙ q

mapped : (X : Type 0) (f : X → Event) → ((x : X) → is_other_fault (f x) ≡ false) → (xs : List X) → Quiet (map f xs)
mapped X f h [] = refl
mapped X f h (x ∷ xs) = one (f x) (map f xs) (h x) (mapped X f h xs)

flat : (X : Type 0) (f : X → List Event) → ((x : X) → Quiet (f x)) → (xs : List X) → Quiet (flat_map f xs)
flat X f h [] = refl
flat X f h (x ∷ xs) = ap (filter is_other_fault) (flat_map-cons f x xs) ∙ both (f x) (flat_map f xs) (h x) (flat X f h xs)

guarded : (b : Bool) (es : List Event) → Quiet es → Quiet (cond b es [])
guarded true es q = q
guarded false es q = refl

pub unless_so : (b : Bool) (es : List Event) → Quiet es → Quiet (cond b [] es)
unless_so true es q = refl
unless_so false es q = q

-- 2. What ends with a packet in the buffers of a stream

left_kind : (buffer : BufferKind) → is_left (excess_kind buffer) ≡ true
unfolding excess_kind is_left
left_kind Transport = refl
left_kind Multiplexing = refl
left_kind Elementary = refl
left_kind Main = refl
left_kind TableTransport = refl
left_kind System = refl

excess_is_left : (e : BufferExcess) → is_other_fault (found.Excess e) ≡ false
unfolding fault_of buffer_fault is_other
excess_is_left e = ap not (left_kind e.buffer)

excesses : (buffer : BufferKind) (options : ViewOptions) (place : Place) (xs : List Excess) → Quiet (excess_events buffer options place xs)
excesses buffer options place xs = mapped Excess (excess_event buffer options place) (λ x. excess_is_left _) xs

late : (options : ViewOptions) (place : Place) (o : Option UnitSeen) → Quiet (late_events options place o)
unfolding late_events fault_of buffer_fault is_left is_other
late options place None = refl
late options place (Some u) = guarded (is_late u) (late_event options place u ∷ []) refl

ended : (options : ViewOptions) (place : Place) (e : EnteredView) → Quiet (ended_events options place e)
ended options place e =
    both _ _ (excesses Transport options (with_size place tb_size) e.transport)
    (both (excess_events Main options place e.main) (late_events options place e.unit) (excesses Main options place e.main) (late options place e.unit))

late_by : (options : ViewOptions) (place : Place) (u : VideoUnit) (o : Option LateCause) → Quiet (late_events_by options place u o)
unfolding late_events_by fault_of buffer_fault is_left is_other
late_by options place u None = refl
late_by options place u (Some cause) = refl

elementary_late : (options : ViewOptions) (place : Place) (o : Option VideoUnit) → Quiet (elementary_late_events options place o)
unfolding elementary_late_events
elementary_late options place None = refl
elementary_late options place (Some u) = late_by options place u (unit_cause u)

video_ended : (options : ViewOptions) (place : Place) (limits : Option VideoLimits) (e : VideoEnteredView) (unit : Option VideoUnit) →
    Quiet (video_ended_events options place limits e unit)
unfolding video_ended_events
video_ended options place None e unit = refl
video_ended options place (Some limits) e unit =
    both _ _ (excesses Multiplexing options (with_size place limits.multiplexing) e.multiplexing)
    (both _ _ (excesses Elementary options (with_size place limits.elementary) (option_to_list e.elementary)) (elementary_late options place unit))

whole : (options : ViewOptions) (place : Place) (p : Arriving) (sizes : Option VideoSizes) (h : Held) → Quiet (whole_events options place p sizes h)
whole options place p sizes h =
    both _ _ (ended options place (entered h options.arrival p))
    (video_ended options place (limits_of sizes) (video_of sizes h options.arrival p) (video_unit_of sizes h options.arrival p))

delayed : (options : ViewOptions) (place : Place) (buffer : BufferKind) (limit : ℕ) (o : Option Stay) → Quiet (delayed_events options place buffer limit o)
unfolding delayed_events fault_of rule_fault is_left is_other
delayed options place buffer limit None = refl
delayed options place buffer limit (Some s) = refl

-- of the frames of a payload: `p` and `tick` are the payload and when its unit is due
of_frame : (options : ViewOptions) (place : Place) (limit : ℕ) (p : FramedPayload) (tick : ℕ) (h : Held) (f : FramePart) →
    Quiet (frame_events options place (place_of limit p tick) h f)
of_frame options place limit p tick h f =
    both _ _ (ended options place (entered_part h options.arrival (part_of options (place_of limit p tick) h f)))
    (delayed options place Main limit
    (overstay_of options limit (part_of options (place_of limit p tick) h f).byte (frame_tick (unwrap_or p.tick tick) f)))

of_frames : (options : ViewOptions) (place : Place) (limit : ℕ) (p : FramedPayload) (tick : ℕ) (h : Held) (fs : List FramePart) →
    Quiet (frames_events options place (place_of limit p tick) h fs)
unfolding frames_events
of_frames options place limit p tick h [] = refl
of_frames options place limit p tick h (f ∷ fs) =
    both (frame_events options place (place_of limit p tick) h f)
    (frames_events options place (place_of limit p tick) (after_part h options.arrival (part_of options (place_of limit p tick) h f)) fs)
    (of_frame options place limit p tick h f)
    (of_frames options place limit p tick (after_part h options.arrival (part_of options (place_of limit p tick) h f)) fs)

payload : (options : ViewOptions) (place : Place) (limit : ℕ) (p : FramedPayload) (w : WalkView) (tick : ℕ) (h : Held) →
    Quiet (payload_events options place limit p w tick h)
payload options place limit p w tick h =
    both _ _ (ended options place (entered_first h options.arrival p.arriving (min (count_of p w) (size_of p.arriving))))
    (of_frames options place limit p tick (front_held options p w h) (frames_among p w))

entering : (options : ViewOptions) (index : ℕ) (clock : Option PcrSample) (place : Place) (e : EntryState) (packet : PacketView) (o : Option Framed) →
    Quiet (events_entered options index clock place e packet o)
unfolding events_entered
entering options index clock place e packet None = whole options place (arriving_at options index clock e packet) e.video e.held
entering options index clock place e packet (Some f) =
    payload options place e.limit (payload_at options index clock e.last packet f) f.walk f.tick f.held

busy : (options : ViewOptions) (place : Place) (buffer : BufferKind) (before after : BusyWatch) → Quiet (busy_ended options place buffer before after)
unfolding fault_of rule_fault is_left is_other
busy options place buffer before after = guarded (nat_lt before.count after.count) (busy_event options place buffer after.last ∷ []) refl

leak : (options : ViewOptions) (place : Place) (a b : Option BusyWatch) → Quiet (leak_ended options place a b)
unfolding leak_ended
leak options place None b = refl
leak options place (Some w) None = refl
leak options place (Some w) (Some v) = busy options place Multiplexing w v

stays : (options : ViewOptions) (place : Place) (sizes : Option VideoSizes) (h g : Held) →
    Quiet (stays_ended options place (busy_seen sizes h) (busy_seen sizes g))
stays options place sizes h g =
    both _ _ (busy options place Transport (transport_busy h) (transport_busy g)) (leak options place (leak_busy_of sizes h) (leak_busy_of sizes g))

ahead : (place : Place) (o : Option ℕ) → Quiet (ahead_events place o)
unfolding ahead_events fault_of buffer_fault is_left is_other
ahead place None = refl
ahead place (Some n) = refl

entry : (options : ViewOptions) (index : ℕ) (clock : Option PcrSample) (e : EntryState) (packet : PacketView) →
    Quiet (entry_events options index clock e packet)
entry options index clock e packet =
    both _ _ (ahead (place_at index e) (ahead_by clock (beginning_in e.last packet)))
    (both _ _ (delayed options (place_at index e) (last_buffer e.video) e.limit (unit_stay options index clock e.limit e.last packet))
    (both _ _ (entering options index clock (place_at index e) e packet e.framed)
    (stays options (place_at index e) e.video (seen_held e) (held_after options index clock e packet e.framed))))

entry_if : (options : ViewOptions) (index : ℕ) (clocks : ClockEntries) (packet : PacketView) (o : Option EntryState) →
    Quiet (events_in options index clocks packet o)
unfolding events_in
entry_if options index clocks packet None = refl
entry_if options index clocks packet (Some e) = entry options index (clock_of clocks e.clock_pid) e packet

at_place : (options : ViewOptions) (index : ℕ) (clocks : ClockEntries) (t : TableState) (packet : PacketView) (o : Option ℕ) →
    Quiet (events_if options index clocks t packet o)
unfolding events_if
at_place options index clocks t packet None = refl
at_place options index clocks t packet (Some place) = entry_if options index clocks packet (slice_get t.entries place)

pub of_streams : (options : ViewOptions) (index : ℕ) (clocks : ClockEntries) (t : TableState) (packet : PacketView) →
    Quiet (events_of options index clocks t packet)
of_streams options index clocks t packet = at_place options index clocks t packet (lookup (nat_eq packet.header.pid) t.places)

pub begins_if : (index : ℕ) (t : TableState) (packet : PacketView) (o : Option FoundStreamView) → Quiet (begin_events_if index t packet o)
unfolding begin_events_if fault_of buffer_fault is_left is_other
begins_if index t packet None = refl
begins_if index t packet (Some stream) = refl

-- 3. The buffers of programs' tables

pub of_tables : (options : ViewOptions) (choice : ChoiceView) (packet : ℕ) (xs : List TableExcess) → Quiet (of_systems.excess_events options choice packet xs)
of_tables options choice packet xs =
    flat TableExcess (excess_if options choice packet)
    (λ x. guarded (takes choice x.program) (of_systems.excess_event options packet x ∷ [])
    (one (of_systems.excess_event options packet x) [] (excess_is_left _) refl)) xs

-- 4. Windows

clock_window : (s : ClocksState) (window : ℕ) → Quiet (clocks_by_window.window_events s window)
unfolding fault_of rule_fault is_left is_other
clock_window s window =
    guarded (s.number == window) (clocks_by_window.all_events s)
    (mapped (ℕ × PcrCounts) (clocks_by_window.window_event s.number s.drifts) (λ x. refl) s.counts)

pub windows : (s : SeenState) → Quiet (window_ends s)
unfolding fault_of buffer_fault is_left is_other
windows s =
    both (of_windows.window_events s.options s.named s.services.names s.window) (clocks_by_window.window_events s.references s.window.number)
    (mapped (ℕ × PidCounts) (of_windows.window_event s.options s.named s.services.names s.window.number) (λ x. refl) s.window.counts)
    (clock_window s.references s.window.number)

held_of : (window : ℕ) (place : Place) (t : Tally) (h : Held) → Quiet (held_events window place t h)
unfolding fault_of buffer_fault is_left is_other
held_of window place t h = guarded ((t.window == window) && nat_lt 0 t.window_transport) (held_event place t h ∷ []) refl

units_in : (options : ViewOptions) (window : ℕ) (place : Place) (t : Tally) → Quiet (unit_events options window place t)
unfolding fault_of buffer_fault is_left is_other
units_in options window place t = guarded ((t.window == window) && nat_lt 0 t.window_units) (unit_event options place t ∷ []) refl

pub units : (options : ViewOptions) (window : ℕ) (t : TableState) → Quiet (table_units options window t)
units options window t =
    flat EntryState (units_of options window)
    (λ e. both _ _ (held_of window (place_at 0 e) (seen_tally e) (seen_held e)) (units_in options window (place_at 0 e) (seen_tally e))) t.entries

-- 5. Time stamps, and scrambled packets

pts : (o : Option PtsError) → Quiet (pts_events o)
unfolding pts_events fault_of rule_fault is_left is_other
pts None = refl
pts (Some e) = refl

stamped : (stamps : StampState) (index : ℕ) (o : Option ℕ) (named : NamedView) (packet : PacketView) → Quiet (stamp_events stamps index o named packet)
unfolding stamp_events
stamped stamps index None named packet = refl
stamped stamps index (Some place) named packet = pts (error_at stamps index place (said named packet.header.pid) packet)

paused : (named : NamedView) (o : Option ClockFault) → Quiet (gap_event_if named o)
unfolding gap_event_if fault_of rule_fault is_left is_other
paused named None = refl
paused named (Some gap) = guarded (is_watched named gap.pid) (found.ClockFault kinds.PidRepetition gap ∷ []) refl

pauses : (gaps : GapState) (index : ℕ) (o : Option ℕ) (named : NamedView) (pid : ℕ) → Quiet (gap_events gaps index o named pid)
unfolding gap_events
pauses gaps index None named pid = refl
pauses gaps index (Some place) named pid = paused named (gap_at gaps pid index place)

pub of_rules : (s : RuleState) (arrival : Arrival) (index : ℕ) (named : NamedView) (packet : PacketView) → Quiet (packet_events s arrival index named packet)
unfolding fault_of rule_fault is_left is_other
of_rules s arrival index named packet =
    both (stamp_events s.stamps index (place_in arrival index) named packet) _ (stamped s.stamps index (place_in arrival index) named packet)
    (both (gap_events s.gaps index (place_in arrival index) named packet.header.pid) (scrambled_events index named packet)
    (pauses s.gaps index (place_in arrival index) named packet.header.pid)
    (guarded (is_scrambled packet && is_map (label_of named packet.header.pid).coding)
    (found.Rule (rules.ScrambledTable (record { pid = packet.header.pid; packet = index })) ∷ []) refl))
