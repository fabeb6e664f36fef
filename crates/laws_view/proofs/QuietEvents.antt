-- Events for which the monitor has no rule: events of windows, of buffers, and of further checks.
use Rattle.std.proofs.Common.{◌≡◌, ◌∙◌, ℕ, ◌==◌, Bool, true, false, cond, nat_eq, List, [], ◌∷◌, ◌++◌, map, Option, Some, None, refl, ap, ap₂, append-nil}
use Rattle.std.specs.Prelude.{◌&&◌, min, nat_lt, slice_get}
use Rattle.std.specs.List.{filter_map, flat_map}
use Rattle.std.specs.Map.{lookup}
use Rattle.std.specs.Option.{option_to_list}
use Rattle.std.proofs.lemmas.List.Elements.{filter_map-append}
use Rattle.ts_packet.specs.Views.{PacketView}
use Rattle.tr101290.specs.Windows.{WindowView}
use Rattle.arrival.specs.declared.clock.PcrSample.{PcrSample}
use Rattle.sound_frames.specs.declared.frame_walk.FramePart.{FramePart}
use Rattle.sound_frames.specs.FrameWalks.{WalkView}
use Rattle.stream_programs.specs.Streams.{FoundStreamView}
use Rattle.ts_tables.specs.NamedStreams.{NamedView}
use Rattle.ts_tables.specs.ServiceNames.{NameState}
use Rattle.system_tables.specs.declared.table_excess.TableExcess.{TableExcess}
use Rattle.tstd_rows.specs.Limits.{tb_size}
use Rattle.tstd_rows.specs.Held.{Held, transport_busy}
use Rattle.tstd_rows.specs.HeldVideo.{VideoEnteredView, VideoSizes}
use Rattle.tstd_rows.specs.EnteringVideo.{video_of, video_unit_of}
use Rattle.tstd_rows.specs.VideoViewed.{unit_cause}
use Rattle.tstd_rows.specs.Entering.{EnteredView, after_part, entered, entered_first, entered_part, size_of}
use Rattle.tstd_rows.specs.declared.arriving.Arriving.{Arriving}
use Rattle.tstd_rows.specs.declared.busy_watch.BusyWatch.{BusyWatch}
use Rattle.tstd_rows.specs.declared.busy_watch.Stay.{Stay}
use Rattle.tstd_rows.specs.declared.excess.Excess.{Excess}
use Rattle.tstd_rows.specs.declared.late_causes.LateCause.{LateCause}
use Rattle.tstd_rows.specs.declared.late_causes.VideoUnit.{VideoUnit}
use Rattle.tstd_rows.specs.declared.unit_seen.UnitSeen.{UnitSeen}
use Rattle.events.specs.declared.event.Event.{Event}
use Rattle.events.specs.declared.rule_event.BufferKind.{BufferKind}
use Rattle.events.specs.declared.rule_event.BufferKind.TheVariants as buffers
use Rattle.es_events.specs.declared.entry_events.Place.{Place}
use Rattle.es_events.specs.declared.tally.Tally.{Tally}
use Rattle.es_events.specs.declared.video_tally.VideoLimits.{VideoLimits}
use Rattle.es_events.specs.declared.view_options.ViewOptions.{ViewOptions}
use Rattle.es_events.specs.Clocks.{ClockEntries, clock_of}
use Rattle.es_events.specs.Tallies.{is_late}
use Rattle.es_events.specs.EntryEvents.{ahead_events, ended_events, excess_event, late_event, late_events, with_size}
use Rattle.es_events.specs.VideoEvents.{elementary_late_events, events_of_both, late_events_by, video_ended_events}
use Rattle.es_events.specs.VideoFigures.{limits_of}
use Rattle.es_view.specs.HeldEvents.{held_event, tally_events, unit_event}
use Rattle.es_events.specs.EntryStays.{busy_ended, busy_event, delayed_events, overstay_of}
use Rattle.es_view.specs.EntryFrames.{FramedPayload, busy_seen, count_of, frame_events, frames_among, frames_events, front_events, front_held, leak_busy_of}
use Rattle.es_view.specs.EntryFrames.{leak_ended}
use Rattle.es_view.specs.EntryFrames.{part_of, payload_events, place_of, stays_ended, whole_events, frame_tick}
use Rattle.es_view.specs.Entries.{EntryState, Framed, ahead_by, arriving_at, beginning_in, entry_events, events_entered, held_after, last_buffer, payload_at}
use Rattle.es_view.specs.Entries.{place_at, seen_held, seen_tally, unit_stay, units_of}
use Rattle.ts_watch.specs.Choices.{ChoiceView, takes}
use Rattle.ts_watch.specs.SystemEvents.{excess_events, excess_if}
use Rattle.ts_watch.specs.SystemEvents as systems
use Rattle.ts_watch.specs.WindowEvents.{window_event, window_events}
use Rattle.packet_times.specs.ClockWindows.{ClocksState}
use Rattle.packet_times.specs.ClockWindows as clock_windows
use Rattle.ts_report.specs.StreamTables.{TableState, begin_events, begin_events_if, beginning, events_if, events_in, events_of, table_units}
use Rattle.monitor.specs.declared.fault.StreamFault.{StreamFault}
use Rattle.laws_view.specs.ViewedFaults.{fault_in}

-- 1. Lists of events without a rule

abbrev pub Quiet : List Event → Type 0
Quiet events = filter_map fault_in events ≡ []

pub join : (xs ys : List Event) → Quiet xs → Quiet ys → Quiet (xs ++ ys)
join xs ys h k = filter_map-append fault_in xs ys ∙ ap₂ (λ (a b : List StreamFault). a ++ b) h k

-- Events without a rule, before other events or after them, change no fault.
pub quiet_before : (xs ys : List Event) → Quiet xs → filter_map fault_in (xs ++ ys) ≡ filter_map fault_in ys
quiet_before xs ys h = filter_map-append fault_in xs ys ∙ ap (λ (a : List StreamFault). a ++ filter_map fault_in ys) h

pub quiet_after : (xs ys : List Event) → Quiet ys → filter_map fault_in (xs ++ ys) ≡ filter_map fault_in xs
quiet_after xs ys h =
    filter_map-append fault_in xs ys ∙ ap (λ (b : List StreamFault). filter_map fault_in xs ++ b) h ∙ append-nil (filter_map fault_in xs)

pub each : {X : Type 0} (f : X → Event) (xs : List X) → ((x : X) → fault_in (f x) ≡ None) → Quiet (map f xs)
each f [] h = refl
each f (x ∷ xs) h = rw (h x) (each f xs h)

pub all_of : {X : Type 0} (f : X → List Event) (xs : List X) → ((x : X) → Quiet (f x)) → Quiet (flat_map f xs)
all_of f [] h = refl
all_of f (x ∷ xs) h = join (f x) (flat_map f xs) (h x) (all_of f xs h)

pub one_if : (t : Bool) (e : Event) → fault_in e ≡ None → Quiet (cond t (e ∷ []) [])
one_if true e h = rw h refl
one_if false e h = refl

pub one_unless : (t : Bool) (e : Event) → fault_in e ≡ None → Quiet (cond t [] (e ∷ []))
one_unless true e h = refl
one_unless false e h = rw h refl

-- 2. Windows

pub windows : (options : ViewOptions) (named : NamedView) (names : Option (List NameState)) (window : WindowView) →
    Quiet (window_events options named names window)
unfolding fault_in
windows options named names window = each (window_event options named names window.number) window.counts (λ x. refl)

-- Clock references, window by window.
clocks_of : (s : ClocksState) → Quiet (clock_windows.all_events s)
unfolding fault_in
clocks_of s = each (clock_windows.window_event s.number s.drifts) s.counts (λ x. refl)

pub clocks : (s : ClocksState) (window : ℕ) → Quiet (clock_windows.window_events s window)
clocks s window = by (s.number == window) (clocks_of s)
  where
    by : (t : Bool) → Quiet (clock_windows.all_events s) → Quiet (cond t (clock_windows.all_events s) [])
    by true h = h
    by false h = refl

pub tallies : (options : ViewOptions) (window : ℕ) (place : Place) (t : Tally) (h : Held) → Quiet (tally_events options window place t h)
unfolding fault_in
tallies options window place t h =
    join (cond ((t.window == window) && nat_lt 0 t.window_transport) (held_event place t h ∷ []) [])
    (cond ((t.window == window) && nat_lt 0 t.window_units) (unit_event options place t ∷ []) [])
    (one_if ((t.window == window) && nat_lt 0 t.window_transport) (held_event place t h) refl)
    (one_if ((t.window == window) && nat_lt 0 t.window_units) (unit_event options place t) refl)

pub units : (options : ViewOptions) (window : ℕ) (t : TableState) → Quiet (table_units options window t)
units options window t = all_of (units_of options window) t.entries (λ e. tallies options window (place_at 0 e) (seen_tally e) (seen_held e))

-- 3. Buffers of streams

pub lates : (options : ViewOptions) (place : Place) (u : Option UnitSeen) → Quiet (late_events options place u)
unfolding late_events fault_in
lates options place None = refl
lates options place (Some u) = one_if (is_late u) (late_event options place u) refl

ends : (options : ViewOptions) (place : Place) (e : EnteredView) → Quiet (ended_events options place e)
unfolding fault_in
ends options place e =
    join (map (excess_event buffers.Transport options (with_size place tb_size)) e.transport) _
    (each (excess_event buffers.Transport options (with_size place tb_size)) e.transport (λ x. refl))
    (join (map (excess_event buffers.Main options place) e.main) (late_events options place e.unit)
    (each (excess_event buffers.Main options place) e.main (λ x. refl)) (lates options place e.unit))

aheads : (place : Place) (o : Option ℕ) → Quiet (ahead_events place o)
unfolding ahead_events fault_in
aheads place None = refl
aheads place (Some ahead) = refl

delays : (options : ViewOptions) (place : Place) (buffer : BufferKind) (limit : ℕ) (o : Option Stay) → Quiet (delayed_events options place buffer limit o)
unfolding delayed_events fault_in
delays options place buffer limit None = refl
delays options place buffer limit (Some s) = refl

causes_of : (options : ViewOptions) (place : Place) (u : VideoUnit) (o : Option LateCause) → Quiet (late_events_by options place u o)
unfolding late_events_by fault_in
causes_of options place u None = refl
causes_of options place u (Some cause) = refl

video_lates : (options : ViewOptions) (place : Place) (o : Option VideoUnit) → Quiet (elementary_late_events options place o)
unfolding elementary_late_events
video_lates options place None = refl
video_lates options place (Some u) = causes_of options place u (unit_cause u)

pub of_both : (options : ViewOptions) (place : Place) (limits : VideoLimits) (multiplexing : List Excess) (elementary : Option Excess) (unit : Option VideoUnit)
    →
    Quiet (events_of_both options place limits multiplexing elementary unit)
unfolding fault_in
of_both options place limits multiplexing elementary unit =
    join (map (excess_event buffers.Multiplexing options (with_size place limits.multiplexing)) multiplexing) _
    (each (excess_event buffers.Multiplexing options (with_size place limits.multiplexing)) multiplexing (λ x. refl))
    (join (map (excess_event buffers.Elementary options (with_size place limits.elementary)) (option_to_list elementary))
    (elementary_late_events options place unit)
    (each (excess_event buffers.Elementary options (with_size place limits.elementary)) (option_to_list elementary) (λ x. refl))
    (video_lates options place unit))

video_ends : (options : ViewOptions) (place : Place) (limits : Option VideoLimits) (e : VideoEnteredView) (unit : Option VideoUnit) →
    Quiet (video_ended_events options place limits e unit)
unfolding video_ended_events
video_ends options place None e unit = refl
video_ends options place (Some limits) e unit = of_both options place limits e.multiplexing e.elementary unit

wholes : (options : ViewOptions) (place : Place) (p : Arriving) (sizes : Option VideoSizes) (h : Held) → Quiet (whole_events options place p sizes h)
wholes options place p sizes h =
    join (ended_events options place (entered h options.arrival p)) _ (ends options place (entered h options.arrival p))
    (video_ends options place (limits_of sizes) (video_of sizes h options.arrival p) (video_unit_of sizes h options.arrival p))

frames : (options : ViewOptions) (place : Place) (limit : ℕ) (payload : FramedPayload) (tick : ℕ) (h : Held) (ps : List FramePart) →
    Quiet (frames_events options place (place_of limit payload tick) h ps)
unfolding frames_events
frames options place limit payload tick h [] = refl
frames options place limit payload tick h (p ∷ ps) =
    let at = place_of limit payload tick in
    join (frame_events options place at h p) (frames_events options place at (after_part h options.arrival (part_of options at h p)) ps)
    (join (ended_events options place (entered_part h options.arrival (part_of options at h p))) _
    (ends options place (entered_part h options.arrival (part_of options at h p)))
    (delays options place buffers.Main at.limit (overstay_of options at.limit (part_of options at h p).byte (frame_tick at.tick p))))
    (frames options place limit payload tick (after_part h options.arrival (part_of options at h p)) ps)

payloads : (options : ViewOptions) (place : Place) (limit : ℕ) (p : FramedPayload) (w : WalkView) (tick : ℕ) (h : Held) →
    Quiet (payload_events options place limit p w tick h)
payloads options place limit p w tick h =
    join (front_events options place p.arriving (count_of p w) h) _
    (ends options place (entered_first h options.arrival p.arriving (min (count_of p w) (size_of p.arriving))))
    (frames options place limit p tick (front_held options p w h) (frames_among p w))

busy_ends : (options : ViewOptions) (place : Place) (buffer : BufferKind) (before after : BusyWatch) → Quiet (busy_ended options place buffer before after)
unfolding fault_in
busy_ends options place buffer before after = one_if (nat_lt before.count after.count) (busy_event options place buffer after.last) refl

leaks : (options : ViewOptions) (place : Place) (before after : Option BusyWatch) → Quiet (leak_ended options place before after)
unfolding leak_ended
leaks options place None after = refl
leaks options place (Some w) None = refl
leaks options place (Some w) (Some v) = busy_ends options place buffers.Multiplexing w v

stays : (options : ViewOptions) (place : Place) (sizes : Option VideoSizes) (before after : Held) →
    Quiet (stays_ended options place (busy_seen sizes before) (busy_seen sizes after))
stays options place sizes before after =
    join (busy_ended options place buffers.Transport (transport_busy before) (transport_busy after)) _
    (busy_ends options place buffers.Transport (transport_busy before) (transport_busy after))
    (leaks options place (leak_busy_of sizes before) (leak_busy_of sizes after))

entering : (options : ViewOptions) (index : ℕ) (clock : Option PcrSample) (place : Place) (e : EntryState) (packet : PacketView) (f : Option Framed) →
    Quiet (events_entered options index clock place e packet f)
unfolding events_entered
entering options index clock place e packet None = wholes options place (arriving_at options index clock e packet) e.video e.held
entering options index clock place e packet (Some f) = payloads options place e.limit (payload_at options index clock e.last packet f) f.walk f.tick f.held

entries : (options : ViewOptions) (index : ℕ) (clock : Option PcrSample) (e : EntryState) (packet : PacketView) →
    Quiet (entry_events options index clock e packet)
entries options index clock e packet =
    join (ahead_events (place_at index e) (ahead_by clock (beginning_in e.last packet))) _
    (aheads (place_at index e) (ahead_by clock (beginning_in e.last packet)))
    (join (delayed_events options (place_at index e) (last_buffer e.video) e.limit (unit_stay options index clock e.limit e.last packet)) _
    (delays options (place_at index e) (last_buffer e.video) e.limit (unit_stay options index clock e.limit e.last packet))
    (join (events_entered options index clock (place_at index e) e packet e.framed) _ (entering options index clock (place_at index e) e packet e.framed)
    (stays options (place_at index e) e.video (seen_held e) (held_after options index clock e packet e.framed))))

-- 4. The streams of a report

entries_in : (options : ViewOptions) (index : ℕ) (clocks : ClockEntries) (packet : PacketView) (o : Option EntryState) →
    Quiet (events_in options index clocks packet o)
unfolding events_in
entries_in options index clocks packet None = refl
entries_in options index clocks packet (Some e) = entries options index (clock_of clocks e.clock_pid) e packet

entries_if : (options : ViewOptions) (index : ℕ) (clocks : ClockEntries) (t : TableState) (packet : PacketView) (o : Option ℕ) →
    Quiet (events_if options index clocks t packet o)
unfolding events_if
entries_if options index clocks t packet None = refl
entries_if options index clocks t packet (Some place) = entries_in options index clocks packet (slice_get t.entries place)

pub streams : (options : ViewOptions) (index : ℕ) (clocks : ClockEntries) (t : TableState) (packet : PacketView) →
    Quiet (events_of options index clocks t packet)
streams options index clocks t packet = entries_if options index clocks t packet (lookup (nat_eq packet.header.pid) t.places)

begins_if : (index : ℕ) (t : TableState) (packet : PacketView) (o : Option FoundStreamView) → Quiet (begin_events_if index t packet o)
unfolding begin_events_if fault_in
begins_if index t packet None = refl
begins_if index t packet (Some stream) = refl

pub begins : (index : ℕ) (named : NamedView) (t : TableState) (packet : PacketView) → Quiet (begin_events index named t packet)
begins index named t packet = begins_if index t packet (beginning named t packet)

-- 5. Buffers of tables

pub system : (options : ViewOptions) (choice : ChoiceView) (packet : ℕ) (excesses : List TableExcess) → Quiet (excess_events options choice packet excesses)
unfolding fault_in
system options choice packet excesses =
    all_of (excess_if options choice packet) excesses (λ e. one_if (takes choice e.program) (systems.excess_event options packet e) refl)
