-- A stream that the tables name: its PID, the PID of its program's clock references, its last payload, its buffers by PES packets, and their counts;
-- for video the sizes of its two buffers, if they are viewed, and their counts; for sound its buffers by access units, if these are viewed; how long a
-- byte may stay in them, and how many units had bytes that stayed longer; and the counts of its units' marks.
use Rattle.std.specs.Prelude.{◌≡◌, ℕ, ◌+◌, ◌-◌, ◌/◌, ◌^◌, ◌==◌, ◌&&◌, min, not, is_some, nat_le, nat_lt, unwrap_or, Bool, true, false, if◌then◌else◌, length}
use Rattle.std.specs.Prelude.{List, [], ◌++◌, Option, Some, None}
use Rattle.ts_packet.specs.Views.{PacketView}
use Rattle.arrival.specs.Arrivals.{step_of}
use Rattle.arrival.specs.Clock.{pcr_period}
use Rattle.arrival.specs.declared.clock.PcrSample.{PcrSample}
use Rattle.tstd_rows.specs.declared.unit_seen.DueTime.{DueTime}
use Rattle.tstd_rows.specs.Held.{Held, IsHeld, main_most, transport_busy, transport_busy_under_way, transport_most, unit_before}
use Rattle.tstd_rows.specs.Limits.{tb_size}
use Rattle.tstd_rows.specs.Entering.{EnteredView, after, entered}
use Rattle.tstd_rows.specs.HeldVideo.{HoldsVideoOf, VideoSizes}
use Rattle.tstd_rows.specs.declared.arriving.Arriving.{Arriving}
use Rattle.events.specs.declared.event.Event.{Event}
use Rattle.es_events.specs.declared.view_options.ViewOptions.{ViewOptions}
use Rattle.es_events.specs.declared.clocks.Beginning.{Beginning}
use Rattle.es_events.specs.declared.clocks.Beginning.TheVariants.{Nothing, Unread, Stamped}
use Rattle.es_view.specs.LastPayloads.{LastView, is_repeated, kept}
use Rattle.es_view.specs.declared.stream_entry.StreamEntry.{StreamEntry}
use Rattle.es_events.specs.declared.tally.Tally.{Tally}
use Rattle.es_events.specs.Clocks.{ahead_of, beginning_of, due_at, longest_stay}
use Rattle.es_events.specs.EntryEvents.{ahead_events, closing_events, ended_events}
use Rattle.es_view.specs.HeldEvents.{tally_events}
use Rattle.es_events.specs.TraceEvents.{trace_events, video_trace_events}
use Rattle.es_events.specs.MarkTallies.{mark_events, with_beginning}
use Rattle.es_events.specs.declared.mark_tally.MarkTally.{MarkTally}
use Rattle.es_events.specs.Tallies.{more, tally_with, with_unit_if}
use Rattle.es_events.specs.EntryStays.{busy_closing, delayed_events, is_idle, overstay_if, payload_byte}
use Rattle.es_view.specs.EntryFrames.{Counted, FramedPayload, busy_seen, frame_bytes, frames_among, frames_held, front_held, is_leak_idle, leak_busy_of}
use Rattle.es_view.specs.EntryFrames.{leak_under_way, payload_after, payload_events, place_of, stays_ended, unit_tick, video_counted, walk_in, whole_events}
use Rattle.es_view.specs.declared.entry_frames.EntryFrames.{EntryFrames}
use Rattle.sound_frames.specs.FrameWalks.{WalkView, walk_after}
use Rattle.events.specs.declared.rule_event.BufferKind.{BufferKind}
use Rattle.events.specs.declared.rule_event.BufferKind.TheVariants.{Elementary, Main, Multiplexing, Transport}
use Rattle.tstd_rows.specs.declared.busy_watch.Stay.{Stay}
use Rattle.es_events.specs.declared.entry_events.Place.{Place}
use Rattle.es_events.specs.declared.video_tally.VideoTally.{VideoTally}
use Rattle.es_events.specs.VideoEvents.{video_closing_events, video_ended_events}
use Rattle.es_events.specs.VideoFigures.{figures_of, is_video_good, limits_of}

-- a stream of sound by access units: the walk over its frames, when its unit is due, its buffers, and their counts
pub record Framed : Type 0 where
  pub walk : WalkView
  pub tick : ℕ
  pub held : Held
  pub tally : Tally

pub record EntryState : Type 0 where
  pub pid : ℕ
  pub clock_pid : ℕ
  pub last : LastView
  pub held : Held
  pub tally : Tally
  pub video : Option VideoSizes
  pub video_tally : VideoTally
  pub mark_tally : MarkTally
  pub framed : Option Framed
  pub limit : ℕ
  pub delayed : ℕ

-- the buffers that are viewed: by access units for sound viewed so, otherwise by PES packets
unfoldable pub held_in : Option Framed → Held → Held
held_in None h = h
held_in (Some f) h = f.held

unfoldable pub tally_in : Option Framed → Tally → Tally
tally_in None t = t
tally_in (Some f) t = f.tally

abbrev pub seen_held : EntryState → Held
seen_held e = held_in e.framed e.held

abbrev pub seen_tally : EntryState → Tally
seen_tally e = tally_in e.framed e.tally

-- the walk over frames of a stream that is viewed so
unfoldable pub AreFrames : Option EntryFrames → Option Framed → Type 0
AreFrames None None = Unit {0}
AreFrames None (Some f) = ⊥
AreFrames (Some frames) None = ⊥
AreFrames (Some frames) (Some f) = (frames.walk ≡ f.walk) × (frames.tick ≡ f.tick)

pub record IsEntry (entry : StreamEntry) (e : EntryState) : Type 0 where
  pub pid : entry.pid ≡ e.pid
  pub clock_pid : entry.clock_pid ≡ e.clock_pid
  pub last : entry.last ≡ e.last
  pub held : IsHeld entry.seen.buffers (seen_held e)
  pub tally : entry.seen.tally ≡ seen_tally e
  pub video : HoldsVideoOf entry.seen.buffers e.video (seen_held e)
  pub video_tally : entry.video_tally ≡ e.video_tally
  pub mark_tally : entry.mark_tally ≡ e.mark_tally
  pub frames : AreFrames entry.frames e.framed
  pub limit : entry.limit ≡ e.limit
  pub delayed : entry.seen.delayed ≡ e.delayed

-- 1. What a packet is to its buffers

-- the unit that begins with a packet: none in a duplicate packet
abbrev pub beginning_in : LastView → PacketView → Beginning
beginning_in last packet = if is_repeated last packet then Nothing else beginning_of packet

-- when a unit is due that begins with it: before the first clock reference none has begun
unfoldable pub due_by : ViewOptions → ℕ → Option PcrSample → Beginning → Option DueTime
due_by options rx None beginning = None
due_by options rx (Some clock) Nothing = None
due_by options rx (Some clock) Unread = None
due_by options rx (Some clock) (Stamped dts) = Some (due_at (step_of options.arrival) rx clock dts)

-- how long it would stay, where that is longer than any unit may
unfoldable pub ahead_by : Option PcrSample → Beginning → Option ℕ
ahead_by None beginning = None
ahead_by (Some clock) Nothing = None
ahead_by (Some clock) Unread = None
ahead_by (Some clock) (Stamped dts) =
    if nat_lt longest_stay (ahead_of clock dts) && nat_lt (ahead_of clock dts) (pcr_period / 2) then Some (ahead_of clock dts) else None

unfoldable pub is_unread : Beginning → Bool
is_unread Nothing = false
is_unread Unread = true
is_unread (Stamped dts) = false

abbrev pub arriving : ViewOptions → ℕ → ℕ → LastView → Option PcrSample → PacketView → Arriving
arriving options index rx last clock packet = record {
  index = index;
  size = length (unwrap_or packet.payload []);
  begins = due_by options rx clock (beginning_in last packet);
  enters = not (is_repeated last packet);
}

-- 2. After a packet

abbrev pub arriving_at : ViewOptions → ℕ → Option PcrSample → EntryState → PacketView → Arriving
arriving_at options index clock e packet = arriving options index e.held.rx e.last clock packet

abbrev pub entered_at : ViewOptions → ℕ → Option PcrSample → EntryState → PacketView → EnteredView
entered_at options index clock e packet = entered e.held options.arrival (arriving_at options index clock e packet)

-- the counts after a packet
abbrev pub counted_tally : ViewOptions → ℕ → ℕ → Option PcrSample → EntryState → PacketView → Tally
counted_tally options index window clock e packet =
    tally_with e.tally window (is_unread (beginning_in e.last packet)) (after e.held options.arrival (arriving_at options index clock e packet)) index
    (entered_at options index clock e packet)

-- a packet of sound that is viewed by access units

abbrev pub payload_of : ViewOptions → ℕ → ℕ → LastView → Option PcrSample → PacketView → FramedPayload
payload_of options index rx last clock packet = record {
  arriving = arriving options index rx last clock packet;
  base = payload_byte index (length (unwrap_or packet.payload []));
  tick = unit_tick options clock (beginning_in last packet);
  beginning = beginning_in last packet;
  bytes = frame_bytes (is_repeated last packet) packet;
}

abbrev pub payload_at : ViewOptions → ℕ → Option PcrSample → LastView → PacketView → Framed → FramedPayload
payload_at options index clock last packet f = payload_of options index f.held.rx last clock packet

abbrev pub counted_at : ViewOptions → ℕ → ℕ → Option PcrSample → ℕ → LastView → ℕ → PacketView → Framed → Counted
counted_at options index window clock limit last delayed packet f =
    payload_after options window (is_unread (beginning_in last packet)) limit (payload_at options index clock last packet f) f.walk f.tick
    (record { held = f.held; tally = f.tally; delayed = delayed })

abbrev pub framed_with : ViewOptions → ℕ → ℕ → Option PcrSample → ℕ → LastView → ℕ → PacketView → Framed → Framed
framed_with options index window clock limit last delayed packet f = record {
  walk = walk_after (walk_in (payload_at options index clock last packet f) f.walk) (frame_bytes (is_repeated last packet) packet);
  tick = unwrap_or (unit_tick options clock (beginning_in last packet)) f.tick;
  held = (counted_at options index window clock limit last delayed packet f).held;
  tally = (counted_at options index window clock limit last delayed packet f).tally;
}

unfoldable pub framed_after : ViewOptions → ℕ → ℕ → Option PcrSample → ℕ → LastView → ℕ → PacketView → Option Framed → Option Framed
framed_after options index window clock limit last delayed packet None = None
framed_after options index window clock limit last delayed packet (Some f) = Some (framed_with options index window clock limit last delayed packet f)

-- how many units have had bytes that stay too long: the first byte of a unit that begins stays longest, and of each frame its own first byte
abbrev pub unit_stay : ViewOptions → ℕ → Option PcrSample → ℕ → LastView → PacketView → Option Stay
unit_stay options index clock limit last packet =
    overstay_if options limit (payload_byte index (length (unwrap_or packet.payload []))) (unit_tick options clock (beginning_in last packet))

unfoldable pub parts_delayed : ViewOptions → ℕ → ℕ → Option PcrSample → ℕ → LastView → ℕ → PacketView → Option Framed → ℕ
parts_delayed options index window clock limit last delayed packet None = delayed
parts_delayed options index window clock limit last delayed packet (Some f) = (counted_at options index window clock limit last delayed packet f).delayed

abbrev pub delayed_after : ViewOptions → ℕ → ℕ → Option PcrSample → ℕ → LastView → ℕ → PacketView → Option Framed → ℕ
delayed_after options index window clock limit last delayed packet framed =
    more (parts_delayed options index window clock limit last delayed packet framed)
    (if is_some (unit_stay options index clock limit last packet) then 1 else 0)

-- the two buffers of video are viewed of streams that are not viewed by access units
unfoldable pub video_tally_after : ViewOptions → ℕ → Option PcrSample → Option Framed → EntryState → PacketView → VideoTally
video_tally_after options index clock None e packet = video_counted e.video_tally e.video e.held options.arrival (arriving_at options index clock e packet)
video_tally_after options index clock (Some f) e packet = e.video_tally

-- the packet has entered the buffers
abbrev pub entry_entered : ViewOptions → ℕ → ℕ → Option PcrSample → EntryState → PacketView → EntryState
entry_entered options index window clock e packet = record {
  pid = e.pid;
  clock_pid = e.clock_pid;
  last = e.last;
  held = after e.held options.arrival (arriving_at options index clock e packet);
  tally = counted_tally options index window clock e packet;
  video = e.video;
  video_tally = video_tally_after options index clock e.framed e packet;
  mark_tally = e.mark_tally;
  framed = framed_after options index window clock e.limit e.last e.delayed packet e.framed;
  limit = e.limit;
  delayed = parts_delayed options index window clock e.limit e.last e.delayed packet e.framed;
}

-- the stream after a packet
abbrev pub entry_after : ViewOptions → ℕ → ℕ → Option PcrSample → EntryState → PacketView → EntryState
entry_after options index window clock e packet = record {
  pid = e.pid;
  clock_pid = e.clock_pid;
  last = kept e.last packet;
  held = after e.held options.arrival (arriving_at options index clock e packet);
  tally = counted_tally options index window clock e packet;
  video = e.video;
  video_tally = video_tally_after options index clock e.framed e packet;
  mark_tally = with_beginning e.mark_tally (beginning_in e.last packet) packet;
  framed = framed_after options index window clock e.limit e.last e.delayed packet e.framed;
  limit = e.limit;
  delayed = delayed_after options index window clock e.limit e.last e.delayed packet e.framed;
}

-- 3. At the end: the counts, with the current unit as the last unit

abbrev pub closed : ℕ → EntryState → Tally
closed window e = with_unit_if e.tally window (unit_before e.held)

abbrev pub closed_seen : ℕ → EntryState → Tally
closed_seen window e = with_unit_if (seen_tally e) window (unit_before (seen_held e))

-- 4. Its events

abbrev pub place_at : ℕ → EntryState → Place
place_at packet e = record { pid = e.pid; packet = packet; rx = (seen_held e).rx; size = (seen_held e).main.size }

-- the events of a packet: for units that begin with it, and for excesses and units that end
unfoldable pub events_entered : ViewOptions → ℕ → Option PcrSample → Place → EntryState → PacketView → Option Framed → List Event
events_entered options index clock place e packet None = whole_events options place (arriving_at options index clock e packet) e.video e.held
events_entered options index clock place e packet (Some f) =
    payload_events options place e.limit (payload_at options index clock e.last packet f) f.walk f.tick f.held

-- the last buffer of a byte before it is decoded
unfoldable pub last_buffer : Option VideoSizes → BufferKind
last_buffer None = Main
last_buffer (Some sizes) = Elementary

-- the buffers after a packet
unfoldable pub held_after : ViewOptions → ℕ → Option PcrSample → EntryState → PacketView → Option Framed → Held
held_after options index clock e packet None = after e.held options.arrival (arriving_at options index clock e packet)
held_after options index clock e packet (Some f) =
    frames_held options (place_of e.limit (payload_at options index clock e.last packet f) f.tick)
    (front_held options (payload_at options index clock e.last packet f) f.walk f.held)
    (frames_among (payload_at options index clock e.last packet f) f.walk)

abbrev pub entry_events : ViewOptions → ℕ → Option PcrSample → EntryState → PacketView → List Event
entry_events options index clock e packet =
    ahead_events (place_at index e) (ahead_by clock (beginning_in e.last packet))
    ++ (delayed_events options (place_at index e) (last_buffer e.video) e.limit (unit_stay options index clock e.limit e.last packet)
    ++ (events_entered options index clock (place_at index e) e packet e.framed
    ++ stays_ended options (place_at index e) (busy_seen e.video (seen_held e)) (busy_seen e.video (held_after options index clock e packet e.framed))))

-- the events of a window
abbrev pub units_of : ViewOptions → ℕ → EntryState → List Event
units_of options window e = tally_events options window (place_at 0 e) (seen_tally e) (seen_held e)

-- the events of stays at the end
abbrev pub stays_closing : ViewOptions → Place → EntryState → List Event
stays_closing options place e =
    busy_closing options place Transport (transport_busy_under_way (seen_held e))
    ++ busy_closing options place Multiplexing (leak_under_way e.video (seen_held e))

-- the totals of its buffers, with a tally
abbrev pub totals_of : ViewOptions → Place → Tally → EntryState → List Event
totals_of options place tally e =
    closing_events options place (seen_held e) tally
    ++ (video_closing_events options place (figures_of e.video (seen_held e)) tally.units e.video_tally
    ++ (stays_closing options place e ++ mark_events e.pid e.mark_tally))

abbrev pub end_events : ViewOptions → ℕ → ℕ → EntryState → List Event
end_events options packets window e =
    tally_events options window (place_at packets e) (closed_seen window e) (seen_held e)
    ++ totals_of options (place_at packets e) (closed_seen window e) e

-- events with the bytes in its buffers near the greatest excess of each
abbrev pub traces_of : ViewOptions → EntryState → List Event
traces_of options e =
    trace_events options (place_at 0 e) (seen_tally e).traces ++ video_trace_events options (place_at 0 e) (limits_of e.video) e.video_tally.traces

-- no buffer held more than its size, and no unit was late: the same of the two buffers of video, if they are viewed
abbrev pub is_sound : EntryState → Bool
is_sound e = nat_le (transport_most (seen_held e)) tb_size && (nat_le (main_most (seen_held e)) (seen_held e).main.size && (closed_seen 0 e).late == 0)

-- no byte stayed too long, and no buffer was not empty for more than a second
abbrev pub is_timely : EntryState → Bool
is_timely e =
    e.delayed == 0
    && (is_idle (transport_busy (seen_held e)) (transport_busy_under_way (seen_held e))
    && is_leak_idle (leak_busy_of e.video (seen_held e)) (leak_under_way e.video (seen_held e)))

abbrev pub is_good : EntryState → Bool
is_good e = is_sound e && (is_video_good (figures_of e.video (seen_held e)) e.video_tally && is_timely e)
