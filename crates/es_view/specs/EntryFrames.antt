-- A stream of sound whose main buffer is viewed by access units: each of its frames leaves the main buffer at its own decoding time, the first
-- frame of a unit at the unit's stamp and together with the header of its PES packet, each further one when the frame before it has sounded
-- (ISO/IEC 13818-1, 2.4.2.3 and 2.7.5). Bytes that are no frames leave with the frame before them.
use Rattle.std.specs.Prelude.{◌≡◌, ℕ, ◌+◌, ◌-◌, ◌*◌, ◌^◌, min, nat_eq, is_some, unwrap_or, Bool, true, false, if◌then◌else◌, length, drop, slice_get, List, []}
use Rattle.std.specs.Prelude.{◌∷◌, ◌++◌, Option, Some, None}
use Rattle.ts_packet.specs.Views.{PacketView}
use Rattle.arrival.specs.Arrivals.{step_of}
use Rattle.arrival.specs.declared.clock.PcrSample.{PcrSample}
use Rattle.sound_frames.specs.declared.frame_walk.FramePart.{FramePart}
use Rattle.sound_frames.specs.FrameWalks.{WalkView, frames_in, restarted, strayed}
use Rattle.tstd_rows.specs.DueTimes.{due_on}
use Rattle.tstd_rows.specs.declared.arriving.Arriving.{Arriving}
use Rattle.tstd_rows.specs.declared.arriving.UnitPart.{UnitPart}
use Rattle.tstd_rows.specs.Held.{Held, IsHeld, transport_busy}
use Rattle.tstd_rows.specs.Entering.{after, after_first, after_part, entered, entered_first, entered_part, size_of}
use Rattle.tstd_rows.specs.EnteringVideo.{video_of, video_unit_of}
use Rattle.tstd_rows.specs.HeldVideo.{VideoSizes}
use Rattle.tstd_rows.specs.declared.busy_watch.BusyWatch.{BusyWatch}
use Rattle.es_events.specs.VideoEvents.{video_ended_events}
use Rattle.es_events.specs.VideoFigures.{limits_of}
use Rattle.es_events.specs.VideoTallies.{video_tally_with}
use Rattle.es_events.specs.declared.video_tally.VideoTally.{VideoTally}
use Rattle.arrival.specs.declared.arrival.Arrival.{Arrival}
use Rattle.events.specs.declared.event.Event.{Event}
use Rattle.events.specs.declared.rule_event.BufferKind.TheVariants.{Main, Multiplexing, Transport}
use Rattle.tstd_rows.specs.Busy.{busy_under_way, leak_busy}
use Rattle.tstd_rows.specs.VideoViewed.{last_leaked}
use Rattle.tstd_rows.specs.declared.busy_watch.Stay.{Stay}
use Rattle.es_view.specs.declared.counted_buffers.BusyCounts.{BusyCounts}
use Rattle.es_view.specs.declared.counted_buffers.BusySeen.{BusySeen}
use Rattle.es_view.specs.declared.entry_frames.FramedPayload.{FramedPayload as Viewed}
use Rattle.es_events.specs.declared.clocks.Beginning.{Beginning}
use Rattle.es_events.specs.declared.clocks.Beginning.TheVariants.{Nothing, Unread, Stamped}
use Rattle.es_view.specs.declared.counted_buffers.CountedBuffers.{CountedBuffers}
use Rattle.es_view.specs.declared.counted_buffers.FramePlace.{FramePlace}
use Rattle.es_events.specs.declared.entry_events.Place.{Place}
use Rattle.es_events.specs.declared.tally.Tally.{Tally}
use Rattle.es_events.specs.declared.view_options.ViewOptions.{ViewOptions}
use Rattle.es_events.specs.Clocks.{due_tick, longest_stay}
use Rattle.es_events.specs.EntryEvents.{ended_events}
use Rattle.es_events.specs.EntryStays.{busy_ended, delayed_events, is_idle, overstay_of}
use Rattle.es_events.specs.Tallies.{more, tally_with}

-- 1. The bytes of a PES packet

-- the bytes of a payload after the header of the PES packet that it begins: PES_header_data_length is its byte 8 (ISO/IEC 13818-1, 2.4.3.6)
unfoldable pub unit_after : List ℕ → Option ℕ → List ℕ
unit_after payload None = []
unit_after payload (Some length) = drop (9 + length) payload

abbrev pub unit_in : List ℕ → List ℕ
unit_in payload = unit_after payload (slice_get payload 8)

-- the bytes of a packet where frames may begin: none in a duplicate packet
abbrev pub frame_bytes : Bool → PacketView → List ℕ
frame_bytes repeated packet =
    if repeated then []
    else (if packet.header.payload_unit_start_indicator then unit_in (unwrap_or packet.payload []) else unwrap_or packet.payload [])

-- 2. Units and frames

-- when a unit is due that begins, in ticks from the stream's first byte: none begins before the first clock reference
unfoldable pub unit_tick : ViewOptions → Option PcrSample → Beginning → Option ℕ
unit_tick options None beginning = None
unit_tick options (Some clock) Nothing = None
unit_tick options (Some clock) Unread = None
unit_tick options (Some clock) (Stamped dts) = Some (due_tick (step_of options.arrival) clock dts)

-- a unit starts the walk over frames again; after a header that was not read, or a unit that does not begin, the bytes are no frames
unfoldable pub walk_begun : WalkView → Beginning → Option ℕ → WalkView
walk_begun w Nothing None = w
walk_begun w Unread None = strayed w
walk_begun w (Stamped dts) None = strayed w
walk_begun w beginning (Some tick) = restarted w

-- how many bytes of a payload come before the first frame that begins in it; `before` bytes of these belong to no frame
unfoldable pub front_count : ℕ → ℕ → List FramePart → ℕ
front_count before size [] = size
front_count before size (p ∷ ps) = min (before + p.place) (2 ^ 64 - 1)

-- when a frame is due, in ticks: a minute after its unit at most
abbrev pub frame_tick : ℕ → FramePart → ℕ
frame_tick tick p = min (tick + min (p.ahead * 300) longest_stay) (2 ^ 61 - 1)

-- a frame as the buffers see it, `base` bytes after the stream's first byte
abbrev pub unit_part : ViewOptions → ℕ → ℕ → ℕ → FramePart → UnitPart
unit_part options rx base tick p = record {
  byte = min (base + p.place) (2 ^ 64 - 1);
  size = p.size;
  due = due_on (step_of options.arrival) rx (frame_tick tick p);
}

-- 3. The buffers, their counts, and how many units had bytes that stayed too long

pub record Counted : Type 0 where
  pub held : Held
  pub tally : Tally
  pub delayed : ℕ

pub record AreCounted (b : CountedBuffers) (c : Counted) : Type 0 where
  pub held : IsHeld b.buffers c.held
  pub tally : b.tally ≡ c.tally
  pub delayed : b.delayed ≡ c.delayed

-- a packet
abbrev pub whole_after : ViewOptions → ℕ → Bool → Arriving → Counted → Counted
whole_after options window unread p c = record {
  held = after c.held options.arrival p;
  tally = tally_with c.tally window unread (after c.held options.arrival p) p.index (entered c.held options.arrival p);
  delayed = c.delayed;
}

abbrev pub whole_events : ViewOptions → Place → Arriving → Option VideoSizes → Held → List Event
whole_events options place p sizes h =
    ended_events options place (entered h options.arrival p)
    ++ video_ended_events options place (limits_of sizes) (video_of sizes h options.arrival p) (video_unit_of sizes h options.arrival p)

-- and what is counted of its two buffers of video
abbrev pub video_counted : VideoTally → Option VideoSizes → Held → Arrival → Arriving → VideoTally
video_counted t sizes h arrival p =
    video_tally_with t (limits_of sizes) (after h arrival p) p.index (video_of sizes h arrival p) (video_unit_of sizes h arrival p)

-- a packet with the first bytes of its payload
abbrev pub front_after : ViewOptions → ℕ → Bool → Arriving → ℕ → Counted → Counted
front_after options window unread p count c = record {
  held = after_first c.held options.arrival p (min count (size_of p));
  tally = tally_with c.tally window unread (after_first c.held options.arrival p (min count (size_of p))) p.index
      (entered_first c.held options.arrival p (min count (size_of p)));
  delayed = c.delayed;
}

abbrev pub front_events : ViewOptions → Place → Arriving → ℕ → Held → List Event
front_events options place p count h = ended_events options place (entered_first h options.arrival p (min count (size_of p)))

-- a frame of a payload: how long a byte may stay, the first of the payload's bytes of frames, and when the unit is due are given
abbrev pub part_of : ViewOptions → FramePlace → Held → FramePart → UnitPart
part_of options at h p = unit_part options h.rx at.base at.tick p

abbrev pub frame_after : ViewOptions → FramePlace → ℕ → Counted → FramePart → Counted
frame_after options at window c p = record {
  held = after_part c.held options.arrival (part_of options at c.held p);
  tally = tally_with c.tally window false (after_part c.held options.arrival (part_of options at c.held p)) at.packet
      (entered_part c.held options.arrival (part_of options at c.held p));
  delayed = more c.delayed (if is_some (overstay_of options at.limit (part_of options at c.held p).byte (frame_tick at.tick p)) then 1 else 0);
}

abbrev pub frame_events : ViewOptions → Place → FramePlace → Held → FramePart → List Event
frame_events options place at h p =
    ended_events options place (entered_part h options.arrival (part_of options at h p))
    ++ delayed_events options place Main at.limit (overstay_of options at.limit (part_of options at h p).byte (frame_tick at.tick p))

unfoldable pub frames_after : ViewOptions → FramePlace → ℕ → Counted → List FramePart → Counted
frames_after options at window c [] = c
frames_after options at window c (p ∷ ps) = frames_after options at window (frame_after options at window c p) ps

unfoldable pub frames_events : ViewOptions → Place → FramePlace → Held → List FramePart → List Event
frames_events options place at h [] = []
frames_events options place at h (p ∷ ps) =
    frame_events options place at h p ++ frames_events options place at (after_part h options.arrival (part_of options at h p)) ps

-- the buffers after these parts
unfoldable pub frames_held : ViewOptions → FramePlace → Held → List FramePart → Held
frames_held options at h [] = h
frames_held options at h (p ∷ ps) = frames_held options at (after_part h options.arrival (part_of options at h p)) ps

-- 4. A payload that may contain frames: its beginning for the buffers, when its unit is due, if one begins, and its bytes of frames

pub record FramedPayload : Type 0 where
  pub arriving : Arriving
  pub base : ℕ
  pub tick : Option ℕ
  pub beginning : Beginning
  pub bytes : List ℕ

abbrev pub payload_view : Viewed → FramedPayload
payload_view p = record { arriving = p.arriving; base = p.base; tick = p.tick; beginning = p.beginning; bytes = p.bytes.now }

abbrev pub walk_in : FramedPayload → WalkView → WalkView
walk_in p w = walk_begun w p.beginning p.tick

abbrev pub frames_among : FramedPayload → WalkView → List FramePart
frames_among p w = frames_in (walk_in p w) p.bytes

-- the bytes of it that are no bytes of frames
abbrev pub header_size : FramedPayload → ℕ
header_size p = p.arriving.size - length p.bytes

abbrev pub count_of : FramedPayload → WalkView → ℕ
count_of p w = front_count (header_size p) p.arriving.size (frames_among p w)

abbrev pub place_of : ℕ → FramedPayload → ℕ → FramePlace
place_of limit p tick = record {
  packet = p.arriving.index;
  limit = limit;
  base = min (p.base + header_size p) (2 ^ 64 - 1);
  tick = unwrap_or p.tick tick;
}

abbrev pub payload_after : ViewOptions → ℕ → Bool → ℕ → FramedPayload → WalkView → ℕ → Counted → Counted
payload_after options window unread limit p w tick c =
    frames_after options (place_of limit p tick) window (front_after options window unread p.arriving (count_of p w) c) (frames_among p w)

abbrev pub front_held : ViewOptions → FramedPayload → WalkView → Held → Held
front_held options p w h = after_first h options.arrival p.arriving (min (count_of p w) (size_of p.arriving))

abbrev pub payload_events : ViewOptions → Place → ℕ → FramedPayload → WalkView → ℕ → Held → List Event
payload_events options place limit p w tick h =
    front_events options place p.arriving (count_of p w) h ++ frames_events options place (place_of limit p tick) (front_held options p w h) (frames_among p w)

-- 5. How long the buffers are not empty

unfoldable pub leak_busy_of : Option VideoSizes → Held → Option BusyWatch
leak_busy_of None h = None
leak_busy_of (Some s) h = Some (leak_busy h.rate s.leak s.second h.parts)

unfoldable pub leak_under_way : Option VideoSizes → Held → Option Stay
leak_under_way None h = None
leak_under_way (Some s) h = busy_under_way (leak_busy h.rate s.leak s.second h.parts) (last_leaked h.rate s.leak h.parts)

abbrev pub busy_seen : Option VideoSizes → Held → BusySeen
busy_seen sizes h = record { transport = transport_busy h; multiplexing = leak_busy_of sizes h }

-- how many times they were not empty for too long
unfoldable pub leak_count : Option BusyWatch → ℕ
leak_count None = 0
leak_count (Some w) = w.count

abbrev pub counts_of : BusySeen → BusyCounts
counts_of b = record { transport = b.transport.count; multiplexing = leak_count b.multiplexing }

unfoldable pub leak_ended : ViewOptions → Place → Option BusyWatch → Option BusyWatch → List Event
leak_ended options place None after = []
leak_ended options place (Some w) None = []
leak_ended options place (Some w) (Some v) = busy_ended options place Multiplexing w v

abbrev pub stays_ended : ViewOptions → Place → BusySeen → BusySeen → List Event
stays_ended options place before after = busy_ended options place Transport before.transport after.transport
    ++ leak_ended options place before.multiplexing after.multiplexing

unfoldable pub is_leak_idle : Option BusyWatch → Option Stay → Bool
is_leak_idle None under_way = true
is_leak_idle (Some w) under_way = is_idle w under_way
