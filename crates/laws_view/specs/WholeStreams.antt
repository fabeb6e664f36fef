-- The last events of a stream are about all packets of its PID, from the packet where its buffers begin (ISO/IEC 13818-1, 2.4.2.3).
--
-- At a constant rate byte i of a stream arrives 8 i / rate seconds after its first. At buffers that are drained at `rx` bits a second times
-- are in units of 8 / (rate * rx) seconds.
use Rattle.std.specs.Prelude.{◌≡◌, ℕ, ◌<◌, ◌≤◌, List, ◌∷◌, ◌++◌, length, slice_get, count_by, flat_map, Some, None}
use Rattle.std.specs.Option.{option_to_list}
use Rattle.clock27.specs.Arrival.{arrivals}
use Rattle.clock27.specs.Departure.{departures}
use Rattle.clock27.specs.Fullness.{fullness}
use Rattle.clock27.specs.Peak.{IsPeak}
use Rattle.ts_packet.specs.Views.{PacketView}
use Rattle.ts_packet.specs.Reading.{packet_at}
use Rattle.unit_timing.specs.Transport.{slots_of}
use Rattle.tstd.specs.PidPackets.{packets_from}
use Rattle.arrival.specs.declared.arrival.Arrival.TheVariants.{AtRate}
use Rattle.stream_programs.specs.Streams.{FoundStreamView}
use Rattle.ts_tables.specs.NamedStreams.{clock_of as program_clock}
use Rattle.tstd_rows.specs.TransportLaws.{excesses}
use Rattle.tstd_rows.specs.History.{main_fullness}
use Rattle.tstd_rows.specs.declared.arriving.Arriving.{Arriving}
use Rattle.tstd_rows.specs.Limits.{tb_size}
use Rattle.tstd_rows.specs.Entering.{EnteredView}
use Rattle.tstd_rows.specs.Held.{empty, main_most, transport_most, transport_under_way}
use Rattle.es_events.specs.declared.view_options.ViewOptions.{ViewOptions}
use Rattle.ts_watch.specs.Choices.{RequestView}
use Rattle.events.specs.declared.event.Event.{Event}
use Rattle.es_events.specs.EntryEvents.{main_event, main_figures, transport_event, with_one}
use Rattle.es_view.specs.Entries.{EntryState, closed, closed_seen, end_events, place_at, seen_held, stays_closing}
use Rattle.es_events.specs.Tallies.{is_late}
use Rattle.es_events.specs.MarkTallies.{mark_events}
use Rattle.es_events.specs.VideoEvents.{video_closing_events}
use Rattle.es_events.specs.VideoFigures.{figures_of}
use Rattle.ts_report.specs.StreamTables.{beginning, stream_buffers}
use Rattle.ts_report.specs.Views.{ViewState, after_all, start}
use Rattle.es_view.specs.LastPayloads.{no_payload}
use Rattle.laws_view.specs.StreamUnits.{all_units, units_ended}
use Rattle.laws_view.specs.StreamPackets.{Before, Followed, after_each, entered_each, known_after_all, most_packets, seen_among, sound_packet}

-- the state before a stream's first packet
abbrev pub nothing_known : Before
nothing_known = record { index = 0; clock = None; last = no_payload }

-- the state before the packet where buffers begin: how many packets come before it, the program's last clock reference, and no counter
abbrev pub known_at_begin : Followed → List (List ℕ) → Before
known_at_begin f before = record (known_after_all f nothing_known before) { last = no_payload }

abbrev pub followed : RequestView → EntryState → Followed
followed request e = record { options = request.options; pid = e.pid; clock_pid = e.clock_pid; rx = e.held.rx }

-- the packets of a stream as its buffers see them: the packets of its PID among `packets`, which come after the packets `before`
abbrev pub stream_packets : RequestView → EntryState → List (List ℕ) → List (List ℕ) → List Arriving
stream_packets request e before packets = seen_among (followed request e) (known_at_begin (followed request e) before) packets

-- the indices of the packets of a PID among these packets, if the first packet has the index `first`
abbrev pub indices_of : ℕ → ℕ → List (List ℕ) → List ℕ
indices_of pid first packets = slots_of (packets_from pid first packets)

-- the last events of a stream are about all its packets: their bytes arrive at these times, and `vs` has what has ended with each packet
pub record SaysAll (step : ℕ) (times : List ℕ) (vs : List EnteredView) (e : EntryState) : Type 0 where
  -- the line `transport` has the greatest number of bytes in the transport buffer over all moments
  pub transport : IsPeak (λ x. fullness x times (departures step 0 times)) (transport_most e.held)
  -- and the number of all excesses: the excesses of the events `excess`, in order, and the excess that is open at the end
  pub reported : flat_map (λ v. v.transport) vs ++ option_to_list (transport_under_way e.held) ≡ excesses step tb_size times
  pub excesses : (window : ℕ) → with_one (closed window e).excesses (transport_under_way e.held) ≡ length (excesses step tb_size times)
  -- the line `main` has the greatest number of bytes in the main buffer over all moments: payload bytes that have left the transport buffer by
  -- that moment, and whose unit has not left the main buffer
  pub main : IsPeak (main_fullness step e.held.parts) (main_most e.held)
  -- and the number of all units and of the late units: the units that end with one of these packets, and the last unit
  pub reported_units : flat_map (λ v. option_to_list v.unit) vs ≡ units_ended step e.held.parts
  pub units : (window : ℕ) → (closed window e).units ≡ length (all_units step e.held.parts)
  pub late : (window : ℕ) → (closed window e).late ≡ count_by is_late (all_units step e.held.parts)

-- a stream's buffers begin with the packet `first`: the first packet that begins a PES packet of the stream after the tables name it; `view` is
-- the view after packets, `bytes` the bytes of a packet
pub record Begun {P : Type 0} (view : List P → ViewState) (bytes : P → List ℕ) (packets : List P) (e : EntryState) : Type 0 where
  pub before : List P
  pub first : P
  pub later : List P
  pub split : packets ≡ before ++ first ∷ later
  pub packet : PacketView
  pub sound : sound_packet (packet_at (bytes first)) ≡ Some packet
  pub stream : FoundStreamView
  pub begins : beginning (view before).seen.named (view before).table packet ≡ Some stream
  pub pid : e.pid ≡ packet.header.pid
  pub clock_pid : e.clock_pid ≡ program_clock (view before).seen.named stream.program
  pub rx : e.held.rx ≡ (stream_buffers (view before).table stream packet).rx
  pub size : e.held.main.size ≡ (stream_buffers (view before).table stream packet).main

-- a stream with an event at the end, whose buffers have begun
pub record IsWhole (request : RequestView) (rate : ℕ) (packets : List (List ℕ)) (e : EntryState) : Type 0 where
  pub begun : Begun (after_all (start request)) (λ bytes. bytes) packets e
  -- the buffers hold what all packets of its PID, from there on, leave in empty buffers
  pub held : e.held ≡ after_each (empty rate e.held.rx e.held.main.size) (AtRate rate) (stream_packets request e begun.before (begun.first ∷ begun.later))
  -- its last events are about these packets: the transport buffer holds `tb_fullness` of the indices of the packets of its PID
  pub lines : SaysAll rate (arrivals e.held.rx (indices_of e.pid (length begun.before) (begun.first ∷ begun.later)))
      (entered_each (empty rate e.held.rx e.held.main.size) (AtRate rate) (stream_packets request e begun.before (begun.first ∷ begun.later))) e

-- this holds for each stream of a report at a constant rate, as long as packets enter buffers: in the first 2^40 bytes
abbrev pub WholeStreamLaw : Type 0
WholeStreamLaw = (request : RequestView) (rate : ℕ) (packets : List (List ℕ)) (place : ℕ) (e : EntryState) → request.options.arrival ≡ AtRate rate → 0 < rate →
    length packets ≤ most_packets → slice_get (after_all (start request) packets).table.entries place ≡ Some e → 0 < e.held.rx → IsWhole request rate packets e

-- the last events of a stream: before them are the events of the last window and of open excesses; after them the events of the two buffers of
-- video, if they are viewed, of buffers that are not empty for more than a second, and of the marks of its units
pub record LastEvents (options : ViewOptions) (count window : ℕ) (e : EntryState) : Type 0 where
  pub before : List Event
  pub events : end_events options count window e
      ≡ before ++ (transport_event e.pid (transport_most (seen_held e)) (with_one (closed_seen window e).excesses (transport_under_way (seen_held e)))
      ∷ main_event (place_at count e) (main_figures (seen_held e) (closed_seen window e)) (closed_seen window e)
      ∷ (video_closing_events options (place_at count e) (figures_of e.video (seen_held e)) (closed_seen window e).units e.video_tally
      ++ (stays_closing options (place_at count e) e ++ mark_events e.pid e.mark_tally)))
  -- the laws here are about the state of a stream that is not viewed by access units
  pub by_packets : e.framed ≡ None → (seen_held e ≡ e.held) × (closed_seen window e ≡ closed window e)

abbrev pub LastEventsLaw : Type 0
LastEventsLaw = (options : ViewOptions) (count window : ℕ) (e : EntryState) → LastEvents options count window e
