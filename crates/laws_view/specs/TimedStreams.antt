-- The last lines of a stream are about all packets of its PID, whichever way they arrive (ISO/IEC 13818-1, 2.4.2.2 and 2.4.2.3): each packet
-- with its own arrival, at a constant rate or on a line between clock references.
--
-- A byte takes `step` units of time to leave the transport buffer.
use Rattle.std.specs.Prelude.{◌≡◌, ℕ, nat_eq, ◌<◌, ◌≤◌, Bool, false, List, [], ◌∷◌, ◌++◌, length, map, slice_get, All, Option, Some, None}
use Rattle.clock27.specs.Units.{byte_ticks_at_1bps}
use Rattle.ts_packet.specs.Views.{PacketView}
use Rattle.ts_packet.specs.Reading.{packet_at}
use Rattle.tstd_rows.specs.TransportLaws.{Rises}
use Rattle.arrival.specs.declared.arrival.Arrival.{Arrival}
use Rattle.arrival.specs.declared.arrival.Arrival.TheVariants.{Unknown, AtRate}
use Rattle.arrival.specs.Arrivals.{step_of}
use Rattle.es_view.specs.LastPayloads.{no_payload}
use Rattle.laws_view.specs.Leads.{AllLead}
use Rattle.laws_view.specs.TimedPackets.{Timed, arriving_so, timed_packets}
use Rattle.laws_view.specs.Times.{times_among}
use Rattle.tstd_rows.specs.History.{arrivals_of}
use Rattle.tstd_rows.specs.declared.arriving.Arriving.{Arriving}
use Rattle.tstd_rows.specs.Entering.{EnteredView, after, entered}
use Rattle.tstd_rows.specs.Held.{Held, empty}
use Rattle.ts_watch.specs.Choices.{RequestView}
use Rattle.ts_report.specs.ClockedViews.{clock_for, last_view}
use Rattle.ts_report.specs.ClockedViews as clocked
use Rattle.es_view.specs.Entries.{EntryState}
use Rattle.ts_report.specs.Seen.{with_arrival}
use Rattle.ts_report.specs.Views.{ViewState, after_packet, arriving, start}
use Rattle.laws_view.specs.StreamPackets.{Before, Followed, known_after, most_packets, seen_in, sound_packet}
use Rattle.laws_view.specs.WholeStreams.{Begun, SaysAll, followed, nothing_known}

-- 1. Packets of a stream, one by one

-- a view after packets that arrive each by its own arrival
unfoldable pub view_by : ViewState → List Timed → ViewState
view_by s [] = s
view_by s (p ∷ packets) = view_by (after_packet (arriving s p.arrival 1) p.bytes) packets

-- a stream as it is followed while packets arrive by `arrival`
abbrev pub followed_so : Followed → Arrival → Followed
followed_so f arrival = record f { options = with_arrival f.options arrival }

-- the state after these packets, and how the stream is followed then
unfoldable pub followed_by : Followed → List Timed → Followed
followed_by f [] = f
followed_by f (p ∷ packets) = followed_by (followed_so f p.arrival) packets

unfoldable pub known_by : Followed → Before → List Timed → Before
known_by f b [] = b
known_by f b (p ∷ packets) = known_by (followed_so f p.arrival) (known_after (followed_so f p.arrival) b (sound_packet (packet_at p.bytes))) packets

-- a packet that enters a stream's buffers, and how it arrives
pub record Entering : Type 0 where
  pub arrival : Arrival
  pub packet : Arriving

abbrev pub entering : Arrival → List Arriving → List Entering
entering arrival ps = map (λ p. record { arrival = arrival; packet = p }) ps

-- all packets of the stream among these
unfoldable pub entering_among : Followed → Before → List Timed → List Entering
entering_among f b [] = []
entering_among f b (p ∷ packets) =
    entering p.arrival (seen_in (followed_so f p.arrival) b (sound_packet (packet_at p.bytes)))
    ++ entering_among (followed_so f p.arrival) (known_after (followed_so f p.arrival) b (sound_packet (packet_at p.bytes))) packets

-- packets enter one after another: what the buffers hold then, and what has ended with each packet
unfoldable pub after_entering : Held → List Entering → Held
after_entering h [] = h
after_entering h (x ∷ xs) = after_entering (after h x.arrival x.packet) xs

unfoldable pub entered_by : Held → List Entering → List EnteredView
entered_by h [] = []
entered_by h (x ∷ xs) = entered h x.arrival x.packet ∷ entered_by (after h x.arrival x.packet) xs

-- the packets of a stream from the packet where its buffers begin; before that packet no counter is known
abbrev pub known_at_first : Followed → List Timed → Before
known_at_first f before = record (known_by f nothing_known before) { last = no_payload }

abbrev pub stream_entering : RequestView → EntryState → List Timed → List Timed → List Entering
stream_entering request e before packets =
    entering_among (followed_by (followed request e) before) (known_at_first (followed request e) before) packets

-- 2. When their bytes arrive

-- a packet that can be read and is of this PID
unfoldable pub is_on : ℕ → Option PacketView → Bool
is_on pid None = false
is_on pid (Some packet) = nat_eq pid packet.header.pid

abbrev pub on_pid : ℕ → ℕ → List ℕ → Bool
on_pid pid index bytes = is_on pid (sound_packet (packet_at bytes))

-- the times of all bytes of the packets of a PID among these, each on its own line, where it has one; the first packet has this index
abbrev pub pid_times : ℕ → ℕ → ℕ → List Timed → List ℕ
pid_times pid drain index packets = times_among (on_pid pid) drain index packets

-- 3. A stream with a line at the end

pub record IsWholeBy (request : RequestView) (step : ℕ) (packets : List Timed) (e : EntryState) : Type 0 where
  pub begun : Begun (view_by (start request)) (λ p. p.bytes) packets e
  -- what its buffers hold is what all packets of its PID from then on leave in empty ones
  pub held : e.held ≡ after_entering (empty step e.held.rx e.held.main.size) (stream_entering request e begun.before (begun.first ∷ begun.later))
  -- the bytes that have entered the transport buffer are all bytes of these packets that have times, and none arrived before an earlier one
  pub arrived : arrivals_of e.held.parts ≡ pid_times e.pid e.held.rx (length begun.before) (begun.first ∷ begun.later)
  pub rises : Rises 0 (arrivals_of e.held.parts)
  -- its last lines are about them
  pub lines : SaysAll step (pid_times e.pid e.held.rx (length begun.before) (begun.first ∷ begun.later))
      (entered_by (empty step e.held.rx e.held.main.size) (stream_entering request e begun.before (begun.first ∷ begun.later))) e

-- no byte of these packets arrives before an earlier one, a line begins within a packet before its payload, and a byte takes the same step on
-- each line
pub record InOrder (step : ℕ) (packets : List Timed) : Type 0 where
  pub rises : (chosen : ℕ → List ℕ → Bool) (drain : ℕ) → Rises 0 (times_among chosen drain 0 packets)
  pub leads : AllLead 0 packets
  pub same : All (λ p. step_of p.arrival ≡ step) packets

-- as at a constant rate
abbrev pub RateOrderLaw : Type 0
RateOrderLaw = (rate : ℕ) (packets : List (List ℕ)) → InOrder rate (arriving_so (AtRate rate) packets)

-- so of each stream of a view whose packets arrive in order, in the first 2^40 bytes
abbrev pub TimedStreamLaw : Type 0
TimedStreamLaw = (request : RequestView) (step : ℕ) (packets : List Timed) (place : ℕ) (e : EntryState) → 0 < step → InOrder step packets →
    length packets ≤ most_packets →
    slice_get (view_by (start request) packets).table.entries place ≡ Some e → IsWholeBy request step packets e

-- and of each stream of a report on packets of 188 bytes that arrive by clock references, at its end: in units of 1 / (27,000,000 * rx) seconds
-- a byte takes byte_ticks_at_1bps to leave a transport buffer that is drained at rx bits a second
abbrev pub ClockedStreamLaw : Type 0
ClockedStreamLaw = (request : RequestView) (packets : List (List ℕ)) (place : ℕ) (e : EntryState) → request.options.arrival ≡ Unknown →
    All (λ bytes. length bytes ≡ 188) packets → length packets ≤ most_packets →
    slice_get (last_view (clocked.after_all (clocked.start request) packets).view (clocked.after_all (clocked.start request) packets).queue).table.entries place
    ≡ Some e →
    IsWholeBy request byte_ticks_at_1bps (timed_packets (clock_for request.choice.programs) packets) e
