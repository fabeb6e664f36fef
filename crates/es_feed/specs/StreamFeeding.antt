-- The units of a description's streams from the bytes of a stream, in pieces of any size.
use Rattle.std.specs.Prelude.{◌≡◌, ◌<◌, ◌≤◌, ℕ, ◌+◌, ◌*◌, ◌++◌, Bool, true, false, List, [], All, drop, length, map, take}
use Rattle.std.specs.List.{concat}
use Rattle.ts_packet.specs.PidList.{cut_packets}
use Rattle.demux.specs.Stream.{StreamState, start, pushed, finished, found_in, taken}
use Rattle.demux.specs.FoundSoFar.{taken_all}
use Rattle.demux.specs.KeptBodies.{bodies_left_out_but}
use Rattle.packet_sync.specs.Slips.{carried}
use Rattle.pid_findings.specs.Views.{FindingView}
use Rattle.fed_streams.specs.Feeding.{Fed, FedStreamView, FeedView, after_all, fed_all, fed_to_end}
use Rattle.es_units.specs.Marking.{all_marked}
use Rattle.packet_pcr.specs.PacketPcr.{pcr_at}
use Rattle.fed_streams.specs.Ticks.{after_packet, after_packets, fed_packet, fed_packets}

-- 1. Whole packets

-- the state after packets: the demultiplexer and the feed
pub record PacketFeedView : Type 0 where
  pub demux : StreamState
  pub feed : FeedView

-- the PIDs of a feed's streams
abbrev pub stream_pids : FeedView → List ℕ
stream_pids feed = map (λ (s : FedStreamView). s.units.pid) feed.streams

-- demultiplexers are alike for a feed: they say the same besides the bodies of open PES packets of PIDs that no stream has
abbrev pub AreAlike : FeedView → StreamState → StreamState → Type 0
AreAlike feed s t = bodies_left_out_but (stream_pids feed) s ≡ bodies_left_out_but (stream_pids feed) t

abbrev pub is_packet : List ℕ → Type 0
is_packet packet = length packet ≡ 188

-- a packet was taken: it is demultiplexed, and its findings are fed with the marks that are asked for, and then its clock reference
abbrev pub TakesPacket : PacketFeedView → PacketFeedView → List ℕ → List Fed → List Fed → Type 0
TakesPacket old new bytes before after = (new.demux ≡ taken old.demux bytes)
    × (new.feed ≡ after_packet old.feed (found_in old.demux bytes) (pcr_at old.demux.packets bytes))
    × (after ≡ before ++ fed_packet old.feed (found_in old.demux bytes) (pcr_at old.demux.packets bytes))

-- the whole packets at the front of these bytes were taken, which have n bytes; bodies that no stream has may be left out
pub record TakesPackets (old new : PacketFeedView) (bytes : List ℕ) (n : ℕ) (before after : List Fed) : Type 0 where
  pub packets : List (List ℕ)
  pub sizes : All is_packet packets
  pub are : concat packets ≡ take n bytes
  pub within : n ≤ length bytes
  pub all : length bytes < n + 188
  pub demux_is : AreAlike old.feed new.demux (taken_all old.demux packets)
  pub feed_is : new.feed ≡ after_packets old.demux old.feed packets
  pub fed_is : after ≡ before ++ fed_packets old.demux old.feed packets

-- the feed after findings, with the marks that are asked for, and the records that they give
abbrev pub after_marked : FeedView → List FindingView → FeedView
after_marked feed found = after_all feed (all_marked feed.marking found)

abbrev pub fed_marked : FeedView → List FindingView → List Fed
fed_marked feed found = fed_all feed (all_marked feed.marking found)

-- the records at the end of the packets, with these bytes of an unfinished packet
abbrev pub fed_rest : StreamState → FeedView → List ℕ → List Fed
fed_rest demux feed rest = fed_to_end feed (all_marked feed.marking (finished (pushed demux rest)).found)

-- 2. Bytes in pieces

-- the state of a stream: the bytes not yet known to be carried, and the state after the packets before
pub record StreamFeedView : Type 0 where
  pub held : List ℕ
  pub packets : PacketFeedView

abbrev pub no_packets : FeedView → PacketFeedView
no_packets feed = record { demux = start; feed = feed }

abbrev pub at_first : FeedView → StreamFeedView
at_first feed = record { held = []; packets = no_packets feed }

-- after these bytes: the packets that are carried for certain were taken
pub record IsFedBy (first : FeedView) (bytes : List ℕ) (ended : Bool) (s : StreamFeedView) (fed : List Fed) : Type 0 where
  pub packets : List (List ℕ)
  pub sizes : All is_packet packets
  pub carries : (more : List ℕ) → (ended ≡ true → more ≡ []) → carried (bytes ++ more) ≡ concat packets ++ carried (s.held ++ more)
  pub demux_is : AreAlike first s.packets.demux (taken_all start packets)
  pub feed_is : s.packets.feed ≡ after_packets start first packets
  pub fed_is : fed ≡ fed_packets start first packets

-- all records of a stream: from the packets whose bytes are in step, and from the end
abbrev pub fed_in : FeedView → List (List ℕ) → List ℕ → List Fed
fed_in first packets rest = fed_packets start first packets ++ fed_rest (taken_all start packets) (after_packets start first packets) rest

abbrev pub after_cut : List ℕ → List ℕ
after_cut bytes = drop (188 * length (cut_packets bytes)) bytes

abbrev pub fed_of : FeedView → List ℕ → List Fed
fed_of first bytes = fed_in first (cut_packets (carried bytes)) (after_cut (carried bytes))

-- the records so far are the beginning of the records of the whole stream, whatever bytes follow
abbrev pub FedIsBeginning : Type 0
FedIsBeginning = (first : FeedView) (bytes more : List ℕ) (s : StreamFeedView) (fed : List Fed) → IsFedBy first bytes false s fed →
    (rest : List Fed) × (fed_of first (bytes ++ more) ≡ fed ++ rest)
