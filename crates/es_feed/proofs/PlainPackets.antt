-- Packets without findings and with a payload alone give no record.
use Rattle.std.proofs.Common.{◌≡◌, ℕ, None, List, [], Ok, refl}
use Rattle.ts_packet.specs.Reading.{packet_at}
use Rattle.pid_findings.specs.GoingOn.{plain_view}
use Rattle.demux.specs.Stream.{StreamState, found_in}
use Rattle.packet_pcr.specs.PacketPcr.{pcr_at, pcr_in, pcr_read}
use Rattle.fed_streams.specs.Feeding.{FeedView, after_all, fed_all}
use Rattle.fed_streams.specs.Ticks.{after_packet, after_pcr, fed_packet, fed_pcr}

plain_pcr : (index : ℕ) (bytes : List ℕ) → packet_at bytes ≡ Ok (plain_view bytes) → pcr_at index bytes ≡ None
unfolding pcr_read pcr_in
plain_pcr index bytes plain = rw plain refl

nothing_after : (feed : FeedView) → after_packet feed [] None ≡ feed
unfolding after_all after_pcr
nothing_after feed = refl

nothing_fed : (feed : FeedView) → fed_packet feed [] None ≡ []
unfolding fed_all fed_pcr
nothing_fed feed = refl

pub plain_after : (feed : FeedView) (s : StreamState) (bytes : List ℕ) → found_in s bytes ≡ [] → packet_at bytes ≡ Ok (plain_view bytes) →
    feed ≡ after_packet feed (found_in s bytes) (pcr_at s.packets bytes)
plain_after feed s bytes none plain = rw none (rw (plain_pcr s.packets bytes plain) (rw (nothing_after feed) refl))

pub plain_fed : (feed : FeedView) (s : StreamState) (bytes : List ℕ) → found_in s bytes ≡ [] → packet_at bytes ≡ Ok (plain_view bytes) →
    fed_packet feed (found_in s bytes) (pcr_at s.packets bytes) ≡ []
plain_fed feed s bytes none plain = rw none (rw (plain_pcr s.packets bytes plain) (nothing_fed feed))
