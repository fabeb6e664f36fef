-- A stream while it comes, and its slips: the bytes that are in no packet.
use Rattle.std.specs.Prelude.{◌≡◌, ◌<◌, ℕ, ◌+◌, ◌/◌, ◌++◌, ◌==◌, if◌then◌else◌, Bool, true, List, [], ◌∷◌, Err, length, map}
use Rattle.std.specs.List.{flat_map}
use Rattle.packet_sync.specs.Notes.{NotesView, SayAlike, no_notes}
use Rattle.packet_sync.specs.PacketBytes.{packets_in}
use Rattle.packet_sync.specs.Slips.{slips}
use Rattle.packet_sync.specs.declared.left_out.FieldLeftOut.{FieldLeftOut}
use Rattle.packet_sync.specs.declared.slip.Slip.{Slip}
use Rattle.packet_sync.specs.declared.stretch.Stretch.{Stretch}
use Rattle.fed_streams.specs.Feeding.{Fed, FeedView}
use Rattle.es_feed.specs.StreamFeeding.{IsFedBy, StreamFeedView, at_first, fed_of}
use Rattle.es_feed.specs.StreamPackets.{ArePackets, PacketsView, no_bytes}
use Rattle.fed_streams.specs.declared.feed_fault.FeedFault.TheVariants.{Slipped}
use Rattle.es_feed.specs.declared.slip_watch.StreamPlace.{StreamPlace}

-- 1. Slips so far

-- before the first byte
abbrev pub first_place : StreamPlace
first_place = record { packet = 0; start = 0 }

-- after a stretch, and the bytes that are left out after it
abbrev pub place_with : Stretch → StreamPlace → StreamPlace
place_with s p = record { packet = p.packet + s.in_step / 188; start = (p.start + s.in_step) + s.slipped }

abbrev pub slips_with : Stretch → StreamPlace → List Slip → List Slip
slips_with s p found =
    if s.slipped == 0 then found else found ++ record { packet = p.packet + s.in_step / 188; start = p.start + s.in_step; size = s.slipped } ∷ []

-- the notes with these slips, and any fields
abbrev pub notes_at : List FieldLeftOut → List Slip → StreamPlace → NotesView
notes_at fields found p = record { slips = found; fields = fields; packet = p.packet; start = p.start }

-- all of these bytes except the held bytes were searched, and these are their slips, whatever bytes follow
pub record AreSlips (bytes : List ℕ) (ended : Bool) (held : List ℕ) (p : StreamPlace) (found : List Slip) : Type 0 where
  pub fields : List FieldLeftOut
  pub so : (more : List ℕ) → (ended ≡ true → more ≡ []) → SayAlike no_notes (bytes ++ more) (notes_at fields found p) (held ++ more)

pub record WatchView : Type 0 where
  pub held : List ℕ
  pub place : StreamPlace

abbrev pub none_watched : WatchView
none_watched = record { held = []; place = first_place }

-- 2. Slips among the fed records: 255 says that they belong to no stream

abbrev pub slip_fed : Slip → Fed
slip_fed s = (255, Err (Slipped (record { packet = s.packet; size = s.size })))

abbrev pub slips_fed : List Slip → List Fed
slips_fed found = map slip_fed found

-- one read: the records of its packets, and then the slips
pub record Round : Type 0 where
  pub fed : List Fed
  pub found : List Slip

abbrev pub all_of : Round → List Fed
all_of r = r.fed ++ slips_fed r.found

pub record AreRounds (fed : List Fed) (found : List Slip) (all : List Fed) : Type 0 where
  pub rounds : List Round
  pub fed_is : flat_map (λ r. r.fed) rounds ≡ fed
  pub found_is : flat_map (λ r. r.found) rounds ≡ found
  pub all_is : flat_map all_of rounds ≡ all

-- 3. A stream

pub record WatchedView : Type 0 where
  pub packets : PacketsView
  pub stream : StreamFeedView
  pub watch : WatchView

abbrev pub watched_first : FeedView → WatchedView
watched_first feed = record { packets = no_bytes; stream = at_first feed; watch = none_watched }

-- after these bytes of a stream: all of its packets but those of the held bytes
pub record IsWatchedBy (first : FeedView) (bytes : List ℕ) (ended : Bool) (s : WatchedView) (all : List Fed) : Type 0 where
  pub gone : List ℕ
  pub packets_are : ArePackets bytes gone s.packets
  pub fed : List Fed
  pub found : List Slip
  pub rounds : AreRounds fed found all
  pub by : IsFedBy first gone ended s.stream fed
  pub slips_are : AreSlips gone ended s.watch.held s.watch.place found

-- few bytes are held: of the stream at most 1,227, which do not yet decide where a packet begins, and of its packets the last 1,127
abbrev pub HoldsFew : WatchedView → Type 0
HoldsFew s = (length s.packets.held < 1228) × (length s.stream.held < 1128)

-- all that is fed of the packets of a stream, and all their slips
pub record IsWatchedOf (first : FeedView) (bytes : List ℕ) (all : List Fed) : Type 0 where
  pub rounds : AreRounds (fed_of first (packets_in bytes)) (slips (packets_in bytes)) all
