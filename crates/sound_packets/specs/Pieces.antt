-- A PES packet of sound that is cut into packets of fewer frames. Each new packet has the PTS of its own first frame, which sounds when the frames before it
-- have sounded (ISO/IEC 13818-1, 2.4.3.7), and otherwise the fields of the packet.
use Rattle.std.specs.Prelude.{ℕ, ◌+◌, ◌-◌, ◌*◌, ◌%◌, ◌^◌, ◌&&◌, min, max, nat_lt, false, if◌then◌else◌, List, [], ◌∷◌, take, drop, length}
use Rattle.std.specs.Int.{div_ceil}
use Rattle.pes_packet.specs.declared.reading.PesHeader.{PesHeader}
use Rattle.pes_packet.specs.declared.time_stamps.Stamps.{Stamps}
use Rattle.pes_packet.specs.declared.time_stamps.Stamps.TheVariants.{Absent, Pts, PtsDts}
use Rattle.pid_findings.specs.Views.{FindingView, IsPes}
use Rattle.sound_frames.specs.FrameWalks.{frames_in, no_walk, restarted}
use Rattle.sound_frames.specs.declared.frame_headers.FrameKind.{FrameKind}
use Rattle.sound_frames.specs.declared.frame_walk.FramePart.{FramePart}
use Rattle.sound_packets.specs.declared.pieces.CutPacket.{CutPacket}

-- 1. Bytes

-- the frames of a unit after its first one
abbrev pub later_frames : FrameKind → List ℕ → List FramePart
later_frames kind unit = frames_in (restarted (no_walk kind)) unit

-- a unit has as few pieces of at most n frames as it can
abbrev pub piece_count : ℕ → ℕ → ℕ
piece_count n all = min (div_ceil all (max 1 n)) all

-- pieces, each with the number of its first frame, in a unit of `all` frames that has `parts` pieces, as even as can be: k frames have begun k parts / `all`
-- pieces, and `rest` more parts of `all`. The piece at the front begins with frame number `first`, at the place `at`, and has `count` frames so far; these
-- frames follow. A frame begins a piece of its own where `rest` is a whole one, and if the piece before it has n frames or more
unfoldable pub pieces_from : ℕ → ℕ → ℕ → ℕ → ℕ → ℕ → ℕ → List FramePart → List ℕ → List (ℕ × List ℕ)
pieces_from n all parts rest first count at [] bytes = (first, bytes) ∷ []
pieces_from n all parts rest first count at (p ∷ ps) bytes =
    if nat_lt count n && nat_lt (rest + parts) all then pieces_from n all parts (rest + parts) first (count + 1) at ps bytes
    else (first, take (min (p.place - at) (length bytes)) bytes)
    ∷ pieces_from n all parts (rest + parts - all) (first + count) 1 p.place ps (drop (min (p.place - at) (length bytes)) bytes)

-- the pieces of a unit with these frames after its first one
abbrev pub pieces_by : ℕ → List FramePart → List ℕ → List (ℕ × List ℕ)
pieces_by n later unit = pieces_from n (length later + 1) (piece_count n (length later + 1)) 0 0 1 0 later unit

abbrev pub pieces : ℕ → FrameKind → List ℕ → List (ℕ × List ℕ)
pieces n kind unit = pieces_by n (later_frames kind unit) unit

-- 2. Packets

-- stamps count 90 kHz modulo 2^33
abbrev pub later : ℕ → ℕ → ℕ
later stamp by = (stamp % 2 ^ 33 + by % 2 ^ 33) % 2 ^ 33

unfoldable pub later_stamps : ℕ → Stamps → Stamps
later_stamps by Absent = Absent
later_stamps by (Pts pts) = Pts (later pts by)
later_stamps by (PtsDts pts dts) = PtsDts (later pts by) (later dts by)

abbrev pub later_header : ℕ → PesHeader → PesHeader
later_header by header = record {
  id = header.id;
  len = header.len;
  stamps = later_stamps by header.stamps;
  flags = header.flags;
  data_length = header.data_length;
  private_data = header.private_data;
}

-- each frame sounds as long as the others; a time is a number of 64 bits
abbrev pub header_at : CutPacket → ℕ → PesHeader
header_at c frame = later_header (min (frame * c.time) (2 ^ 64 - 1)) c.header

abbrev pub piece_of : CutPacket → ℕ × List ℕ → FindingView
piece_of c p = record { packet = c.packet; pid = c.pid; begun = c.begun; what = IsPes (header_at c p.0) false p.1 }
