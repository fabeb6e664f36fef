-- The findings of a stream, in which PES packets of sound are cut.
use Rattle.std.specs.Prelude.{ℕ, ◌==◌, ◌&&◌, ◌||◌, not, nat_lt, Bool, true, false, if◌then◌else◌, Option, Some, None, List, [], ◌∷◌, map, flat_map}
use Rattle.pes_packet.specs.declared.reading.PesHeader.{PesHeader}
use Rattle.pes_packet.specs.declared.time_stamps.Stamps.{Stamps}
use Rattle.pes_packet.specs.declared.time_stamps.Stamps.TheVariants.{Absent, Pts, PtsDts}
use Rattle.pid_findings.specs.Views.{FindingView, WhatView, IsPes}
use Rattle.sound_frames.specs.Frames.{unit_frames}
use Rattle.sound_frames.specs.declared.frames.UnitFrames.{UnitFrames}
use Rattle.sound_packets.specs.KnownFrames.{KnownFrames, frames_on, known_frames}
use Rattle.sound_packets.specs.Pieces.{piece_of, pieces}
use Rattle.sound_packets.specs.declared.known_frames.SoundFrames.{SoundFrames}
use Rattle.sound_packets.specs.declared.known_frames.SoundPid.{SoundPid}
use Rattle.sound_packets.specs.declared.pieces.CutPacket.{CutPacket}

-- 1. Which PES packets are cut: those with a PTS that ended, and are whole frames, more than n of them, whose time is known

abbrev pub is_stamped : Stamps → Bool
is_stamped Absent = false
is_stamped (Pts pts) = true
is_stamped (PtsDts pts dts) = true

-- how long a frame sounds: by the packet, or by the stream if no frame of the packet says it
unfoldable pub frame_time : SoundFrames → UnitFrames → ℕ
frame_time s c = if c.time == 0 then s.time else c.time

unfoldable pub time_if : ℕ → SoundFrames → Option UnitFrames → Option ℕ
time_if n s None = None
time_if n s (Some c) = if nat_lt n c.count && nat_lt 0 (frame_time s c) then Some (frame_time s c) else None

unfoldable pub cut_time : ℕ → SoundFrames → PesHeader → Bool → List ℕ → Option ℕ
cut_time n s header unended body = if unended || not (is_stamped header.stamps) then None else time_if n s (unit_frames s.kind body)

unfoldable pub packet_by : ℕ → SoundFrames → FindingView → WhatView → Option CutPacket
packet_by n s f (IsPes header unended body) = elim (cut_time n s header unended body) [
  | None ↦ None
  | Some time ↦ Some (record { packet = f.packet; pid = f.pid; begun = f.begun; header = header; kind = s.kind; time = time })
]
packet_by n s f what = None

unfoldable pub cut_packet : ℕ → KnownFrames → FindingView → Option CutPacket
cut_packet n known f = elim (frames_on known f.pid) [ None ↦ None | Some s ↦ packet_by n s f f.what ]

-- 2. A finding

unfoldable pub body_of : WhatView → List ℕ
body_of (IsPes header unended body) = body
body_of what = []

unfoldable pub cut_by : ℕ → FindingView → Option CutPacket → List FindingView
cut_by n f None = f ∷ []
cut_by n f (Some c) = map (piece_of c) (pieces n c.kind (body_of f.what))

abbrev pub cut : ℕ → KnownFrames → FindingView → List FindingView
cut n known f = cut_by n f (cut_packet n known f)

-- 3. All of them

abbrev pub cut_packets : ℕ → List SoundPid → List FindingView → List FindingView
cut_packets n sounds findings = flat_map (cut n (known_frames sounds findings)) findings
