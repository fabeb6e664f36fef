-- The frames of streams of sound: their kind, by the program map (ISO/IEC 13818-1, table 2-34), and how long one sounds.
use Rattle.std.specs.Prelude.{ℕ, ◌==◌, nat_eq, if◌then◌else◌, is_some, Option, Some, None, List, [], ◌∷◌}
use Rattle.std.specs.Map.{lookup}
use Rattle.indexmap.specs.IndexMap.{insert_entry}
use Rattle.pid_findings.specs.Views.{FindingView, WhatView, IsPes}
use Rattle.sound_frames.specs.Frames.{unit_frames}
use Rattle.sound_frames.specs.declared.frame_headers.FrameKind.{FrameKind}
use Rattle.sound_frames.specs.declared.frames.UnitFrames.{UnitFrames}
use Rattle.sound_packets.specs.declared.known_frames.SoundFrames.{SoundFrames}
use Rattle.sound_packets.specs.declared.known_frames.SoundPid.{SoundPid}

-- by PID
abbrev pub KnownFrames : Type 0
KnownFrames = List (ℕ × SoundFrames)

abbrev pub of_pid : KnownFrames → ℕ → Option SoundFrames
of_pid known pid = lookup (nat_eq pid) known

-- the frames of the stream that a finding is of
unfoldable pub frames_on : KnownFrames → Option ℕ → Option SoundFrames
frames_on known None = None
frames_on known (Some pid) = of_pid known pid

-- 1. The streams; the first one counts if several have one PID

unfoldable pub with_stream : KnownFrames → SoundPid → KnownFrames
with_stream known s = if is_some (of_pid known s.pid) then known else insert_entry nat_eq known s.pid (record { kind = s.kind; time = 0 })

unfoldable pub with_streams : KnownFrames → List SoundPid → KnownFrames
with_streams known [] = known
with_streams known (s ∷ ss) = with_streams (with_stream known s) ss

-- 2. How long a frame sounds, in units of 90 kHz: the longest time of a frame in the first PES packet whose frames say it. LOAS says it in some frames alone

unfoldable pub time_of : Option UnitFrames → ℕ
time_of None = 0
time_of (Some c) = c.time

unfoldable pub time_in : FrameKind → WhatView → ℕ
time_in kind (IsPes header unended body) = time_of (unit_frames kind body)
time_in kind what = 0

unfoldable pub with_time : KnownFrames → ℕ → SoundFrames → WhatView → KnownFrames
with_time known pid s what = if s.time == 0 then insert_entry nat_eq known pid (record { kind = s.kind; time = time_in s.kind what }) else known

unfoldable pub with_found : KnownFrames → ℕ → Option SoundFrames → WhatView → KnownFrames
with_found known pid None what = known
with_found known pid (Some s) what = with_time known pid s what

unfoldable pub with_pid : KnownFrames → Option ℕ → WhatView → KnownFrames
with_pid known None what = known
with_pid known (Some pid) what = with_found known pid (of_pid known pid) what

unfoldable pub with_findings : KnownFrames → List FindingView → KnownFrames
with_findings known [] = known
with_findings known (f ∷ fs) = with_findings (with_pid known f.pid f.what) fs

-- 3. The streams, with the times that findings say

abbrev pub known_frames : List SoundPid → List FindingView → KnownFrames
known_frames sounds findings = with_findings (with_streams [] sounds) findings
