-- The streams of sound of a job that leave their main buffers in whole units, though by the standard each frame leaves at its own time (ISO/IEC 13818-1,
-- 2.4.2.3): that no buffer is over its size is kept of these units alone.
use Rattle.std.specs.Prelude.{ℕ, ◌+◌, ◌==◌, ◌&&◌, ◌||◌, nat_lt, Bool, false, is_some, if◌then◌else◌, List, [], ◌∷◌, ◌++◌, length, find, Option, Some, None}
use Rattle.std.specs.List.{list_any}
use Rattle.pes_packet.specs.AccessUnits.{AccessUnit}
use Rattle.description_parts.specs.Described.{DescribedStream}
use Rattle.sound_frames.specs.FrameHeaders.{frame_kind}
use Rattle.sound_frames.specs.Frames.{unit_frames}
use Rattle.sound_frames.specs.declared.frame_headers.FrameKind.{FrameKind}
use Rattle.job_units.specs.CrossingFrames.{crosses}
use Rattle.checked_jobs.specs.MuxJobs.{MuxJobView}
use Rattle.tsremux_cli.specs.declared.figures.UnkeptFrames.{UnkeptFrames}

-- a unit has several frames
unfoldable pub has_frames : FrameKind → AccessUnit → Bool
has_frames kind u = elim (unit_frames kind u.bytes) [ None ↦ false | Some frames ↦ nat_lt 1 frames.count ]

-- so has a unit of stream k
abbrev pub is_framed : FrameKind → ℕ → ℕ × AccessUnit → Bool
is_framed kind k e = e.0 == k && has_frames kind e.1

-- the first unit of stream k, and its next one by DTS
abbrev pub is_of : ℕ → ℕ × AccessUnit → Bool
is_of k e = e.0 == k

abbrev pub is_later : ℕ → ℕ → ℕ × AccessUnit → Bool
is_later k dts e = e.0 == k && nat_lt dts e.1.dts

-- a frame begins in the first and ends in the next
unfoldable pub is_continued : FrameKind → ℕ → List (ℕ × AccessUnit) → AccessUnit → Bool
is_continued kind k units one = elim (find (is_later k one.dts) units) [ None ↦ false | Some e ↦ crosses kind one.bytes e.1.bytes ]

unfoldable pub do_cross : FrameKind → ℕ → List (ℕ × AccessUnit) → Bool
do_cross kind k units = elim (find (is_of k) units) [ None ↦ false | Some e ↦ is_continued kind k units e.1 ]

-- the units of stream k have several frames, or frames cross its units, and its description does not declare frames
unfoldable pub is_unkept : List (ℕ × AccessUnit) → ℕ → DescribedStream → Bool
is_unkept units k s = elim (frame_kind s.stream_type s.descriptors) [
  | None ↦ false
  | Some kind ↦ if is_some s.framing then false else list_any (is_framed kind k) units || do_cross kind k units
]

abbrev pub pid_if : Bool → ℕ → List ℕ
pid_if is pid = if is then pid ∷ [] else []

-- the PIDs of such streams, of those from stream k on
unfoldable pub unkept_from : List (ℕ × AccessUnit) → ℕ → List DescribedStream → List ℕ
unkept_from units k [] = []
unkept_from units k (s ∷ streams) = pid_if (is_unkept units k s) s.pid ++ unkept_from units (k + 1) streams

-- the first of these PIDs, and the number of the others
unfoldable pub first_and_others : List ℕ → Option UnkeptFrames
first_and_others [] = None
first_and_others (pid ∷ pids) = Some (record { pid = pid; others = length pids })

abbrev pub unkept_of : MuxJobView → Option UnkeptFrames
unkept_of j = first_and_others (unkept_from j.units 0 j.description.streams)
