-- The clocks of a job's programs: a program has a clock of its own, or is on a clock that several programs share (ISO/IEC 13818-1, 2.4.4.9:
-- the PMTs of several programs may name one PCR_PID).
use Rattle.std.specs.Prelude.{ℕ, ◌&&◌, not, nat_lt, Bool, true, false, if◌then◌else◌, List, [], length, map, filter, slice_get, Option, Some, None}
use Rattle.std.specs.List.{list_any}
use Rattle.given_values.specs.declared.clock_sharing.ClockSharing.{ClockSharing}
use Rattle.given_values.specs.declared.clock_sharing.ClockSharing.TheVariants.{WithoutVideo, Each, One}
use Rattle.job_programs.specs.declared.named_stream.StreamKind.{StreamKind}
use Rattle.job_programs.specs.declared.named_stream.StreamKind.TheVariants.{Picture}
use Rattle.job_programs.specs.JobOptions.{is_among}
use Rattle.job_programs.specs.JobPrograms.{JobProgramView}
use Rattle.job_programs.specs.JobStreams.{TimedStreamView, is_stream_of}
use Rattle.job_units.specs.StreamKinds.{kind_of}
use Rattle.job_inputs.specs.JobInput.{JobInputView}

abbrev pub is_picture : Option StreamKind → Bool
is_picture (Some Picture) = true
is_picture kind = false

-- a stream is video of this program, its own or shared
unfoldable pub is_video_of : ℕ → TimedStreamView → Bool
is_video_of number s = is_stream_of number s && is_picture (kind_of s.stream_type s.descriptors)

-- whether a program is on the shared clock, if there is one
unfoldable pub may_share : ClockSharing → List TimedStreamView → JobProgramView → Bool
may_share Each streams p = false
may_share One streams p = true
may_share WithoutVideo streams p = not (list_any (is_video_of p.number) streams)

-- a clock is shared by two programs or more
unfoldable pub if_several : List ℕ → List ℕ
if_several pids = if nat_lt 1 (length pids) then pids else []

-- the PIDs that clocks of their own would have for the programs that share a clock; no two programs have the same
abbrev pub sharing : ClockSharing → JobInputView → List ℕ
sharing by input = if_several (map (λ p. p.pcr_pid) (filter (may_share by input.streams) input.programs))

-- the PID of the shared clock: of the first of them
abbrev pub shared_clock : List ℕ → Option ℕ
shared_clock pids = slice_get pids 0

-- the PID of a program's own clock, if it shares none
unfoldable pub own_clock : List ℕ → JobProgramView → Option ℕ
own_clock pids p = if is_among p.pcr_pid pids then None else Some p.pcr_pid
