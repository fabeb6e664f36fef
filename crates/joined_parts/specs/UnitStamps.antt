-- The stamps of the units of a recording, each by the clock of its program (ISO/IEC 13818-1, 2.4.3.7 and 2.4.4.9).
use Rattle.std.specs.Prelude.{ℕ, ◌==◌, find, Option, Some, None, List, [], ◌∷◌, ◌++◌}
use Rattle.pid_findings.specs.Views.{FindingView}
use Rattle.stream_programs.specs.Programs.{FoundProgramsView}
use Rattle.stream_programs.specs.Streams.{FoundStreamView}
use Rattle.stamp_repair.specs.DataTimes.{pcr_if}
use Rattle.stamp_repair.specs.PesStamps.{stamp_at}
use Rattle.stamp_repair.specs.declared.pes_stamps.PesStamp.{PesStamp}
use Rattle.joined_parts.specs.declared.stamps.UnitStamp.{UnitStamp}

-- the PID of the references of the clock of a stream's program
abbrev pub clock_of : FoundProgramsView → FoundStreamView → Option ℕ
clock_of found s = pcr_if (find (λ p. p.number == s.program) found.programs)

unfoldable pub clock_if : FoundProgramsView → Option FoundStreamView → Option ℕ
clock_if found None = None
clock_if found (Some s) = clock_of found s

-- the clock of the stream on a PID
abbrev pub clock_on : FoundProgramsView → ℕ → Option ℕ
clock_on found pid = clock_if found (find (λ s. s.pid == pid) found.streams)

unfoldable pub clock_at : FoundProgramsView → Option ℕ → Option ℕ
clock_at found None = None
clock_at found (Some pid) = clock_on found pid

unfoldable pub stamp_with : Option ℕ → Option PesStamp → Option UnitStamp
stamp_with (Some clock) (Some pes) = Some (record { clock = clock; packet = pes.packet; dts = pes.dts })
stamp_with clock pes = None

-- the stamp of a PES packet of a stream whose program has a clock
abbrev pub stamp_of : FoundProgramsView → FindingView → Option UnitStamp
stamp_of found f = stamp_with (clock_at found f.pid) (stamp_at f)

unfoldable pub with_stamp : List UnitStamp → Option UnitStamp → List UnitStamp
with_stamp stamps None = stamps
with_stamp stamps (Some stamp) = stamps ++ stamp ∷ []

unfoldable pub stamps_after : FoundProgramsView → List UnitStamp → List FindingView → List UnitStamp
stamps_after found stamps [] = stamps
stamps_after found stamps (f ∷ fs) = stamps_after found (with_stamp stamps (stamp_of found f)) fs

abbrev pub stamps_in : FoundProgramsView → List FindingView → List UnitStamp
stamps_in found findings = stamps_after found [] findings
