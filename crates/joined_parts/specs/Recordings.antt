-- A recording that was joined from several, as one recording: with the tables and the clock of one, its parts one after another.
use Rattle.std.specs.Prelude.{List}
use Rattle.pid_findings.specs.Views.{FindingView}
use Rattle.packet_pcr.specs.declared.pcr_reading.FoundPcr.{FoundPcr}
use Rattle.joined_parts.specs.Joined.{joined, joined_references}
use Rattle.joined_parts.specs.MapPids.{one_pid_each}
use Rattle.joined_parts.specs.Recodings.{recoded}
use Rattle.joined_parts.specs.WholeMaps.{one_clock, whole_maps}

-- with one PID for each coding, and one for the maps of each program
abbrev pub on_own_pids : List FindingView → List FindingView
on_own_pids findings = one_pid_each (recoded findings)

abbrev pub one_references : List FoundPcr → List FindingView → List FoundPcr
one_references references findings = joined_references (one_clock (on_own_pids findings) references) (whole_maps (on_own_pids findings))

abbrev pub one_recording : List FoundPcr → List FindingView → List FindingView
one_recording references findings = joined (one_clock (on_own_pids findings) references) (whole_maps (on_own_pids findings))
