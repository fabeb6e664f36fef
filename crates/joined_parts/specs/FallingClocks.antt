-- The streams whose clock goes back in a recording: only their stamps can fall with their clock (ISO/IEC 13818-1, 2.4.3.5).
use Rattle.std.specs.Prelude.{ℕ, ◌==◌, ◌&&◌, not, Bool, false, Option, Some, None, List, filter, map}
use Rattle.std.specs.List.{list_any}
use Rattle.pid_findings.specs.Views.{FindingView}
use Rattle.program_tables.specs.Association.{association}
use Rattle.stream_programs.specs.Programs.{FoundProgramsView}
use Rattle.stream_programs.specs.Streams.{FoundStreamView}
use Rattle.stamp_repair.specs.DataTimes.{programs_by}
use Rattle.packet_pcr.specs.declared.pcr_reading.FoundPcr.{FoundPcr}
use Rattle.joined_parts.specs.Cuts.{cuts_in}
use Rattle.joined_parts.specs.JumpsAhead.{is_forward}
use Rattle.joined_parts.specs.UnitStamps.{clock_of}
use Rattle.joined_parts.specs.declared.cuts.Cut.{Cut}

-- the clock on a PID goes back at a cut
abbrev pub falls_at : ℕ → Cut → Bool
falls_at pid cut = cut.pid == pid && not (is_forward cut)

unfoldable pub goes_back : List Cut → Option ℕ → Bool
goes_back cuts None = false
goes_back cuts (Some pid) = list_any (falls_at pid) cuts

-- the clock of a stream's program does
abbrev pub has_falling : FoundProgramsView → List Cut → FoundStreamView → Bool
has_falling found cuts s = goes_back cuts (clock_of found s)

abbrev pub pids_by : FoundProgramsView → List Cut → List ℕ
pids_by found cuts = map (λ s. s.pid) (filter (has_falling found cuts) found.streams)

-- the PIDs of these streams, in a recording with these references and findings
abbrev pub falling_pids : List FoundPcr → List FindingView → List ℕ
falling_pids references findings = pids_by (programs_by (association findings) findings) (cuts_in references)
