-- What the laws of this crate say.
use Rattle.std.specs.Prelude.{◌≡◌, List, [], ◌∷◌, length, Some}
use Rattle.psi_tables.specs.declared.pat.programs.Program.{Program}
use Rattle.pid_findings.specs.Views.{FindingView}
use Rattle.demux.specs.Laws.{found_of}
use Rattle.program_tables.specs.Association.{association}
use Rattle.stream_programs.specs.PidAssignment.{AreDistinctPids, all_pids, assigned_pids, stream_pids}
use Rattle.program_tables.specs.ProgramMaps.{program_map}
use Rattle.stream_programs.specs.Programs.{FoundProgramsView, programs_of}
use Rattle.stream_programs.specs.declared.pid_assignment.ProgramPids.{ProgramPids}

-- the named programs depend on the findings of PID 0 alone
abbrev pub FindingsOfPidZero : Type 0
FindingsOfPidZero = (findings : List FindingView) → association (found_of 0 findings) ≡ association findings

-- the map of a program depends on the findings of its PID alone
abbrev pub FindingsOfTheMap : Type 0
FindingsOfTheMap = (p : Program) (findings : List FindingView) → program_map p (found_of p.pid findings) ≡ program_map p findings

-- two streams have the same findings on the PIDs of these programs' maps
abbrev pub SameOnMaps : List Program → List FindingView → List FindingView → Type 0
SameOnMaps [] one other = Unit {0}
SameOnMaps (p ∷ ps) one other = (found_of p.pid one ≡ found_of p.pid other) × SameOnMaps ps one other

-- with the same maps, the programs are the same
abbrev pub MapsDecide : Type 0
MapsDecide = (named : List Program) (one other : List FindingView) → SameOnMaps named one other → programs_of named one ≡ programs_of named other

-- the PIDs of found streams, and the PIDs that their maps and clocks are given, are distinct
abbrev pub PidsAreDistinct : Type 0
PidsAreDistinct = (named : List Program) (findings : List FindingView) (places : List ProgramPids) →
    assigned_pids (programs_of named findings) ≡ Some places → AreDistinctPids (all_pids places (stream_pids (programs_of named findings)))

-- each program gets such
abbrev pub EachHasPids : Type 0
EachHasPids = (found : FoundProgramsView) (places : List ProgramPids) → assigned_pids found ≡ Some places → length places ≡ length found.programs
