-- Streams on one clock keep their distances: no two of them are moved by different constants.
use Rattle.std.specs.Prelude.{◌≡◌, ℕ, ◌+◌, Bool, List, map, slice_get, Some, All}
use Rattle.pes_packet.specs.AccessUnits.{AccessUnit}
use Rattle.pes_packet.specs.Encoding.{on_wire}
use Rattle.pid_findings.specs.Views.{FindingView}
use Rattle.job_programs.specs.declared.program_clock.ProgramClock.{ProgramClock}
use Rattle.job_programs.specs.ClockBases.{base0_of}
use Rattle.job_programs.specs.FoundUnits.{AreMoved, source_of}
use Rattle.job_inputs.specs.JobInput.{JobInputView}
use Rattle.job_programs.specs.JobOptions.{JobOptionsView}
use Rattle.job_programs.specs.JobPrograms.{JobProgramView, clock_in}
use Rattle.job_programs.specs.JobStreams.{TimedStreamView}

-- the clock of a stream: its program's clock
abbrev pub clock_of : List JobProgramView → TimedStreamView → ProgramClock
clock_of programs t = clock_in programs t.program

-- the units that are found of its PID
abbrev pub found_of : Bool → List FindingView → TimedStreamView → List AccessUnit
found_of made findings t = map (λ u. u.unit) (source_of made t.pid findings)

-- its units are these, moved by a constant
abbrev pub IsMovedBy : Bool → List FindingView → ℕ → TimedStreamView → Type 0
IsMovedBy made findings base t = AreMoved (found_of made findings t) base t.units

-- each clock has one constant, which moves all its streams; the constant of the first stream's clock gives the system clock at the begin
pub record HasConstants (options : JobOptionsView) (findings : List FindingView) (input : JobInputView) : Type 0 where
  pub constant : ProgramClock → ℕ
  pub streams : All (λ t. IsMovedBy options.make_dts findings (constant (clock_of input.programs t)) t) input.streams
  pub first : (t : TimedStreamView) → slice_get input.streams 0 ≡ Some t → input.base0 ≡ base0_of options.base (constant (clock_of input.programs t))

-- two units are as far apart as two on the wire are, modulo 2^33
pub record AreAsFarApart (one other wire_one wire_other : AccessUnit) : Type 0 where
  pub dts : on_wire (one.dts + wire_other.dts) ≡ on_wire (other.dts + wire_one.dts)
  pub pts : on_wire (one.pts + wire_other.pts) ≡ on_wire (other.pts + wire_one.pts)

-- any two units of streams on one clock keep their distance
abbrev pub KeepDistances : Bool → List FindingView → JobInputView → Type 0
KeepDistances made findings input =
    (i j k l : ℕ) (t s : TimedStreamView) (one other wire_one wire_other : AccessUnit) →
    slice_get input.streams i ≡ Some t → slice_get input.streams j ≡ Some s → clock_of input.programs t ≡ clock_of input.programs s →
    slice_get t.units k ≡ Some one → slice_get s.units l ≡ Some other →
    slice_get (found_of made findings t) k ≡ Some wire_one → slice_get (found_of made findings s) l ≡ Some wire_other →
    AreAsFarApart one other wire_one wire_other
