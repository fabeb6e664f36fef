-- The units of a stream at the moments of a run.
use Rattle.std.specs.Prelude.{◌≡◌, ◌≤◌, ◌<◌, ℕ, ◌^◌, Bool, true, false, None, List, map, length}
use Rattle.pes_packet.specs.AccessUnits.{AccessUnit}
use Rattle.pid_findings.specs.Views.{FindingView}
use Rattle.es_units.specs.CarriedUnits.{carried_units}
use Rattle.es_moments.specs.MadeDts.{made_units}
use Rattle.es_moments.specs.RisingDts.{dts_are_made, rising_units}
use Rattle.es_moments.specs.Declaration.{min_interval, max_unit_size, max_pts_after, AllowsUnits}
use Rattle.es_units.specs.Laws.{FirstDue}
use Rattle.es_moments.specs.Stamps.{moved, first_fault}
use Rattle.std.specs.List.{list_any}
use Rattle.description_parts.specs.Described.{Described, DescribedStream}
use Rattle.description_parts.specs.Tables.{has_on_air}
use Rattle.job_programs.specs.JobStreams.{TimedStreamView, WireStreamView}
use Rattle.es_moments.specs.WireUnits.{CarriedUnit}

-- units as on the wire, at the moments that they have where the clock shows `base` at moment 0, each presented within some limit after its
-- DTS
pub record AreMoved (wire : List AccessUnit) (base : ℕ) (us : List AccessUnit) : Type 0 where
  pub range : base < 2 ^ 33
  pub limit : ℕ
  pub sound : first_fault limit base None 0 wire ≡ None
  pub are : us ≡ moved base None wire

-- the units that are found of a PID, with DTS that rise if their stamps allow it; or with DTS that are made from their PTS where that is asked
-- for
unfoldable pub source_of : Bool → ℕ → List FindingView → List CarriedUnit
source_of false pid findings = rising_units (carried_units pid findings)
source_of true pid findings = made_units (carried_units pid findings)

-- the units that are found of a PID keep their DTS, except that units of a data stream that are due at one moment get distinct DTS: none are made
abbrev pub KeepDts : ℕ → List FindingView → Type 0
KeepDts pid findings = dts_are_made (carried_units pid findings) ≡ false

-- these at moments by one constant
pub record AreFound (made : Bool) (findings : List FindingView) (pid : ℕ) (us : List AccessUnit) : Type 0 where
  pub base : ℕ
  pub moved : AreMoved (map (λ w. w.unit) (source_of made pid findings)) base us

-- the units of a stream are the units found on its PID
abbrev pub IsCarried : Bool → List FindingView → WireStreamView → Type 0
IsCarried made findings s = s.units ≡ source_of made s.pid findings

-- its units are these, at moments by one constant
abbrev pub IsMoved : Bool → List FindingView → TimedStreamView → Type 0
IsMoved made findings t = AreFound made findings t.pid t.units

-- a queue of a multiplexer may hold them
abbrev pub FitsQueue : TimedStreamView → Type 0
FitsQueue t = length t.units ≤ 1_048_576

-- a description declares of a stream what these units need, and a program on air has the stream
pub record Declares (d : Described) (s : DescribedStream) (us : List AccessUnit) : Type 0 where
  pub interval : s.interval ≤ min_interval us
  pub size : max_unit_size us ≤ s.size
  pub pts : max_pts_after us ≤ s.pts_limit
  pub lead : FirstDue s.lead us
  pub allowance : AllowsUnits s.allowance s.stream_id d.base0 us
  pub on_air : list_any (has_on_air s) d.programs ≡ true
