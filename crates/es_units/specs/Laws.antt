-- What the laws of this crate say.
use Rattle.std.specs.Prelude.{◌≡◌, ◌≤◌, ◌<◌, ℕ, ◌++◌, Bool, false, Option, None, List, [], ◌∷◌, length, flat_map, All}
use Rattle.std.specs.List.{list_any}
use Rattle.pes_packet.specs.AccessUnits.{AccessUnit}
use Rattle.unit_timing.specs.Allowances.{allowance_rows}
use Rattle.unit_queue.specs.OwnedStreams.{OwnedStream}
use Rattle.unit_queue.specs.Causes.{unit_cause}
use Rattle.unit_queue.specs.Queues.{Kept}
use Rattle.es_moments.specs.Stamps.{dts_after, moved, first_fault}
use Rattle.pid_findings.specs.Views.{FindingView}
use Rattle.demux.specs.Laws.{found_of}
use Rattle.es_units.specs.CarriedUnits.{RoleView, Ignored, Start, Continuation, Interruption, role_of, carried_units}
use Rattle.es_units.specs.Damage.{is_left_out}
use Rattle.es_units.specs.UnitWarnings.{unit_warnings}
use Rattle.es_units.specs.declared.unit_warning.UnitWarning.{UnitWarning}
use Rattle.es_moments.specs.Declaration.{min_interval, max_unit_size, max_pts_after, AllowsUnits}

-- the units of a PID depend on its findings alone
abbrev pub FindingsOfThePid : Type 0
FindingsOfThePid = (pid : ℕ) (findings : List FindingView) → carried_units pid (found_of pid findings) ≡ carried_units pid findings

-- the bytes that a finding has for the units of a PID: the bytes of a PES packet other than padding_stream
unfoldable pub body_of : RoleView → List ℕ
body_of Ignored = []
body_of (Start u) = u.unit.bytes
body_of (Continuation id body) = body
body_of (Interruption unstamped) = []

abbrev pub bodies : ℕ → List FindingView → List ℕ
bodies pid findings = flat_map (λ finding. body_of (role_of pid finding)) findings

-- a warning that something is in no unit: not that a unit without bytes is left out, nor that the end of a unit is not known
unfoldable pub leaves_out : UnitWarning → Bool
leaves_out w = is_left_out w.cause

-- if no warning reports something left out, the joined bytes of a PID's PES packets are the joined bytes of its units
abbrev pub NothingIsLost : Type 0
NothingIsLost = (pid count : ℕ) (findings : List FindingView) → list_any leaves_out (unit_warnings pid count findings) ≡ false →
    bodies pid findings ≡ flat_map (λ u. u.unit.bytes) (carried_units pid findings)

-- units moved in two lists are moved as in one list: later units change no moment
abbrev pub MovedInTurn : Type 0
MovedInTurn = (base : ℕ) (before : Option ℕ) (us more : List AccessUnit) →
    moved base before (us ++ more) ≡ moved base before us ++ moved base (dts_after base before us) more

-- the first unit is due no earlier than a moment
unfoldable pub FirstDue : ℕ → List AccessUnit → Type 0
FirstDue from [] = Unit {0}
FirstDue from (u ∷ us) = from ≤ u.dts

-- a stream declares at least what its units need
pub record Declares (l : OwnedStream) (us : List AccessUnit) : Type 0 where
  pub interval : l.parameters.interval ≤ min_interval us
  pub size : max_unit_size us ≤ l.parameters.size
  pub pts : max_pts_after us ≤ l.parameters.pts_limit
  pub lead : FirstDue l.parameters.lead us
  pub allowance : AllowsUnits l.parameters.allowance l.parameters.stream_id l.parameters.base0 us

-- units with bytes, and with stamps that can be moments, are within the declaration made from them
abbrev pub UnitsAreKept : Type 0
UnitsAreKept = (l : OwnedStream) (limit base : ℕ) (wire : List AccessUnit) → first_fault limit base None 0 wire ≡ None → All (λ u. 1 ≤ length u.bytes) wire →
    Declares l (moved base None wire) → Kept l (moved base None wire)

-- each of these units is then accepted after the units before it, before any slot is written, if there is room for one
abbrev pub TakenOneByOne : Type 0
TakenOneByOne = (l : OwnedStream) (capacity : ℕ) (us : List AccessUnit) (u : AccessUnit) (more : List AccessUnit) → 0 < allowance_rows l.parameters.allowance →
    Kept l (us ++ u ∷ more) → length us < capacity → unit_cause l 0 capacity us u ≡ None
