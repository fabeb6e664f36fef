-- The units of a PID from its findings one by one: the unit that a finding completes, and the unit that is open after it.
use Rattle.std.specs.Prelude.{◌≡◌, ℕ, ◌==◌, ◌||◌, Bool, false, if◌then◌else◌, Option, Some, None, unwrap_or, List, [], ◌∷◌, ◌++◌, length}
use Rattle.std.specs.Option.{option_to_list}
use Rattle.pid_findings.specs.Views.{FindingView}
use Rattle.es_units.specs.CarriedUnits.{RoleView, Ignored, Start, Continuation, Interruption, role_of, end_of, is_cut, is_split, with_more}
use Rattle.es_units.specs.CarriedUnits.{carried_units}
use Rattle.es_moments.specs.WireUnits.{CarriedUnit}

-- the state of a PID: its number, whether a loss after a unit may be a loss of its part, and the open unit with the bytes that it has
-- so far
pub record UnitsSoFar : Type 0 where
  pub pid : ℕ
  pub split : Bool
  pub unit : Option CarriedUnit

-- 1. One finding

-- a unit, if no part of it is lost and it has bytes
abbrev pub if_whole : Bool → CarriedUnit → Option CarriedUnit
if_whole lost u = if lost then None else (if length u.unit.bytes == 0 then None else Some u)

-- the open unit, as it is given when it ends
unfoldable pub ended_unit : Bool → Option CarriedUnit → Option CarriedUnit
ended_unit lost None = None
ended_unit lost (Some u) = if_whole lost u

-- the packet in which a unit begins, and its DTS on the wire
unfoldable pub start_of : Option CarriedUnit → Option (ℕ × ℕ)
start_of None = None
start_of (Some u) = Some (u.packet, u.unit.dts)

-- there is one, of this stream_id
unfoldable pub has_id : ℕ → Option CarriedUnit → Bool
has_id id None = false
has_id id (Some u) = id == u.stream_id

-- with bytes of this stream_id after its own; bytes of another one end it
unfoldable pub lengthened : ℕ → List ℕ → Option CarriedUnit → Option CarriedUnit
lengthened id body None = None
lengthened id body (Some u) = if id == u.stream_id then Some (with_more u body) else None

-- the unit that a role completes: the open unit, if the role ends it
unfoldable pub made_whole : Bool → Option CarriedUnit → RoleView → Option CarriedUnit
made_whole split u Ignored = None
made_whole split u (Start next) = ended_unit false u
made_whole split u (Continuation id body) = if has_id id u then None else ended_unit split u
made_whole split u (Interruption unstamped) = ended_unit split u

-- whether a role cuts the open unit, with this stream_id: it ends the unit otherwise than by the start of the next unit
unfoldable pub cuts : Option ℕ → RoleView → Bool
cuts None role = false
cuts (Some id) role = unwrap_or (end_of id role) false

-- the open unit after a role
unfoldable pub goes_on_as : Option CarriedUnit → RoleView → Option CarriedUnit
goes_on_as u Ignored = u
goes_on_as u (Start next) = Some next
goes_on_as u (Continuation id body) = lengthened id body u
goes_on_as u (Interruption unstamped) = None

-- the state after a finding
abbrev pub after_finding : UnitsSoFar → FindingView → UnitsSoFar
after_finding s f = record s { unit = goes_on_as s.unit (role_of s.pid f) }

-- 2. Findings one after another

-- the units that have become whole
unfoldable pub given : UnitsSoFar → List FindingView → List CarriedUnit
given s [] = []
given s (f ∷ fs) = option_to_list (made_whole s.split s.unit (role_of s.pid f)) ++ given (after_finding s f) fs

-- the state after findings; the end of the findings completes the open unit
unfoldable pub after_findings : UnitsSoFar → List FindingView → UnitsSoFar
after_findings s [] = s
after_findings s (f ∷ fs) = after_findings (after_finding s f) fs

-- before the first finding
abbrev pub none_so_far : ℕ → Bool → UnitsSoFar
none_so_far pid split = record { pid = pid; split = split; unit = None }

-- 3. Laws

-- the units that later findings give come after the units of earlier findings, and change none of them
abbrev pub GivenInTurn : Type 0
GivenInTurn = (s : UnitsSoFar) (fs more : List FindingView) → given s (fs ++ more) ≡ given s fs ++ given (after_findings s fs) more

-- the units of a PID are the given units and the last unit
abbrev pub GivenAreCarried : Type 0
GivenAreCarried = (pid : ℕ) (fs : List FindingView) →
    let s = none_so_far pid (is_split pid fs) in
    carried_units pid fs ≡ given s fs ++ option_to_list (ended_unit false (after_findings s fs).unit)

-- a unit of these findings is cut
unfoldable pub is_start_cut : ℕ → RoleView → List FindingView → Bool
is_start_cut pid (Start u) fs = is_cut u.stream_id pid fs
is_start_cut pid _ fs = false

unfoldable pub has_cut : ℕ → List FindingView → Bool
has_cut pid [] = false
has_cut pid (f ∷ fs) = is_start_cut pid (role_of pid f) fs || has_cut pid fs

-- if no unit is cut, no unit is left out for a lost part, whether units have several PES packets or one
abbrev pub UncutAreCarried : Type 0
UncutAreCarried = (split : Bool) (pid : ℕ) (fs : List FindingView) → has_cut pid fs ≡ false →
    let s = none_so_far pid split in
    carried_units pid fs ≡ given s fs ++ option_to_list (ended_unit false (after_findings s fs).unit)
