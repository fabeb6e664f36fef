-- Units of data streams that are due at one moment, as they come: a unit is given when the next one begins, and its DTS is known by then.
use Rattle.std.specs.Prelude.{ℕ, Bool, false, Option, Some, None}
use Rattle.std.specs.Option.{option_to_list}
use Rattle.es_moments.specs.ApartUnits.{apart_by, is_same_next, next_place}
use Rattle.es_units.specs.UnitSteps.{ended_unit}
use Rattle.es_moments.specs.WireUnits.{CarriedUnit, unit_with}

-- a unit that is number `place` of a row of units due at one moment; `same`: the next unit is in the row too
unfoldable pub unit_apart : Bool → ℕ → CarriedUnit → CarriedUnit
unit_apart same place u = unit_with u.packet u.stream_id (apart_by same place u.unit.dts) u.unit.pts u.unit.marks u.unit.bytes

-- whether a given unit and the open unit after it are due at one moment; an open unit without bytes counts as none
unfoldable pub is_same_after : Option CarriedUnit → Option CarriedUnit → Bool
is_same_after None next = false
is_same_after (Some u) next = is_same_next u (option_to_list (ended_unit false next))

-- the unit that is given, if one is
unfoldable pub set_apart : Bool → ℕ → Option CarriedUnit → Option CarriedUnit
set_apart same place None = None
set_apart same place (Some u) = Some (unit_apart same place u)

-- how many units of a row are before the next one after it
unfoldable pub place_past : Bool → ℕ → Option CarriedUnit → ℕ
place_past same place None = place
place_past same place (Some u) = next_place same place
