-- The moments of units, and units at moments.
use Rattle.std.specs.Prelude.{ℕ, Option, List, [], ◌∷◌}
use Rattle.pes_packet.specs.AccessUnits.{AccessUnit}
use Rattle.es_moments.specs.Stamps.{dts_at, pts_at}
use Rattle.es_moments.specs.declared.unit_moments.UnitMoment.{UnitMoment}
use Rattle.es_moments.specs.WireUnits.{CarriedUnit}

-- the moments of stamps, after a DTS or at first
abbrev pub moment_at : ℕ → Option ℕ → ℕ → ℕ → UnitMoment
moment_at base before dts pts = record { dts = dts_at base before dts; pts = pts_at base (dts_at base before dts) pts }

-- the moments of a unit that is at its moments
abbrev pub moment_of : AccessUnit → UnitMoment
moment_of u = record { dts = u.dts; pts = u.pts }

-- a unit at moments
abbrev pub unit_at : UnitMoment → CarriedUnit → AccessUnit
unit_at m u = record { dts = m.dts; pts = m.pts; marks = u.unit.marks; bytes = u.unit.bytes }

-- units at moments, one after another
unfoldable pub units_at : List UnitMoment → List CarriedUnit → List AccessUnit
units_at (m ∷ ms) (u ∷ us) = unit_at m u ∷ units_at ms us
units_at _ _ = []
