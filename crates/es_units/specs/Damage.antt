-- Which warnings say that a stream is damaged, and which that something is in no unit.
use Rattle.std.specs.Prelude.{Bool, true, false}
use Rattle.es_units.specs.declared.unit_warning.UnitWarningCause.{UnitWarningCause}
use Rattle.es_units.specs.declared.unit_warning.UnitWarningCause.TheVariants.{Counter, Scrambled, Truncated, TruncatedByEnd, Section, BadSection, BadPes}
use Rattle.es_units.specs.declared.unit_warning.UnitWarningCause.TheVariants.{NoUnitBefore, OtherStreamId, PartLost, EmptyUnit, OpenEnded, Stray}

-- the end of a capture, a PES packet that may go on with a unit from before it, and a unit without bytes are no damage; nor is
-- that a part of a unit is lost, since what it is lost by is damage, unless it is the end of a capture. A unit that is carried
-- though its end is not known may be half a unit
abbrev pub is_damage : UnitWarningCause → Bool
is_damage (Counter expected found) = true
is_damage Scrambled = true
is_damage (Truncated size) = true
is_damage (TruncatedByEnd size) = false
is_damage Section = true
is_damage (BadSection error) = true
is_damage (BadPes error) = true
is_damage (NoUnitBefore size) = false
is_damage (OtherStreamId id size) = true
is_damage PartLost = false
is_damage EmptyUnit = false
is_damage OpenEnded = true
is_damage Stray = true

-- bytes are in no unit
abbrev pub is_left_out : UnitWarningCause → Bool
is_left_out (Counter expected found) = true
is_left_out Scrambled = true
is_left_out (Truncated size) = true
is_left_out (TruncatedByEnd size) = true
is_left_out Section = true
is_left_out (BadSection error) = true
is_left_out (BadPes error) = true
is_left_out (NoUnitBefore size) = true
is_left_out (OtherStreamId id size) = true
is_left_out PartLost = true
is_left_out EmptyUnit = false
is_left_out OpenEnded = false
is_left_out Stray = true

-- packets are scrambled
abbrev pub is_scrambled : UnitWarningCause → Bool
is_scrambled Scrambled = true
is_scrambled _ = false
