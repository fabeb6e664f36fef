-- All units of a stream: each unit ends where the next begins, the last unit with the stream.
--
-- Lists of parts have the last one first.
use Rattle.std.specs.Prelude.{ℕ, List, [], ◌∷◌, ◌++◌}
use Rattle.std.specs.Option.{option_to_list}
use Rattle.tstd_rows.specs.History.{Part, unit_of}
use Rattle.tstd_rows.specs.History.Part.{Passes, Carries, Begins}
use Rattle.tstd_rows.specs.declared.unit_seen.UnitSeen.{UnitSeen}

-- the units that have ended with these parts, in the order of the stream
unfoldable pub units_ended : ℕ → List Part → List UnitSeen
units_ended step [] = []
units_ended step (Passes times ∷ before) = units_ended step before
units_ended step (Carries times ∷ before) = units_ended step before
units_ended step (Begins due ∷ before) = units_ended step before ++ option_to_list (unit_of step before)

abbrev pub all_units : ℕ → List Part → List UnitSeen
all_units step parts = units_ended step parts ++ option_to_list (unit_of step parts)
