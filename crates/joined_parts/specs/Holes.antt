-- Where a clock has no references for a while, and its streams go on: time passes there, and the clock does not jump. A clock reference is due each
-- 100 ms (ISO/IEC 13818-1, 2.7.2).
use Rattle.std.specs.Prelude.{ℕ, ◌-◌, ◌/◌, ◌==◌, ◌&&◌, nat_lt, not, Bool, List, filter}
use Rattle.std.specs.List.{list_any}
use Rattle.es_moments.specs.Stamps.{distance}
use Rattle.joined_parts.specs.JumpsAhead.{is_forward}
use Rattle.joined_parts.specs.declared.cuts.Cut.{Cut}
use Rattle.joined_parts.specs.declared.stamps.UnitStamp.{UnitStamp}

-- the time lies in the middle half of a gap
abbrev pub is_in_middle : ℕ → ℕ → Bool
is_in_middle gap after = nat_lt (gap / 4) after && nat_lt after (gap - gap / 4)

-- a unit of the clock begins between the two references, and is due in the middle half of the time between them
abbrev pub goes_on : Cut → UnitStamp → Bool
goes_on cut s = cut.pid == s.clock
    && (nat_lt cut.since s.packet && (nat_lt s.packet cut.packet && is_in_middle (distance cut.before cut.base) (distance cut.before s.dts)))

abbrev pub is_hole : List UnitStamp → Cut → Bool
is_hole stamps cut = is_forward cut && list_any (goes_on cut) stamps

-- the cuts at which a clock jumps
abbrev pub is_jump : List UnitStamp → Cut → Bool
is_jump stamps cut = not (is_hole stamps cut)

abbrev pub jumps_of : List UnitStamp → List Cut → List Cut
jumps_of stamps cuts = filter (is_jump stamps) cuts

abbrev pub holes_of : List UnitStamp → List Cut → List Cut
holes_of stamps cuts = filter (is_hole stamps) cuts
