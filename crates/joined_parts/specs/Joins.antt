-- The parts of a recording between its cuts, one after another. Stamps count 90 kHz modulo 2^33 (ISO/IEC 13818-1, 2.4.3.7). Each part after a cut has one
-- constant that is added to its stamps, so that its least DTS comes 0.3 s after the greatest DTS of the part before it.
use Rattle.std.specs.Prelude.{ℕ, ◌+◌, ◌%◌, ◌^◌, ◌==◌, ◌&&◌, ◌||◌, nat_le, nat_lt, not, Bool, true, max, min, if◌then◌else◌, Option, Some, None, unwrap_or}
use Rattle.std.specs.Prelude.{List, [], ◌∷◌, ◌++◌, find, fold}
use Rattle.fed_streams.specs.Ticks.{jump_pause}
use Rattle.es_moments.specs.Stamps.{distance}
use Rattle.joined_parts.specs.declared.cuts.Cut.{Cut}
use Rattle.joined_parts.specs.declared.joins.Join.{Join}
use Rattle.joined_parts.specs.declared.stamps.UnitStamp.{UnitStamp}

-- 1. Which unit is in which part

-- a unit comes after a cut of its clock if it begins in the packet at which the clock jumps, or later; or between the references before and after the jump,
-- if its DTS is nearer after the one after it
unfoldable pub is_after : Cut → UnitStamp → Bool
is_after cut s = cut.pid == s.clock
    && (nat_le cut.packet s.packet || (nat_lt cut.since s.packet && nat_lt (distance cut.base s.dts) (distance cut.before s.dts)))

unfoldable pub is_from : Option Cut → UnitStamp → Bool
is_from None s = true
is_from (Some cut) s = is_after cut s

unfoldable pub is_until : Option Cut → UnitStamp → Bool
is_until None s = true
is_until (Some cut) s = not (is_after cut s)

-- it is of a clock, in the part from one cut of it until the next
abbrev pub is_between : ℕ → Option Cut → Option Cut → UnitStamp → Bool
is_between pid from to s = s.clock == pid && (is_from from s && is_until to s)

-- 2. The greatest DTS before a cut, and the least one after it

-- a DTS that is further than 10 s after a reference says nothing of it
abbrev pub nearest : ℕ
nearest = 900_000

-- how long after the last reference before a cut the greatest DTS of the part before it is; 0 if all are before that reference
abbrev pub with_reach : Option Cut → Cut → ℕ → UnitStamp → ℕ
with_reach before cut reach s =
    if is_between cut.pid before (Some cut) s && nat_le (distance cut.before s.dts) nearest then max reach (distance cut.before s.dts) else reach

abbrev pub reach_of : Option Cut → Cut → List UnitStamp → ℕ
reach_of before cut stamps = fold (with_reach before cut) 0 stamps

-- how long after the first reference after a cut the least DTS of the part after it is
unfoldable pub least_of : Option ℕ → ℕ → Option ℕ
least_of None lead = Some lead
least_of (Some least) lead = Some (min least lead)

abbrev pub with_lead : Cut → Option Cut → Option ℕ → UnitStamp → Option ℕ
with_lead cut next lead s =
    if is_between cut.pid (Some cut) next s && nat_le (distance cut.base s.dts) nearest then least_of lead (distance cut.base s.dts) else lead

abbrev pub lead_of : Cut → Option Cut → List UnitStamp → ℕ
lead_of cut next stamps = unwrap_or (fold (with_lead cut next) None stamps) 0

-- 3. The constants

abbrev pub later : ℕ → ℕ → ℕ
later stamp by = (stamp % 2 ^ 33 + by % 2 ^ 33) % 2 ^ 33

-- the last join of a clock
abbrev pub with_join : ℕ → Option Join → Join → Option Join
with_join pid before j = if j.cut.pid == pid then Some j else before

abbrev pub join_before : ℕ → List Join → Option Join
join_before pid joins = fold (with_join pid) None joins

unfoldable pub cut_if : Option Join → Option Cut
cut_if None = None
cut_if (Some j) = Some j.cut

unfoldable pub shift_if : Option Join → ℕ
shift_if None = 0
shift_if (Some j) = j.shift

-- the constant after a cut, where this is the constant before it
abbrev pub shift_after : Cut → ℕ → ℕ → ℕ → ℕ
shift_after cut before reach lead = distance (later cut.base lead) (later (later cut.before before) (later reach jump_pause))

abbrev pub next_cut : ℕ → List Cut → Option Cut
next_cut pid cuts = find (λ c. c.pid == pid) cuts

-- a cut with its constant, after `before` and before the cut `next`
abbrev pub joined_after : List UnitStamp → Option Join → Cut → Option Cut → Join
joined_after stamps before cut next = record {
  cut = cut;
  shift = shift_after cut (shift_if before) (reach_of (cut_if before) cut stamps) (lead_of cut next stamps);
}

abbrev pub join_of : List UnitStamp → List Join → Cut → List Cut → Join
join_of stamps joins cut cuts = joined_after stamps (join_before cut.pid joins) cut (next_cut cut.pid cuts)

unfoldable pub joins_after : List UnitStamp → List Join → List Cut → List Join
joins_after stamps joins [] = joins
joins_after stamps joins (c ∷ cs) = joins_after stamps (joins ++ join_of stamps joins c cs ∷ []) cs

abbrev pub joins_of : List UnitStamp → List Cut → List Join
joins_of stamps cuts = joins_after stamps [] cuts
