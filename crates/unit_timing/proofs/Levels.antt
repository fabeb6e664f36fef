-- One more unit that keeps the declaration
use Rattle.std.proofs.Common.{◌≡◌, ℕ, zero, suc, ◌+◌, ◌-◌, ◌*◌, ◌<◌, ◌≤◌, max, false, List, [], ◌∷◌, ◌++◌, refl, arith}
use Rattle.std.proofs.lemmas.Bool.{ltb-false, le-ltb}
use Rattle.unit_timing.specs.declared.allowance.Allowance.{Allowance}
use Rattle.unit_timing.specs.declared.allowance.Allowance.TheVariants.{Groups, Pace}
use Rattle.unit_timing.specs.PesPacket.{PesPacket, packets_of_unit, Spaced, GroupsWithin, next_due, last_packets}
use Rattle.unit_timing.specs.Allowances.{pace_curve, Allows, KeepsAllowance, allowance_rows}
use Rattle.unit_timing.specs.Levels.{next_level, level_after, last_due, greatest_after, level, greatest_level, is_over, AllowanceMoreLaw}
use Rattle.unit_timing.proofs.OneMoreUnit.{spaced_more_law, declared_more, declared_back}
use Rattle.unit_timing.proofs.Bursting.{burst_law}

-- ---- The level continues from its last value

level_more : (pace : ℕ) (units : List PesPacket) (unit : PesPacket) (level last : ℕ) →
    level_after pace level last (units ++ unit ∷ []) ≡ next_level pace (level_after pace level last units) (last_due last units) unit
unfolding level_after last_due
level_more pace [] unit level last = refl
level_more pace (first ∷ units) unit level last = level_more pace units unit (next_level pace level last first) first.dts

greatest_more : (pace : ℕ) (units : List PesPacket) (unit : PesPacket) (level last : ℕ) → greatest_after pace level last (units ++ unit ∷ [])
    ≡ max (greatest_after pace level last units) (next_level pace (level_after pace level last units) (last_due last units) unit)
unfolding greatest_after level_after last_due
greatest_more pace [] unit level last = omega arith
greatest_more pace (first ∷ units) unit level last =
    let rest = greatest_more pace units unit (next_level pace level last first) first.dts in
    rw rest (omega arith)

due_after : (apart : ℕ) (units : List PesPacket) (last : ℕ) → next_due apart (last + apart) units ≡ last_due last units + apart
unfolding next_due last_due
due_after apart [] last = refl
due_after apart (unit ∷ units) last = due_after apart units unit.dts

last_known : (apart : ℕ) (units : List PesPacket) → next_due apart 0 units - apart ≡ last_due 0 units
unfolding next_due last_due
last_known apart [] = omega arith
last_known apart (unit ∷ units) = omega (arith, due_after apart units unit.dts)

-- ---- Groups

groups_more : (g most n : ℕ) (units : List PesPacket) (unit : PesPacket) → 0 < g → GroupsWithin g most n units → packets_of_unit unit ≤ n →
    last_packets (g - 1) units + packets_of_unit unit ≤ most → GroupsWithin g most n (units ++ unit ∷ [])
groups_more zero most n units unit some keeps few fits = absurd (omega (arith, some))
groups_more (suc m) most n units unit some keeps few fits =
    let e : suc m - 1 ≡ m = omega arith in
    declared_more m most n units unit keeps few (rw e at fits)

groups_back : (g most n : ℕ) (units : List PesPacket) (unit : PesPacket) → 0 < g → GroupsWithin g most n (units ++ unit ∷ []) →
    GroupsWithin g most n units × (last_packets (g - 1) units + packets_of_unit unit ≤ most)
groups_back zero most n units unit some keeps = absurd (omega (arith, some))
groups_back (suc m) most n units unit some keeps =
    let e : suc m - 1 ≡ m = omega arith in
    let parts = declared_back m most n units unit keeps in
    (parts.0, rw e parts.2)

-- ---- Paces

pace_more : (burst pace apart from : ℕ) (units : List PesPacket) (unit : PesPacket) → Spaced apart from (units ++ unit ∷ []) →
    Allows packets_of_unit (pace_curve burst pace) units → next_level pace (level pace units) (last_due 0 units) unit ≤ burst * 135360000 →
    Allows packets_of_unit (pace_curve burst pace) (units ++ unit ∷ [])
pace_more burst pace apart from units unit spaced allows fits =
    let before = burst_law.back burst pace apart from units (spaced_more_law.back apart from units unit spaced).0 allows in
    burst_law.more burst pace apart from (units ++ unit ∷ []) spaced (omega (arith, greatest_more pace units unit 0 0, before, fits))

pace_back : (burst pace apart from : ℕ) (units : List PesPacket) (unit : PesPacket) → Spaced apart from (units ++ unit ∷ []) →
    Allows packets_of_unit (pace_curve burst pace) (units ++ unit ∷ []) →
    Allows packets_of_unit (pace_curve burst pace) units × (next_level pace (level pace units) (last_due 0 units) unit ≤ burst * 135360000)
pace_back burst pace apart from units unit spaced allows =
    let all = burst_law.back burst pace apart from (units ++ unit ∷ []) spaced allows in
    let parts = greatest_more pace units unit 0 0 in
    let before : greatest_level pace units ≤ burst * 135360000 = omega (arith, parts, all) in
    (burst_law.more burst pace apart from units (spaced_more_law.back apart from units unit spaced).0 before, omega (arith, parts, all))

-- ---- Both kinds of allowance

more : (a : Allowance) (n apart from : ℕ) (units : List PesPacket) (unit : PesPacket) → 0 < allowance_rows a → Spaced apart from (units ++ unit ∷ []) →
    KeepsAllowance a n units → packets_of_unit unit ≤ n → is_over a units unit ≡ false → KeepsAllowance a n (units ++ unit ∷ [])
more (Groups g most) n apart from units unit some spaced keeps few fits =
    groups_more g most n units unit some keeps few (ltb-false most (last_packets (g - 1) units + packets_of_unit unit) fits)
more (Pace burst pace) n apart from units unit some spaced keeps few fits =
    pace_more burst pace apart from units unit spaced keeps
    (ltb-false (burst * 135360000) (next_level pace (level pace units) (last_due 0 units) unit) fits)

back : (a : Allowance) (n apart from : ℕ) (units : List PesPacket) (unit : PesPacket) → 0 < allowance_rows a → Spaced apart from (units ++ unit ∷ []) →
    KeepsAllowance a n (units ++ unit ∷ []) → KeepsAllowance a n units × (is_over a units unit ≡ false)
back (Groups g most) n apart from units unit some spaced keeps =
    let parts = groups_back g most n units unit some keeps in
    (parts.0, le-ltb most (last_packets (g - 1) units + packets_of_unit unit) parts.1)
back (Pace burst pace) n apart from units unit some spaced keeps =
    let parts = pace_back burst pace apart from units unit spaced keeps in
    (parts.0, le-ltb (burst * 135360000) (next_level pace (level pace units) (last_due 0 units) unit) parts.1)

pub allowance_more_law : AllowanceMoreLaw
allowance_more_law = record {
  more = more;
  back = back;
  next = λ pace units unit. level_more pace units unit 0 0;
  greatest = λ pace units unit. greatest_more pace units unit 0 0;
  last = last_known;
}
