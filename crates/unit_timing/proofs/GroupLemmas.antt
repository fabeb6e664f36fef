-- The packets of units in a row, bounded by groups, and their bytes, bounded by sizes
use Rattle.std.proofs.Common.{◌≡◌, ℕ, zero, suc, ◌+◌, ◌*◌, ◌/◌, ◌%◌, ◌<◌, ◌≤◌, min, List, [], ◌∷◌, take, drop, inl, inr, arith, sum_by}
use Rattle.std.proofs.Math.Nat.{le_trans, mul-le-mul_right, div-mul-le_self, div-add-mod}
use Rattle.std.proofs.lemmas.Bool.{cases_lt}
use Rattle.std.proofs.lemmas.Nat.{le-div, mod_below}
use Rattle.std.proofs.lemmas.List.Sums.{sum_by-cons, sum_by-append}
use Rattle.std.proofs.Math.Seq.{take-add}
use Rattle.unit_timing.specs.PesPacket.{PesPacket, packets_of_unit, packets_of_units, GroupsWithin, Sized, grouped}

-- Each of the next k units has at most n packets.
each_few : (g most n k : ℕ) (units : List PesPacket) → GroupsWithin g most n units → packets_of_units (take k units) ≤ k * n
unfolding GroupsWithin
each_few g most n zero units d = omega arith
each_few g most n (suc k) [] d = omega arith
each_few g most n (suc k) (unit ∷ units) d =
    rw (sum_by-cons packets_of_unit unit (take k units)) (omega (arith, d.0, each_few g most n k units d.2))

-- More units have no fewer packets.
more_packets : (j k : ℕ) (units : List PesPacket) → j ≤ k → packets_of_units (take j units) ≤ packets_of_units (take k units)
more_packets zero k units le = omega arith
more_packets (suc j) zero units le = absurd (omega arith)
more_packets (suc j) (suc k) [] le = omega arith
more_packets (suc j) (suc k) (unit ∷ units) le =
    let rest = more_packets j k units (omega arith) in
    rw (sum_by-cons packets_of_unit unit (take j units), sum_by-cons packets_of_unit unit (take k units)) (omega (arith, rest))

-- A group has at most `most` packets.
group_few : (g most n : ℕ) (units : List PesPacket) → GroupsWithin g most n units → packets_of_units (take g units) ≤ most
unfolding GroupsWithin
group_few zero most n [] d = omega arith
group_few (suc g) most n [] d = omega arith
group_few g most n (unit ∷ units) d = d.1

declared_rest : (g most n k : ℕ) (units : List PesPacket) → GroupsWithin g most n units → GroupsWithin g most n (drop k units)
unfolding GroupsWithin
declared_rest g most n zero units d = d
declared_rest g most n (suc k) [] d = d
declared_rest g most n (suc k) (unit ∷ units) d = declared_rest g most n k units d.2

-- The packets of q whole groups and `rest` more units
pub groups_few : (g most n rest q : ℕ) (units : List PesPacket) → rest ≤ g → GroupsWithin g most n units →
    packets_of_units (take (q * g + rest) units) ≤ q * most + min (rest * n) most
groups_few g most n rest zero units le d =
    let one = each_few g most n rest units d in
    let all = more_packets rest g units le in
    let e : 0 * g + rest ≡ rest = omega arith in
    rw e (omega (arith, one, all, group_few g most n units d))
groups_few g most n rest (suc q) units le d =
    let e : suc q * g + rest ≡ g + (q * g + rest) = omega arith in
    let more = groups_few g most n rest q (drop g units) le (declared_rest g most n g units d) in
    rw (e, take-add g (q * g + rest) units, sum_by-append packets_of_unit (take g units) (take (q * g + rest) (drop g units)))
    (omega (arith, more, group_few g most n units d))

-- ---- m + 1 units in a row: whole groups, and a last group of one unit up to all units

abbrev pub filled : ℕ → ℕ → ℕ → ℕ → ℕ
filled g most n m = m / g * most + min (suc (m % g) * n) most

pub filled_few : (g most n : ℕ) (units : List PesPacket) → 0 < g → GroupsWithin g most n units → (m : ℕ) →
    packets_of_units (take (suc m) units) ≤ filled g most n m
filled_few g most n units pos d m =
    let below : suc (m % g) ≤ g = omega (arith, mod_below m g pos) in
    let few = groups_few g most n (suc (m % g)) (m / g) units below d in
    let e : m / g * g + suc (m % g) ≡ suc m = omega (arith, div-add-mod m g) in
    rw e at few

pub div_rises : (m k d : ℕ) → 0 < d → m ≤ k → m / d ≤ k / d
div_rises m k d pos le = le-div (m / d) k d pos (le_trans (div-mul-le_self m d) le)

-- More units have no fewer packets, if a last group after equally many whole groups has no fewer packets.
last_rises : (g most m k x y : ℕ) → 0 < g → m ≤ k → (m / g ≡ k / g → x ≤ y) → m / g * most + min x most ≤ k / g * most + min y most
last_rises g most m k x y pos le rest = elim (cases_lt (m / g) (k / g)) [
  | inl lt ↦ omega (arith, mul-le-mul_right most lt)
  | inr ge ↦
      let e : m / g ≡ k / g = omega (arith, ge, div_rises m k g pos le) in
      rw e (omega (arith, rest e))
]

-- If two numbers of units have equally many whole groups, the greater number has the longer last group.
same_groups : (g m k : ℕ) → m ≤ k → m / g ≡ k / g → m % g ≤ k % g
same_groups g m k le e =
    let first : g * (m / g) + m % g ≡ m = div-add-mod m g in
    let second : g * (k / g) + k % g ≡ k = div-add-mod k g in
    omega (arith, le, rw e at first, second)

pub filled_rises : (g most n m k : ℕ) → 0 < g → m ≤ k → filled g most n m ≤ filled g most n k
filled_rises g most n m k pos le = last_rises g most m k (suc (m % g) * n) (suc (k % g) * n) pos le
    (λ e. let le' : suc (m % g) ≤ suc (k % g) = omega (arith, same_groups g m k le e) in mul-le-mul_right n le')

-- The bound for m + 1 units is at most the bound for any greater number of units.
pub filled_grouped : (g most n m k : ℕ) → 0 < g → m < k → filled g most n m ≤ grouped g most n k
filled_grouped g most n m k pos lt = last_rises g most m k (suc (m % g) * n) (k % g * n) pos (omega arith)
    (λ e.
    let first : g * (m / g) + m % g ≡ m = div-add-mod m g in
    let second : g * (k / g) + k % g ≡ k = div-add-mod k g in
    let le : suc (m % g) ≤ k % g = omega (arith, lt, rw e at first, second) in
    mul-le-mul_right n le)

-- ---- Bytes by sizes

pub sized_few : (largest k : ℕ) (units : List PesPacket) → Sized largest units → sum_by (λ t. t.size) (take k units) ≤ k * largest
unfolding Sized
sized_few largest zero units sized = omega arith
sized_few largest (suc k) [] sized = omega arith
sized_few largest (suc k) (unit ∷ units) sized =
    rw (sum_by-cons (λ t. t.size) unit (take k units)) (omega (arith, sized.0, sized_few largest k units sized.1))
