-- One more unit at the end
use Rattle.std.proofs.Common.{◌≡◌, ℕ, suc, ◌+◌, ◌-◌, ◌<◌, ◌≤◌, List, [], ◌∷◌, ◌++◌, length, take, refl, inl, inr, arith, add-one}
use Rattle.std.proofs.lemmas.Bool.{cases_lt}
use Rattle.std.proofs.lemmas.List.{take_all, take-append-le, length-append}
use Rattle.std.proofs.lemmas.List.Sums.{sum_by-cons, sum_by-append}
use Rattle.unit_timing.specs.PesPacket.{PesPacket, packets_of_unit, packets_of_units, Spaced, GroupsWithin, Sized, next_due, last_packets, SpacedMoreLaw}
use Rattle.unit_timing.specs.PesPacket.{SizedMoreLaw, GroupMoreLaw}

spaced_more : (apart from : ℕ) (units : List PesPacket) (unit : PesPacket) → Spaced apart from units → next_due apart from units ≤ unit.dts →
    Spaced apart from (units ++ unit ∷ [])
unfolding Spaced next_due
spaced_more apart from [] unit spaced le = (le, tt)
spaced_more apart from (first ∷ units) unit spaced le = (spaced.0, spaced_more apart (first.dts + apart) units unit spaced.1 le)

spaced_back : (apart from : ℕ) (units : List PesPacket) (unit : PesPacket) → Spaced apart from (units ++ unit ∷ []) →
    Spaced apart from units × (next_due apart from units ≤ unit.dts)
unfolding Spaced next_due
spaced_back apart from [] unit spaced = (tt, spaced.0)
spaced_back apart from (first ∷ units) unit spaced =
    let rest = spaced_back apart (first.dts + apart) units unit spaced.1 in
    ((spaced.0, rest.0), rest.1)

pub spaced_more_law : SpacedMoreLaw
spaced_more_law = record { more = spaced_more; back = spaced_back }

sized_more : (largest : ℕ) (units : List PesPacket) (unit : PesPacket) → Sized largest units → unit.size ≤ largest → Sized largest (units ++ unit ∷ [])
unfolding Sized
sized_more largest [] unit sized le = (le, tt)
sized_more largest (first ∷ units) unit sized le = (sized.0, sized_more largest units unit sized.1 le)

sized_back : (largest : ℕ) (units : List PesPacket) (unit : PesPacket) → Sized largest (units ++ unit ∷ []) → Sized largest units × (unit.size ≤ largest)
unfolding Sized
sized_back largest [] unit sized = (tt, sized.0)
sized_back largest (first ∷ units) unit sized = let rest = sized_back largest units unit sized.1 in ((sized.0, rest.0), rest.1)

pub sized_more_law : SizedMoreLaw
sized_more_law = record { more = sized_more; back = sized_back }

-- The first m + 1 units when one more unit is appended: the same as before, or all units and the appended unit
full_group : (m : ℕ) (units : List PesPacket) (unit : PesPacket) → m < length units →
    packets_of_units (take (suc m) (units ++ unit ∷ [])) ≡ packets_of_units (take (suc m) units)
full_group m units unit lt = let le : suc m ≤ length units = omega arith in rw (take-append-le (suc m) units (unit ∷ [])) refl

open_group : (m : ℕ) (units : List PesPacket) (unit : PesPacket) → length units ≤ m →
    packets_of_units (take (suc m) (units ++ unit ∷ [])) ≡ last_packets m units + packets_of_unit unit
open_group m units unit le =
    let short : length (units ++ unit ∷ []) ≤ suc m = rw (length-append units (unit ∷ [])) (omega arith) in
    let none : length units - m ≡ 0 = omega arith in
    rw (take_all (suc m) (units ++ unit ∷ []) short, none, sum_by-append packets_of_unit units (unit ∷ []), sum_by-cons packets_of_unit unit []) (omega arith)

-- The last m units stay the same without the first unit, if at least m units follow it.
last_rest : (m : ℕ) (first : PesPacket) (units : List PesPacket) → m ≤ length units → last_packets m (first ∷ units) ≡ last_packets m units
last_rest m first units le = let e : suc (length units) - m ≡ suc (length units - m) = omega arith in rw e refl

last_all : (m : ℕ) (first : PesPacket) (units : List PesPacket) → length units < m → last_packets m (first ∷ units) ≡ packets_of_unit first
    + last_packets m units
last_all m first units lt =
    let e : suc (length units) - m ≡ 0 = omega arith in
    let z : length units - m ≡ 0 = omega arith in
    rw (e, z) (sum_by-cons packets_of_unit first units)

fewer_last : (m : ℕ) (first : PesPacket) (units : List PesPacket) → last_packets m units ≤ last_packets m (first ∷ units)
fewer_last m first units = elim (cases_lt (length units) m) [
  | inl lt ↦ omega (arith, last_all m first units lt)
  | inr le ↦ omega (arith, last_rest m first units le)
]

pub declared_more : (m most n : ℕ) (units : List PesPacket) (unit : PesPacket) → GroupsWithin (suc m) most n units → packets_of_unit unit ≤ n →
    last_packets m units + packets_of_unit unit ≤ most → GroupsWithin (suc m) most n (units ++ unit ∷ [])
unfolding GroupsWithin
declared_more m most n [] unit d few fits =
    let short : length {A = PesPacket} [] ≤ m = omega arith in
    (few, omega (arith, open_group m [] unit short, fits), tt)
declared_more m most n (first ∷ units) unit d few fits = (
  d.0,
  elim (cases_lt m (suc (length units))) [
    | inl full ↦ omega (arith, full_group m (first ∷ units) unit full, d.1)
    | inr open' ↦ omega (arith, open_group m (first ∷ units) unit open', fits)
  ],
  declared_more m most n units unit d.2 few (omega (arith, fewer_last m first units, fits)),
)

pub declared_back : (m most n : ℕ) (units : List PesPacket) (unit : PesPacket) → GroupsWithin (suc m) most n (units ++ unit ∷ []) →
    GroupsWithin (suc m) most n units × (packets_of_unit unit ≤ n) × (last_packets m units + packets_of_unit unit ≤ most)
unfolding GroupsWithin
declared_back m most n [] unit d =
    let short : length {A = PesPacket} [] ≤ m = omega arith in
    (tt, d.0, omega (arith, open_group m [] unit short, d.1))
declared_back m most n (first ∷ units) unit d =
    let rest = declared_back m most n units unit d.2 in
    elim (cases_lt m (suc (length units))) [
      | inl full ↦
          let le : m ≤ length units = omega arith in
          ((d.0, omega (arith, full_group m (first ∷ units) unit full, d.1), rest.0), rest.1, omega (arith, last_rest m first units le, rest.2))
      | inr open' ↦
          let fits : last_packets m (first ∷ units) + packets_of_unit unit ≤ most = omega (arith, open_group m (first ∷ units) unit open', d.1) in
          let short : length (first ∷ units) ≤ suc m = omega arith in
          let none : length (first ∷ units) - m ≡ 0 = omega arith in
          let all : packets_of_units (take (suc m) (first ∷ units)) ≡ last_packets m (first ∷ units) = rw (take_all (suc m) (first ∷ units) short, none) refl in
          ((d.0, omega (arith, all, fits), rest.0), rest.1, fits)
    ]

pub group_more_law : GroupMoreLaw
group_more_law = record {
  more = λ m most n units unit d few fits. rw (add-one m) (declared_more m most n units unit (rw (add-one m) at d) few fits);
  back = λ m most n units unit d. rw (add-one m) (declared_back m most n units unit (rw (add-one m) at d));
}
