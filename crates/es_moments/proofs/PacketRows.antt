-- Sums of packets over rows of consecutive units of a stream
use Rattle.std.proofs.Common.{◌≡◌, ◌≤◌, ◌<◌, ℕ, zero, suc, ◌+◌, ◌*◌, ◌-◌, ◌^◌, ◌∙◌, ap, subst, min, max, List, [], ◌∷◌, ◌++◌, length, take, drop, get_or, map}
use Rattle.std.proofs.Common.{sum, All, refl, sym, arith, add-one}
use Rattle.std.proofs.lemmas.List.{drop-map, take-map, take_more, map-append, drop_more, get_or-drop, length-map, length-drop, length-take, take_all}
use Rattle.std.proofs.Math.Nat.{mul-le-mul_left, mul-le-mul_right}
use Rattle.std.proofs.lemmas.List.Elements.{All-nil, All-cons, All-head, All-tail, All-take, All-drop}
use Rattle.std.proofs.lemmas.List.Sums.{sum-map, sum_by-cons, sum_by_more, sum_by-le}
use Rattle.pes_packet.specs.AccessUnits.{AccessUnit}
use Rattle.unit_timing.specs.PesPacket.{PesPacket, packets_of_unit, packets_of_units}
use Rattle.es_moments.specs.CountedUnits.{max_row, row_packets}
use Rattle.es_moments.specs.Declaration.{AreAtMost, CountedPacketsView, counted_packets, group_packets, max_group, max_unit_packets, max_unit_size, timed_unit}
use Rattle.es_moments.specs.Declaration.{timed_units}

-- The number of packets of one more unit is appended.
pub number_more : (id base0 i n : ℕ) (units : List AccessUnit) (u : AccessUnit) (before after : List ℕ) → i < length units → u ≡ get_or units i u →
    n ≡ packets_of_unit (timed_unit id base0 u) → before ≡ map packets_of_unit (timed_units id base0 (take i units)) → after ≡ before ++ n ∷ [] →
    after ≡ map packets_of_unit (timed_units id base0 (take (i + 1) units))
number_more id base0 i n units u before after below at value so_far next =
    let more : take (i + 1) units ≡ take i units ++ u ∷ [] = take_more units i u below ∙ ap (λ (x : AccessUnit). take i units ++ x ∷ []) (sym at) in
    let parts : map packets_of_unit (timed_units id base0 (take i units ++ u ∷ [])) ≡ map packets_of_unit (timed_units id base0 (take i units))
    ++ packets_of_unit (timed_unit id base0 u) ∷ [] =
    ap (map packets_of_unit) (map-append (timed_unit id base0) (take i units) (u ∷ []))
    ∙ map-append packets_of_unit (timed_units id base0 (take i units)) (timed_unit id base0 u ∷ []) in
    next ∙ rw (so_far, value, more) (sym parts)

pub number_end : (id base0 i : ℕ) (units : List AccessUnit) (numbers : List ℕ) → length units ≤ i →
    numbers ≡ map packets_of_unit (timed_units id base0 (take i units)) →
    numbers ≡ map packets_of_unit (timed_units id base0 units)
number_end id base0 i units numbers over so_far = so_far ∙ ap (λ (us : List AccessUnit). map packets_of_unit (timed_units id base0 us)) (take_all i units over)

lengths_are : (units : List PesPacket) (numbers : List ℕ) → numbers ≡ map packets_of_unit units → length numbers ≡ length units
lengths_are units numbers is = rw is (length-map units packets_of_unit)

-- The packets of a row of units are the sum of their numbers.
pub row_is : (group at : ℕ) (units : List PesPacket) (numbers : List ℕ) → numbers ≡ map packets_of_unit units →
    sum (take group (drop at numbers)) ≡ packets_of_units (take group (drop at units))
row_is group at units numbers is =
    rw is (
    ap (λ (ns : List ℕ). sum (take group ns)) (drop-map packets_of_unit at units)
    ∙ ap sum (take-map packets_of_unit group (drop at units))
    ∙ sum-map packets_of_unit (take group (drop at units))
    )

-- The greatest row from a unit on is the row that begins there or a later row.
pub row_more : (group at row : ℕ) (units : List PesPacket) (numbers : List ℕ) → numbers ≡ map packets_of_unit units → at < length numbers →
    row ≡ sum (take group (drop at numbers)) → max_group group (drop at units) ≡ max row (max_group group (drop (at + 1) units))
unfolding max_group
row_more group at row units numbers is below counted =
    let first : PesPacket = record { dts = 0; size = 0; front = 0 } in
    let within : at < length units = omega (arith, below, lengths_are units numbers is) in
    let all : row ≡ packets_of_units (take group (drop at units)) = counted ∙ row_is group at units numbers is in
    let front : packets_of_units (take group (drop at units)) ≡ packets_of_units (take group (get_or units at first ∷ drop (at + 1) units)) =
    ap (λ (us : List PesPacket). packets_of_units (take group us)) (drop_more units at first within) in
    rw (drop_more units at first within) (omega (arith, all, front))

-- A row moves by one unit: the next unit enters, and the first unit leaves.
pub row_step : (group at : ℕ) (numbers : List ℕ) → group + at < length numbers →
    sum (take group (drop (at + 1) numbers)) + get_or numbers at 0 ≡ sum (take group (drop at numbers)) + get_or numbers (group + at) 0
row_step group at numbers below =
    let rest = drop (at + 1) numbers in
    let begun : drop at numbers ≡ get_or numbers at 0 ∷ rest = drop_more numbers at 0 (omega (arith, below)) in
    let front : sum (take (group + 1) (drop at numbers)) ≡ get_or numbers at 0 + sum (take group rest) =
    rw (begun, add-one group) (sum_by-cons (λ (n : ℕ). n) (get_or numbers at 0) (take group rest)) in
    let more : sum (take (group + 1) (drop at numbers)) ≡ sum (take group (drop at numbers)) + get_or (drop at numbers) group 0 =
    sum_by_more (λ (n : ℕ). n) (drop at numbers) group 0 (omega (arith, below, length-drop at numbers)) in
    let entering : get_or (drop at numbers) group 0 ≡ get_or numbers (group + at) 0 =
    rw (get_or-drop at numbers group 0) (ap (λ (i : ℕ). get_or numbers i 0) (omega arith)) in
    omega (arith, front, more, entering)

-- If units remain, the next unit enters the row.
pub entering_is : (group at n : ℕ) (numbers later : List ℕ) → n ≡ min group (length numbers) → later ≡ drop n numbers → at < length later →
    (group + at < length numbers) × (get_or later at 0 ≡ get_or numbers (group + at) 0)
entering_is group at n numbers later least is below =
    let long : length later ≡ length numbers - n = rw is (length-drop n numbers) in
    let full : n ≡ group = omega (arith, least, long, below) in
    (omega (arith, full, long, below), rw (is, full) (get_or-drop group numbers at 0))

-- If no unit remains, the row has all remaining units.
pub none_enters : (group at n : ℕ) (numbers later : List ℕ) → n ≡ min group (length numbers) → later ≡ drop n numbers → length later ≤ at →
    length numbers ≤ group + at
none_enters group at n numbers later least is over =
    let long : length later ≡ length numbers - n = rw is (length-drop n numbers) in
    omega (arith, least, long, over)

-- If there are no more units than a row has, the greatest sum is the sum of all units.
all_of_few : (group : ℕ) (units : List PesPacket) → length units ≤ group → max_group group units ≡ packets_of_units units
unfolding max_group
all_of_few group [] few = refl
all_of_few group (u ∷ us) few =
    let all = sum_by-cons packets_of_unit u us in
    let row : packets_of_units (take group (u ∷ us)) ≡ packets_of_units (u ∷ us) = ap packets_of_units (take_all group (u ∷ us) few) in
    let later = all_of_few group us (omega (arith, few)) in
    omega (arith, all, row, later)

pub row_end : (group at row : ℕ) (units : List PesPacket) (numbers : List ℕ) → numbers ≡ map packets_of_unit units → length numbers ≤ group + at →
    row ≡ sum (take group (drop at numbers)) → max_group group (drop at units) ≡ row
row_end group at row units numbers is over counted =
    let few : length (drop at units) ≤ group = omega (arith, over, lengths_are units numbers is, length-drop at units) in
    all_of_few group (drop at units) few ∙ ap packets_of_units (sym (take_all group (drop at units) few)) ∙ sym (row_is group at units numbers is) ∙ sym counted

-- A row of few units has few packets.
pub most_of_row : (group greatest at : ℕ) (numbers : List ℕ) → All (λ (n : ℕ). n ≤ greatest) numbers → sum (take group (drop at numbers)) ≤ group * greatest
most_of_row group greatest at numbers all =
    let part : All (λ (n : ℕ). n ≤ greatest) (take group (drop at numbers)) =
    All-take (λ (n : ℕ). n ≤ greatest) group (drop at numbers) (All-drop (λ (n : ℕ). n ≤ greatest) at numbers all) in
    let few : length (take group (drop at numbers)) ≤ group = omega (arith, length-take group (drop at numbers)) in
    omega (arith, sum_by-le (λ (n : ℕ). n) greatest (take group (drop at numbers)) part, mul-le-mul_right greatest few)

pub row_most : (group greatest at : ℕ) (numbers : List ℕ) → AreAtMost greatest numbers → sum (take group (drop at numbers)) ≤ group * 2 ^ 56
row_most group greatest at numbers all = omega (arith, most_of_row group greatest at numbers all.each, mul-le-mul_left group all.bound)

pub all_most : (group greatest : ℕ) → group ≤ 64 → greatest ≤ 2 ^ 56 → group * greatest ≤ 2 ^ 62
all_most group greatest few bound = omega (arith, mul-le-mul_right greatest few, bound)

-- No row has more packets than `group` times the greatest number, and if the first row has that many, it is the greatest.
rows_most : (group greatest : ℕ) (units : List PesPacket) → All (λ (u : PesPacket). packets_of_unit u ≤ greatest) units →
    max_group group units ≤ group * greatest
unfolding max_group
rows_most group greatest [] all = omega arith
rows_most group greatest (u ∷ us) all =
    let part = All-take (λ (v : PesPacket). packets_of_unit v ≤ greatest) group (u ∷ us) all in
    let few : length (take group (u ∷ us)) ≤ group = omega (arith, length-take group (u ∷ us)) in
    let later = rows_most group greatest us (All-tail (λ (v : PesPacket). packets_of_unit v ≤ greatest) u us all) in
    omega (arith, sum_by-le packets_of_unit greatest (take group (u ∷ us)) part, mul-le-mul_right greatest few, later)

numbers_most : (greatest : ℕ) (units : List PesPacket) → All (λ (n : ℕ). n ≤ greatest) (map packets_of_unit units) →
    All (λ (u : PesPacket). packets_of_unit u ≤ greatest) units
numbers_most greatest [] all = All-nil (λ (u : PesPacket). packets_of_unit u ≤ greatest)
numbers_most greatest (u ∷ us) all =
    All-cons (λ (v : PesPacket). packets_of_unit v ≤ greatest) u us (All-head (λ (n : ℕ). n ≤ greatest) (packets_of_unit u) (map packets_of_unit us) all)
    (numbers_most greatest us (All-tail (λ (n : ℕ). n ≤ greatest) (packets_of_unit u) (map packets_of_unit us) all))

first_row_least : (group : ℕ) (units : List PesPacket) → packets_of_units (take group units) ≤ max_group group units
unfolding max_group
first_row_least zero [] = omega arith
first_row_least (suc group) [] = omega arith
first_row_least group (u ∷ us) = omega arith

pub all_greatest : (group greatest row : ℕ) (units : List PesPacket) (numbers : List ℕ) → numbers ≡ map packets_of_unit units →
    All (λ (n : ℕ). n ≤ greatest) numbers →
    row ≡ sum (take group numbers) → row ≡ group * greatest → row ≡ max_group group units
all_greatest group greatest row units numbers is all counted full =
    let each : All (λ (n : ℕ). n ≤ greatest) (map packets_of_unit units) = subst (All (λ (n : ℕ). n ≤ greatest)) is all in
    let most = rows_most group greatest units (numbers_most greatest units each) in
    omega (arith, most, full, counted, row_is group 0 units numbers is, first_row_least group units)

-- The counted packets of units are the numbers and their greatest.
pub counted_is : (id base0 largest : ℕ) (units : List AccessUnit) (numbers : List ℕ) → numbers ≡ map packets_of_unit (timed_units id base0 units) →
    largest ≡ max_unit_packets (max_unit_size units) → counted_packets id base0 units ≡ record { numbers = numbers; largest = largest }
unfolding counted_packets
counted_is id base0 largest units numbers same most = rw (same, most) refl

-- Any number is the number of packets of some unit.
packet_of : ℕ → PesPacket
packet_of n = record { dts = 0; size = 184 * n - 183; front = 0 }

counts : (n : ℕ) → packets_of_unit (packet_of n) ≡ n
unfolding packet_of
counts n = omega arith

all_count : (ns : List ℕ) → map packets_of_unit (map packet_of ns) ≡ ns
all_count [] = refl
all_count (n ∷ ns) = rw (counts n, all_count ns) refl

row_count : (group : ℕ) (ns : List ℕ) → sum (take group ns) ≡ packets_of_units (take group (map packet_of ns))
row_count group ns =
    ap (λ (l : List ℕ). sum (take group l)) (sym (all_count ns)) ∙ ap sum (take-map packets_of_unit group (map packet_of ns))
    ∙ sum-map packets_of_unit (take group (map packet_of ns))

rows_count : (group : ℕ) (ns : List ℕ) → max_group group (map packet_of ns) ≡ max_row group ns
unfolding max_group max_row
rows_count group [] = refl
rows_count group (n ∷ ns) = omega (arith, row_count group (n ∷ ns), rows_count group ns)

pub row_packets_are : (group largest row : ℕ) (numbers : List ℕ) (counted : CountedPacketsView) → numbers ≡ counted.numbers → largest ≡ counted.largest →
    ((all : List PesPacket) → numbers ≡ map packets_of_unit all → row ≡ max_group group all) → max largest row ≡ row_packets group counted
row_packets_are group largest row numbers counted same most greatest =
    rw (sym same, sym most) (ap (max largest) (greatest (map packet_of numbers) (sym (all_count numbers)) ∙ rows_count group numbers))

pub group_is : (id base0 group largest row : ℕ) (units : List AccessUnit) (numbers : List ℕ) (counted : CountedPacketsView) → numbers ≡ counted.numbers →
    largest ≡ counted.largest →
    counted ≡ counted_packets id base0 units → ((all : List PesPacket) → numbers ≡ map packets_of_unit all → row ≡ max_group group all) →
    max largest row ≡ group_packets id base0 group units
unfolding counted_packets
group_is id base0 group largest row units numbers counted same most is greatest =
    let each : numbers ≡ map packets_of_unit (timed_units id base0 units) = same ∙ ap (λ (c : CountedPacketsView). c.numbers) is in
    let one : largest ≡ max_unit_packets (max_unit_size units) = most ∙ ap (λ (c : CountedPacketsView). c.largest) is in
    rw (one, greatest (timed_units id base0 units) each) refl
