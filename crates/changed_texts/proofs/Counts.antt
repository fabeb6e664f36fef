-- The number of each sub-table after all of them are set
use Rattle.std.proofs.Common.{◌≡◌, ℕ, zero, suc, ◌+◌, ◌-◌, ◌<◌, ◌≤◌, ◌==◌, nat_lt, Bool, true, false, List, length, Option, None, Some}
use Rattle.std.proofs.Common.{slice_get, fold, refl, ap, sym, subst, ◌∙◌, arith, ⊎_elim, if◌then◌else◌}
use Rattle.std.proofs.lemmas.Bool.{cases_lt, lt-ltb, ltb-true, ltb-false, eqb-true, eqb-false, ne_eqb}
use Rattle.std.proofs.lemmas.Option.{slice_get_within}
use Rattle.std.specs.Bool.{⊤}
use Rattle.std.specs.List.{range_with_len}
use Rattle.description_parts.specs.Described.{Described, DescribedProgram}
use Rattle.description_parts.specs.Numbers.{with_pmt_version, with_eit_count, numbered_if, numbered_at}
use Rattle.description_parts.specs.Ranges.{IsInRange}
use Rattle.description_parts.specs.Tables.{section_count}
use Rattle.description.specs.SubTables.{sub_table_number, numbered_sub_table, sub_table_of, program_number_by, count_of, with_count}
use Rattle.description.specs.Versions.{without_versions, SameTablesLaw, CountedLaw, CountLaw}
use Rattle.description.specs.declared.sub_table.SubTable.{SubTable}
use Rattle.description.specs.declared.sub_table.SubTable.TheVariants.{Pat, Nit, Sdt, Map, Events}
use Rattle.changed_texts.specs.Versions.{with_count_at, with_counts}

-- A sub-table by its number
number_if : (a b c l : Bool) (n : ℕ) → (n == 0) ≡ a → (n == 1) ≡ b → (n == 2) ≡ c → nat_lt n 67 ≡ l
    → sub_table_number (if a then Pat else (if b then Nit else (if c then Sdt else (if l then Map (n - 3) else Events (n - 67))))) ≡ n
number_if true b c l n is_a is_b is_c is_l = sym (eqb-true n 0 is_a)
number_if false true c l n is_a is_b is_c is_l = sym (eqb-true n 1 is_b)
number_if false false true l n is_a is_b is_c is_l = sym (eqb-true n 2 is_c)
number_if false false false true n is_a is_b is_c is_l =
    let first : n ≡ 0 → ⊥ = eqb-false n 0 is_a in
    let second : n ≡ 1 → ⊥ = eqb-false n 1 is_b in
    let third : n ≡ 2 → ⊥ = eqb-false n 2 is_c in
    let is : 3 + (n - 3) ≡ n = omega (arith, first, second, third) in
    is
number_if false false false false n is_a is_b is_c is_l = let is : 67 + (n - 67) ≡ n = omega (arith, ltb-false n 67 is_l) in is

pub number_numbered : (n : ℕ) → sub_table_number (numbered_sub_table n) ≡ n
number_numbered n = number_if (n == 0) (n == 1) (n == 2) (nat_lt n 67) n refl refl refl refl

-- The place of a sub-table is one of 64.
abbrev pub HasPlace : SubTable → Type 0
HasPlace Pat = ⊤
HasPlace Nit = ⊤
HasPlace Sdt = ⊤
HasPlace (Map p) = p < 64
HasPlace (Events p) = p < 64

map_late : (p n : ℕ) (b : Bool) → n ≡ 3 + p → b ≡ true → (if b then Map (n - 3) else Events (n - 67)) ≡ Map p
map_late p n true is h = let same : n - 3 ≡ p = omega (arith, is) in ap Map same
map_late p n false is h = absurd (cc)

events_late : (p n : ℕ) (b : Bool) → n ≡ 67 + p → b ≡ false → (if b then Map (n - 3) else Events (n - 67)) ≡ Events p
events_late p n true is h = absurd (cc)
events_late p n false is h = let same : n - 67 ≡ p = omega (arith, is) in ap Events same

not_below : (b : Bool) (m n : ℕ) → nat_lt m n ≡ b → n ≤ m → b ≡ false
not_below true m n is h = absurd (omega (arith, ltb-true m n is, h))
not_below false m n is h = refl

later_if : (a b c : Bool) (x y z w : SubTable) → a ≡ false → b ≡ false → c ≡ false → (if a then x else (if b then y else (if c then z else w))) ≡ w
later_if true b c x y z w is_a is_b is_c = absurd (cc)
later_if false true c x y z w is_a is_b is_c = absurd (cc)
later_if false false true x y z w is_a is_b is_c = absurd (cc)
later_if false false false x y z w is_a is_b is_c = refl

late : (n : ℕ) → 3 ≤ n → numbered_sub_table n ≡ (if nat_lt n 67 then Map (n - 3) else Events (n - 67))
late n h =
    later_if (n == 0) (n == 1) (n == 2) Pat Nit Sdt (if nat_lt n 67 then Map (n - 3) else Events (n - 67))
    (ne_eqb n 0 (λ same. omega (arith, same, h))) (ne_eqb n 1 (λ same. omega (arith, same, h))) (ne_eqb n 2 (λ same. omega (arith, same, h)))

pub numbered_number : (x : SubTable) → HasPlace x → numbered_sub_table (sub_table_number x) ≡ x
numbered_number Pat h = refl
numbered_number Nit h = refl
numbered_number Sdt h = refl
numbered_number (Map p) h = late (3 + p) (omega arith) ∙ map_late p (3 + p) (nat_lt (3 + p) 67) refl (lt-ltb (3 + p) 67 (omega (arith, h)))
numbered_number (Events p) h =
    late (67 + p) (omega arith) ∙ events_late p (67 + p) (nat_lt (67 + p) 67) refl (not_below (nat_lt (67 + p) 67) (67 + p) 67 refl (omega arith))

-- A sub-table whose number can be set has a program.
within_if : (f : DescribedProgram → ℕ) (g : DescribedProgram → DescribedProgram) (i : ℕ) (ps : List DescribedProgram) (o : Option DescribedProgram)
    → slice_get ps i ≡ o → program_number_by f (slice_get (numbered_if g i ps o) i) ≡ 1 → i < length ps
within_if f g i ps None is h =
    let none : program_number_by f (slice_get ps i) ≡ 0 = ap (program_number_by f) is in absurd (omega (arith, none, h))
within_if f g i ps (Some p) is h = slice_get_within ps i p is

set_within : (f : DescribedProgram → ℕ) (g : DescribedProgram → DescribedProgram) (i : ℕ) (ps : List DescribedProgram)
    → program_number_by f (slice_get (numbered_at g i ps) i) ≡ 1 → i < length ps
set_within f g i ps h = within_if f g i ps (slice_get ps i) refl h

set_place : (d : Described) (x : SubTable) → length d.programs ≤ 64 → count_of (with_count d x 1) x ≡ 1 → HasPlace x
set_place d Pat most h = tt
set_place d Nit most h = tt
set_place d Sdt most h = tt
set_place d (Map p) most h = let within = set_within (λ q. q.pmt_version) (with_pmt_version 1) p d.programs h in omega (arith, within, most)
set_place d (Events p) most h = let within = set_within (λ q. q.eit_count) (with_eit_count 1) p d.programs h in omega (arith, within, most)

pub has_place : CountLaw → (d : Described) (t section : ℕ) (x : SubTable) → IsInRange d → section < section_count d t → sub_table_of d t section ≡ Some x → HasPlace x
has_place law d t section x ranges within of = set_place d x ranges.most_programs (law d t section 1 x within of)

pub number_below : (x : SubTable) → HasPlace x → sub_table_number x < 131
number_below Pat h = omega arith
number_below Nit h = omega arith
number_below Sdt h = omega arith
number_below (Map p) h = let is : 3 + p < 131 = omega (arith, h) in is
number_below (Events p) h = let is : 67 + p < 131 = omega (arith, h) in is

-- Nothing but numbers changes.
same_after : CountedLaw → (count : ℕ → ℕ) (d : Described) (a n : ℕ)
    → without_versions (fold (with_count_at count) d (range_with_len a n)) ≡ without_versions d
same_after law count d a zero = refl
same_after law count d a (suc n) =
    same_after law count (with_count_at count d a) (a + 1) n ∙ (law d (numbered_sub_table a) (count a)).same

range_after : CountedLaw → (count : ℕ → ℕ) → ((i : ℕ) → count i < 32) → (d : Described) (a n : ℕ) → IsInRange d
    → IsInRange (fold (with_count_at count) d (range_with_len a n))
range_after law count below d a zero ranges = ranges
range_after law count below d a (suc n) ranges =
    range_after law count below (with_count_at count d a) (a + 1) n ((law d (numbered_sub_table a) (count a)).range ranges (below a))

pub same_counts : CountedLaw → (count : ℕ → ℕ) (d : Described) → without_versions (with_counts d count) ≡ without_versions d
unfolding with_counts
same_counts law count d = same_after law count d 0 131

pub range_counts : CountedLaw → (count : ℕ → ℕ) → ((i : ℕ) → count i < 32) → (d : Described) → IsInRange d → IsInRange (with_counts d count)
unfolding with_counts
range_counts law count below d ranges = range_after law count below d 0 131 ranges

-- A number that is set stays as it is.
stays_after : CountedLaw → (count : ℕ → ℕ) (d : Described) (a n : ℕ) (y : SubTable) → sub_table_number y < a
    → count_of (fold (with_count_at count) d (range_with_len a n)) y ≡ count_of d y
stays_after law count d a zero y h = refl
stays_after law count d a (suc n) y h =
    stays_after law count (with_count_at count d a) (a + 1) n y (omega (arith, h))
    ∙ (law d (numbered_sub_table a) (count a)).others y (λ same. omega (arith, same, number_numbered a, h))

set_here : CountLaw → (count : ℕ → ℕ) (d : Described) (t section a : ℕ) (y : SubTable) → numbered_sub_table (sub_table_number y) ≡ y
    → section < section_count d t → sub_table_of d t section ≡ Some y → sub_table_number y ≡ a
    → count_of (with_count_at count d a) y ≡ count (sub_table_number y)
set_here law count d t section a y is within of here =
    subst (λ i. count_of (with_count_at count d i) y ≡ count (sub_table_number y)) here
    (subst (λ z. count_of (with_count d z (count (sub_table_number y))) y ≡ count (sub_table_number y)) (sym is)
    (law d t section (count (sub_table_number y)) y within of))

set_after : CountedLaw → CountLaw → SameTablesLaw → (count : ℕ → ℕ) (d : Described) (t section a n : ℕ) (y : SubTable)
    → numbered_sub_table (sub_table_number y) ≡ y → section < section_count d t → sub_table_of d t section ≡ Some y → a ≤ sub_table_number y
    → sub_table_number y < a + n → count_of (fold (with_count_at count) d (range_with_len a n)) y ≡ count (sub_table_number y)
set_after counted law tables count d t section a zero y is within of low high = absurd (omega (arith, low, high))
set_after counted law tables count d t section a (suc n) y is within of low high =
    ⊎_elim (λ later.
    let same = tables (with_count_at count d a) d (counted d (numbered_sub_table a) (count a)).same in
    set_after counted law tables count (with_count_at count d a) t section (a + 1) n y is
    (subst (λ (lengths : List ℕ). section < length lengths) (sym (same.lengths t)) within) (same.sub_tables t section ∙ of) (omega (arith, later))
    (omega (arith, high)))
    (λ here.
    let at : sub_table_number y ≡ a = omega (arith, low, here) in
    stays_after counted count (with_count_at count d a) (a + 1) n y (omega (arith, at)) ∙ set_here law count d t section a y is within of at)
    (cases_lt a (sub_table_number y))

pub count_set : CountedLaw → CountLaw → SameTablesLaw → (count : ℕ → ℕ) (d : Described) (t section : ℕ) (x : SubTable) → HasPlace x
    → section < section_count d t → sub_table_of d t section ≡ Some x → count_of (with_counts d count) x ≡ count (sub_table_number x)
unfolding with_counts
count_set counted law tables count d t section x place within of =
    set_after counted law tables count d t section 0 131 x (numbered_number x place) within of (omega arith) (number_below x place)

-- The same numbers set
same_fold : (f g : ℕ → ℕ) (d : Described) (a n : ℕ) → ((i : ℕ) → i < a + n → f i ≡ g i)
    → fold (with_count_at f) d (range_with_len a n) ≡ fold (with_count_at g) d (range_with_len a n)
same_fold f g d a zero h = refl
same_fold f g d a (suc n) h =
    ap (λ count. fold (with_count_at f) (with_count d (numbered_sub_table a) count) (range_with_len (a + 1) n)) (h a (omega arith))
    ∙ same_fold f g (with_count_at g d a) (a + 1) n (λ i l. h i (omega (arith, l)))

-- The same numbers of sub-tables give the same texts.
pub alike_counts : (f g : ℕ → ℕ) (d : Described) → ((i : ℕ) → i < 131 → f i ≡ g i) → with_counts d f ≡ with_counts d g
unfolding with_counts
alike_counts f g d h = same_fold f g d 0 131 h
