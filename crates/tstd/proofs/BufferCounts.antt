-- The bytes of a main buffer: counting and removing them.
use Rattle.std.proofs.Common.{◌≡◌, ℕ, ◌+◌, ◌<◌, ◌≤◌, nat_lt, nat_le, true, false, List, [], ◌∷◌, ◌++◌, length, drop, get_or, filter, refl, arith, add-one, inl}
use Rattle.std.proofs.Common.{inr}
use Rattle.std.proofs.lemmas.List.{drop_all}
use Rattle.std.proofs.Math.Seq.{drop-cons}
use Rattle.std.proofs.lemmas.Bool.{cases_Bool, leb-true, le-leb, and_parts, and_from}
use Rattle.std.proofs.lemmas.Bool.Decides.{nat_tests}
use Rattle.tstd.specs.declared.buffered_units.BufferedUnit.{BufferedUnit}
use Rattle.tstd.specs.BufferedUnits.{is_buffered, buffered_bytes, all_buffered, all_bytes, all_until}

-- The bytes of the units from i on are the bytes of unit i and of the later units.
pub bytes_next : (units : List BufferedUnit) (i : ℕ) (d : BufferedUnit) → i < length units → all_bytes (drop i units) ≡ (get_or units i d).bytes
    + all_bytes (drop (i + 1) units)
unfolding all_bytes
bytes_next units i d below = rw (drop-cons units i d below, add-one i) refl

pub until_next : (units : List BufferedUnit) (i : ℕ) (d : BufferedUnit) (n : ℕ) → i < length units → n ≤ (get_or units i d).until →
    all_until n (drop (i + 1) units) ≡ true →
    all_until n (drop i units) ≡ true
unfolding all_until
until_next units i d n below early rest =
    rw (drop-cons units i d below, le-leb n (get_or units i d).until early) (rw (add-one i) at rest)

-- No unit is left to count.
pub bytes_end : (units : List BufferedUnit) (i : ℕ) → length units ≤ i → all_bytes (drop i units) ≡ 0
unfolding all_bytes
bytes_end units i over = rw (drop_all i units over) refl

pub until_end : (units : List BufferedUnit) (i n : ℕ) → length units ≤ i → all_until n (drop i units) ≡ true
unfolding all_until
until_end units i n over = rw (drop_all i units over) refl

-- Dropping units that are removed by the moment m changes no later fullness.
pub there_filtered : (m x : ℕ) (units : List BufferedUnit) → m ≤ x → all_buffered x (filter (is_buffered m) units) ≡ all_buffered x units
unfolding all_buffered
there_filtered m x [] le = refl
there_filtered m x (unit ∷ units) le = elim (cases_Bool (is_buffered m unit)) [
  | inl there ↦ rw there (omega (arith, there_filtered m x units le))
  | inr gone ↦ rw gone (omega (arith, there_filtered m x units le, gone_later m x unit le gone))
]
  where
    gone_later : (m x : ℕ) (unit : BufferedUnit) → m ≤ x → is_buffered m unit ≡ false → buffered_bytes x unit ≡ 0
    gone_later m x unit le gone = grind (arith, nat_tests)

-- All bytes of the units that are kept are in the buffer.
pub filtered_there : (m : ℕ) (units : List BufferedUnit) → all_buffered m (filter (is_buffered m) units) ≡ all_bytes (filter (is_buffered m) units)
unfolding all_buffered all_bytes
filtered_there m [] = refl
filtered_there m (unit ∷ units) = elim (cases_Bool (is_buffered m unit)) [
  | inl there ↦ rw (there, there) (omega (arith, filtered_there m units))
  | inr gone ↦ rw gone (filtered_there m units)
]

pub fewer_bytes : (m : ℕ) (units : List BufferedUnit) → all_bytes (filter (is_buffered m) units) ≤ all_bytes units
unfolding all_bytes
fewer_bytes m [] = omega arith
fewer_bytes m (unit ∷ units) = elim (cases_Bool (is_buffered m unit)) [
  | inl there ↦ rw there (omega (arith, fewer_bytes m units))
  | inr gone ↦ rw gone (omega (arith, fewer_bytes m units))
]

-- Before the first removal all bytes are in the buffer.
pub early_there : (m next : ℕ) (units : List BufferedUnit) → m < next → all_until next units ≡ true → all_buffered m units ≡ all_bytes units
unfolding all_buffered all_bytes all_until
early_there m next [] lt early = refl
early_there m next (unit ∷ units) lt early =
    let parts = and_parts (nat_le next unit.until) (all_until next units) early in
    let late : next ≤ unit.until = leb-true next unit.until parts.0 in
    omega (arith, one m unit (omega (arith, late)), early_there m next units lt parts.1)
  where
    one : (m : ℕ) (unit : BufferedUnit) → m < unit.until → buffered_bytes m unit ≡ unit.bytes
    one m unit lt = grind (arith, nat_tests)

-- One more unit at the end.
pub there_pushed : (x : ℕ) (units : List BufferedUnit) (unit : BufferedUnit) → all_buffered x (units ++ (unit ∷ [])) ≡ all_buffered x units
    + buffered_bytes x unit
unfolding all_buffered
there_pushed x [] unit = omega arith
there_pushed x (s ∷ units) unit = omega (arith, there_pushed x units unit)

pub bytes_pushed : (units : List BufferedUnit) (unit : BufferedUnit) → all_bytes (units ++ (unit ∷ [])) ≡ all_bytes units + unit.bytes
unfolding all_bytes
bytes_pushed [] unit = omega arith
bytes_pushed (s ∷ units) unit = omega (arith, bytes_pushed units unit)

pub until_pushed : (next n : ℕ) (units : List BufferedUnit) (unit : BufferedUnit) → n ≤ next → n ≤ unit.until → all_until next units ≡ true →
    all_until n (units ++ (unit ∷ [])) ≡ true
unfolding all_until
until_pushed next n [] unit le last early = and_from (nat_le n unit.until) true (le-leb n unit.until last) refl
until_pushed next n (s ∷ units) unit le last early =
    let parts = and_parts (nat_le next s.until) (all_until next units) early in
    let first : n ≤ s.until = omega (arith, leb-true next s.until parts.0) in
    and_from (nat_le n s.until) (all_until n (units ++ (unit ∷ []))) (le-leb n s.until first) (until_pushed next n units unit le last parts.1)

-- A unit of 0 bytes adds nothing.
pub none_there : (x until : ℕ) → buffered_bytes x (record { until = until; bytes = 0 }) ≡ 0
none_there x until = elim (cases_Bool (nat_lt x until)) [ inl a ↦ rw a refl | inr a ↦ rw a refl ]

-- A unit without bytes adds nothing.
pub nothing_there : (x : ℕ) (unit : BufferedUnit) → unit.bytes ≤ 0 → buffered_bytes x unit ≡ 0
nothing_there x unit none = elim (cases_Bool (nat_lt x unit.until)) [ inl a ↦ rw a (omega (arith, none)) | inr a ↦ rw a refl ]
