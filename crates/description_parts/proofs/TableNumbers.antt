-- The number of each table
use Rattle.std.proofs.Common.{◌≡◌, ℕ, zero, suc, ◌+◌, ◌-◌, ◌<◌, ◌≤◌, List, [], ◌∷◌, ◌++◌, length, map, get_or, slice_get, None, Some, refl, ap, sym, ◌∙◌, arith}
use Rattle.std.proofs.Common.{zero-add, add-zero}
use Rattle.std.proofs.lemmas.List.{length-append, length-map}
use Rattle.std.proofs.lemmas.Option.{slice_get-get_or, slice_get_past}
use Rattle.description_parts.specs.Described.{Described}
use Rattle.description_parts.specs.Tables.{numbers_from, service_tables, table_kind, table_count}
use Rattle.description_parts.specs.declared.table_kind.TableKind.TheVariants.{Pat, Pmt, Private}

slice_get-append_left : {X : Type 0} (xs ys : List X) (i : ℕ) → i < length xs → slice_get (xs ++ ys) i ≡ slice_get xs i
slice_get-append_left [] ys i h = absurd (omega arith)
slice_get-append_left (x ∷ xs) ys zero h = refl
slice_get-append_left (x ∷ xs) ys (suc i) h = slice_get-append_left xs ys i (omega arith)

slice_get-append_right : {X : Type 0} (xs ys : List X) (i : ℕ) → slice_get (xs ++ ys) (length xs + i) ≡ slice_get ys i
slice_get-append_right [] ys i = ap (slice_get ys) (zero-add i)
slice_get-append_right (x ∷ xs) ys i =
    let is : length (x ∷ xs) + i ≡ suc (length xs + i) = omega arith in
    rw is (slice_get-append_right xs ys i)

pub length-numbers_from : {X : Type 0} (n : ℕ) (xs : List X) → length (numbers_from n xs) ≡ length xs
length-numbers_from n [] = refl
length-numbers_from n (x ∷ xs) = ap suc (length-numbers_from (n + 1) xs)

slice_get-numbers_from : {X Y : Type 0} (f : ℕ → Y) (n : ℕ) (xs : List X) (i : ℕ) → i < length xs
    → slice_get (map f (numbers_from n xs)) i ≡ Some (f (n + i))
slice_get-numbers_from f n [] i h = absurd (omega arith)
slice_get-numbers_from f n (x ∷ xs) zero h = rw (add-zero n) refl
slice_get-numbers_from f n (x ∷ xs) (suc i) h =
    let is : n + suc i ≡ n + 1 + i = omega arith in
    rw is (slice_get-numbers_from f (n + 1) xs i (omega arith))

length-first : (d : Described) → length (Pat ∷ map Pmt (numbers_from 0 d.programs)) ≡ suc (length d.programs)
length-first d = ap suc (length-map (numbers_from 0 d.programs) Pmt ∙ length-numbers_from 0 d.programs)

-- The PMTs follow the PAT.
pub table_kind-pmt : (d : Described) (t : ℕ) → 1 ≤ t → t ≤ length d.programs → Some (Pmt (t - 1)) ≡ table_kind d t
table_kind-pmt d zero some most = absurd (omega arith)
table_kind-pmt d (suc i) some most =
    let within : suc i < length (Pat ∷ map Pmt (numbers_from 0 d.programs)) = omega (arith, length-first d) in
    let is : suc i - 1 ≡ 0 + i = omega arith in
    rw (is, slice_get-append_left (Pat ∷ map Pmt (numbers_from 0 d.programs)) (service_tables d ++ map Private (numbers_from 0 d.tables)) (suc i) within)
    (sym (slice_get-numbers_from Pmt 0 d.programs i (omega arith)))

-- The service tables and the private tables follow the PMTs.
after : (d : Described) (i : ℕ) → table_kind d (suc (length d.programs) + i) ≡ slice_get (service_tables d ++ map Private (numbers_from 0 d.tables)) i
after d i = rw (sym (length-first d))
    (slice_get-append_right (Pat ∷ map Pmt (numbers_from 0 d.programs)) (service_tables d ++ map Private (numbers_from 0 d.tables)) i)

pub table_kind-service : (d : Described) (t : ℕ) → length d.programs < t → t - 1 - length d.programs < length (service_tables d)
    → Some (get_or (service_tables d) (t - 1 - length d.programs) Pat) ≡ table_kind d t
table_kind-service d t low high =
    let i : ℕ = t - 1 - length d.programs in
    let is : t ≡ suc (length d.programs) + (t - 1 - length d.programs) = omega arith in
    sym (ap (table_kind d) is ∙ after d (t - 1 - length d.programs)
    ∙ slice_get-append_left (service_tables d) (map Private (numbers_from 0 d.tables)) (t - 1 - length d.programs) high
    ∙ slice_get-get_or (service_tables d) (t - 1 - length d.programs) Pat high)

-- The private tables are last.
privates : (d : Described) (i : ℕ) →
    table_kind d (suc (length d.programs) + (length (service_tables d) + i)) ≡ slice_get (map Private (numbers_from 0 d.tables)) i
privates d i = after d (length (service_tables d) + i) ∙ slice_get-append_right (service_tables d) (map Private (numbers_from 0 d.tables)) i

pub table_kind-private : (d : Described) (t i : ℕ) → t ≡ suc (length d.programs) + (length (service_tables d) + i) → i < length d.tables
    → Some (Private i) ≡ table_kind d t
table_kind-private d t i is within =
    sym (ap (table_kind d) is ∙ privates d i ∙ slice_get-numbers_from Private 0 d.tables i within ∙ ap (λ k. Some (Private k)) (zero-add i))

pub table_kind-none : (d : Described) (t i : ℕ) → t ≡ suc (length d.programs) + (length (service_tables d) + i) → length d.tables ≤ i
    → None ≡ table_kind d t
table_kind-none d t i is past =
    let long : length (map Private (numbers_from 0 d.tables)) ≤ i =
    omega (arith, length-map (numbers_from 0 d.tables) Private, length-numbers_from 0 d.tables) in
    sym (ap (table_kind d) is ∙ privates d i ∙ slice_get_past (map Private (numbers_from 0 d.tables)) i long)

pub table_count-is : (d : Described) → 1 + length d.programs + length (service_tables d) + length d.tables ≡ table_count d
table_count-is d =
    rw (
      length-append (Pat ∷ map Pmt (numbers_from 0 d.programs)) (service_tables d ++ map Private (numbers_from 0 d.tables)),
      length-append (service_tables d) (map Private (numbers_from 0 d.tables)),
      length-first d,
      length-map (numbers_from 0 d.tables) Private,
      length-numbers_from 0 d.tables,
    )
    (omega arith)
