-- Lists cut into the sections of a table
use Rattle.std.proofs.Common.{◌≡◌, ℕ, zero, suc, ◌+◌, ◌-◌, ◌<◌, ◌≤◌, ◌==◌, ◌&&◌, ◌||◌, nat_le, Bool, true, false, List, [], ◌∷◌, ◌++◌, length, map, take, drop}
use Rattle.std.proofs.Common.{slice_get, sum_by, Option, None, Some, refl, ap, sym, ◌∙◌, arith, if◌then◌else◌, All, inl, inr, length-append}
use Rattle.std.proofs.lemmas.Bool.{and_parts, eqb-true, le-leb, leb-true, or_cases}
use Rattle.std.proofs.lemmas.List.{append-nil, append_assoc, drop_all, drop_at, drop-drop, length-drop, length-map, length-take-le, map-append, take_at}
use Rattle.std.proofs.lemmas.List.Elements.{All-nil, All-cons, All-head, All-tail, All-append}
use Rattle.std.proofs.lemmas.List.Sums.{sum_by-append, sum_by-cons}
use Rattle.description_parts.specs.Cuts.{cut, joined, places, taken, takes_next}

-- The first section, and the sections after it
abbrev sections_of : {X : Type 0} → (X → ℕ) → ℕ → List X → List (List X)
sections_of size room [] = []
sections_of size room (x ∷ xs) = cut size room 0 (x ∷ []) xs

first_if : {X : Type 0} (size : X → ℕ) (room used : ℕ) (b : Bool) (begun : List X) (x : X) (xs : List X) (n : ℕ)
    → cut size room used (begun ++ x ∷ []) xs ≡ (begun ++ x ∷ [] ++ take n xs) ∷ sections_of size room (drop n xs)
    → (if b then cut size room used (begun ++ x ∷ []) xs else begun ∷ cut size room 0 (x ∷ []) xs)
    ≡ (begun ++ take (if b then suc n else 0) (x ∷ xs)) ∷ sections_of size room (drop (if b then suc n else 0) (x ∷ xs))
first_if size room used true begun x xs n h = h ∙ ap (λ ys. ys ∷ sections_of size room (drop n xs)) (append_assoc begun (x ∷ []) (take n xs))
first_if size room used false begun x xs n h = ap (λ ys. ys ∷ cut size room 0 (x ∷ []) xs) (sym (append-nil begun))

cut_first : {X : Type 0} (size : X → ℕ) (room used : ℕ) (begun xs : List X)
    → cut size room used begun xs
    ≡ (begun ++ take (taken size room used begun xs) xs) ∷ sections_of size room (drop (taken size room used begun xs) xs)
cut_first size room used begun [] = ap (λ ys. ys ∷ []) (sym (append-nil begun))
cut_first size room used begun (x ∷ xs) =
    first_if size room used (takes_next size room used begun x) begun x xs (taken size room used (begun ++ x ∷ []) xs)
    (cut_first size room used (begun ++ x ∷ []) xs)

sections_some : {X : Type 0} (size : X → ℕ) (room : ℕ) (xs : List X) → 0 < length xs → sections_of size room xs ≡ cut size room 0 [] xs
sections_some size room [] h = absurd (omega (arith, h))
sections_some size room (x ∷ xs) h = refl

first_at : (room used n : ℕ) (ls : List ℕ) → n ≡ taken (λ l. l) room used [] ls
    → cut (λ l. l) room used [] ls ≡ take n ls ∷ sections_of (λ l. l) room (drop n ls)
first_at room used n ls is = rw is (cut_first (λ l. l) room used [] ls)

-- The places of the elements in the first section, and in a later one
pub places_here : (room used begin n : ℕ) (ls : List ℕ) → n ≡ taken (λ l. l) room used [] ls → n ≤ length ls
    → places begin (cut (λ l. l) room used [] ls) 0 ≡ Some (begin, begin + n)
places_here room used begin n ls is within =
    ap (λ parts. places begin parts 0) (first_at room used n ls is) ∙ ap (λ (k : ℕ). Some (begin, begin + k)) (length-take-le n ls within)

places_after : (room used begin n j : ℕ) (ls : List ℕ) → n ≡ taken (λ l. l) room used [] ls → n ≤ length ls
    → places begin (cut (λ l. l) room used [] ls) (suc j) ≡ places (begin + n) (sections_of (λ l. l) room (drop n ls)) j
places_after room used begin n j ls is within =
    ap (λ parts. places begin parts (suc j)) (first_at room used n ls is)
    ∙ ap (λ (k : ℕ). places (begin + k) (sections_of (λ l. l) room (drop n ls)) j) (length-take-le n ls within)

pub places_later : (room used begin n i j : ℕ) (ls : List ℕ) → n ≡ taken (λ l. l) room used [] ls → n < length ls → i ≡ suc j
    → places begin (cut (λ l. l) room used [] ls) i ≡ places (begin + n) (cut (λ l. l) room 0 [] (drop n ls)) j
places_later room used begin n i j ls is within next =
    let some : 0 < length (drop n ls) = omega (arith, length-drop n ls, within) in
    ap (places begin (cut (λ l. l) room used [] ls)) next ∙ places_after room used begin n j ls is (omega (arith, within))
    ∙ ap (λ parts. places (begin + n) parts j) (sections_some (λ l. l) room (drop n ls) some)

pub places_past : (room used begin n i j : ℕ) (ls : List ℕ) → n ≡ taken (λ l. l) room used [] ls → n ≡ length ls → i ≡ suc j
    → places begin (cut (λ l. l) room used [] ls) i ≡ None
places_past room used begin n i j ls is past next =
    ap (places begin (cut (λ l. l) room used [] ls)) next ∙ places_after room used begin n j ls is (omega (arith, past))
    ∙ ap (λ ys. places (begin + n) (sections_of (λ l. l) room ys) j) (drop_all n ls (omega (arith, past)))

-- The sections of elements are those of their lengths.
pub sum_map : {X : Type 0} (size : X → ℕ) (xs : List X) → sum_by (λ n. n) (map size xs) ≡ sum_by size xs
sum_map size [] = refl
sum_map size (x ∷ xs) =
    omega (arith, sum_by-cons (λ n. n) (size x) (map size xs), sum_by-cons size x xs, sum_map size xs)

takes_same : (room used a b m n : ℕ) → a ≡ b → m ≡ n → ((used == 0 && a == 0) || nat_le (used + m) room) ≡ ((used == 0 && b == 0) || nat_le (used + n) room)
takes_same room used a b m n p q = rw (p, q) refl

takes_map : {X : Type 0} (size : X → ℕ) (room used : ℕ) (begun : List X) (x : X)
    → takes_next (λ n. n) room used (map size begun) (size x) ≡ takes_next size room used begun x
takes_map size room used begun x =
    takes_same room used (length (map size begun)) (length begun) (sum_by (λ n. n) (map size begun ++ size x ∷ [])) (sum_by size (begun ++ x ∷ []))
    (length-map begun size) (ap (sum_by (λ n. n)) (sym (map-append size begun (x ∷ []))) ∙ sum_map size (begun ++ x ∷ []))

map_if : {X : Type 0} (size : X → ℕ) (b c : Bool) (begun : List X) (xs ys : List (List X)) (ms ns : List (List ℕ))
    → c ≡ b → ms ≡ map (map size) xs → ns ≡ map (map size) ys
    → (if c then ms else map size begun ∷ ns) ≡ map (map size) (if b then xs else begun ∷ ys)
map_if size true true begun xs ys ms ns is h k = h
map_if size true false begun xs ys ms ns is h k = absurd (cc)
map_if size false true begun xs ys ms ns is h k = absurd (cc)
map_if size false false begun xs ys ms ns is h k = ap (λ ps. map size begun ∷ ps) k

cut_map : {X : Type 0} (size : X → ℕ) (room used : ℕ) (begun xs : List X)
    → cut (λ n. n) room used (map size begun) (map size xs) ≡ map (map size) (cut size room used begun xs)
cut_map size room used begun [] = refl
cut_map size room used begun (x ∷ xs) =
    map_if size (takes_next size room used begun x) (takes_next (λ n. n) room used (map size begun) (size x)) begun
    (cut size room used (begun ++ x ∷ []) xs) (cut size room 0 (x ∷ []) xs)
    (cut (λ n. n) room used (map size begun ++ size x ∷ []) (map size xs)) (cut (λ n. n) room 0 (size x ∷ []) (map size xs))
    (takes_map size room used begun x)
    (ap (λ ls. cut (λ n. n) room used ls (map size xs)) (sym (map-append size begun (x ∷ []))) ∙ cut_map size room used (begun ++ x ∷ []) xs)
    (cut_map size room 0 (x ∷ []) xs)

places_same : {X : Type 0} (size : X → ℕ) (begin : ℕ) (parts : List (List X)) (j : ℕ) → places begin (map (map size) parts) j ≡ places begin parts j
places_same size begin [] j = refl
places_same size begin (part ∷ parts) zero = ap (λ (n : ℕ). Some (begin, begin + n)) (length-map part size)
places_same size begin (part ∷ parts) (suc j) =
    ap (λ (n : ℕ). places (begin + n) (map (map size) parts) j) (length-map part size) ∙ places_same size (begin + length part) parts j

pub places_map : {X : Type 0} (size : X → ℕ) (room used j : ℕ) (xs : List X)
    → places 0 (cut (λ n. n) room used [] (map size xs)) j ≡ places 0 (cut size room used [] xs) j
places_map size room used j xs =
    ap (λ parts. places 0 parts j) (cut_map size room used [] xs) ∙ places_same size 0 (cut size room used [] xs) j

-- The elements at the places of a section
here_is : {X : Type 0} (xs part rest : List X) (begin b e : ℕ) → part ++ rest ≡ drop begin xs → b ≡ begin → e ≡ begin + length part
    → Some part ≡ Some (take (e - b) (drop b xs))
here_is xs part rest begin b e h p q =
    let n : length part ≡ e - b = omega (arith, p, q) in
    ap Some (sym (take_at part rest (e - b) n) ∙ ap (take (e - b)) (h ∙ ap (λ (i : ℕ). drop i xs) (sym p)))

rest_is : {X : Type 0} (xs part rest : List X) (begin : ℕ) → part ++ rest ≡ drop begin xs → rest ≡ drop (begin + length part) xs
rest_is xs part rest begin h = sym (drop_at part rest (length part) refl) ∙ ap (drop (length part)) h ∙ drop-drop (length part) begin xs

pub part_of_places : {X : Type 0} (xs : List X) (parts : List (List X)) (begin j b e : ℕ) → joined parts ≡ drop begin xs
    → places begin parts j ≡ Some (b, e) → slice_get parts j ≡ Some (take (e - b) (drop b xs))
part_of_places xs [] begin j b e h is = absurd (cc)
part_of_places xs (part ∷ parts) begin zero b e h is =
    let pair : ◌≡◌ {A = ℕ × ℕ} (b, e) (begin, begin + length part) = cc in
    here_is xs part (joined parts) begin b e h (ap (λ p. p.0) pair) (ap (λ p. p.1) pair)
part_of_places xs (part ∷ parts) begin (suc j) b e h is =
    part_of_places xs parts (begin + length part) j b e (rest_is xs part (joined parts) begin h) is

pub none_of_places : {X : Type 0} (parts : List (List X)) (begin j : ℕ) → places begin parts j ≡ None → slice_get parts j ≡ None
none_of_places [] begin j h = refl
none_of_places (part ∷ parts) begin zero h = absurd (cc)
none_of_places (part ∷ parts) begin (suc j) h = none_of_places parts (begin + length part) j h

-- All elements, in order
whole_if : {X : Type 0} (size : X → ℕ) (room used : ℕ) (b : Bool) (begun : List X) (x : X) (xs : List X)
    → joined (cut size room used (begun ++ x ∷ []) xs) ≡ begun ++ x ∷ [] ++ xs → joined (cut size room 0 (x ∷ []) xs) ≡ x ∷ xs
    → joined (if b then cut size room used (begun ++ x ∷ []) xs else begun ∷ cut size room 0 (x ∷ []) xs) ≡ begun ++ x ∷ xs
whole_if size room used true begun x xs h k = h ∙ append_assoc begun (x ∷ []) xs
whole_if size room used false begun x xs h k = ap (λ ys. begun ++ ys) k

pub whole : {X : Type 0} (size : X → ℕ) (room used : ℕ) (begun xs : List X) → joined (cut size room used begun xs) ≡ begun ++ xs
whole size room used begun [] = refl
whole size room used begun (x ∷ xs) =
    whole_if size room used (takes_next size room used begun x) begun x xs (whole size room used (begun ++ x ∷ []) xs) (whole size room 0 (x ∷ []) xs)

-- At most one section more than elements
pub record AreFew (n : ℕ) (k : ℕ) : Type 0 where
  pub some : 1 ≤ k
  pub most : k ≤ suc n

few_if : {X : Type 0} (b : Bool) (n : ℕ) (begun : List X) (xs ys : List (List X)) → AreFew n (length xs) → AreFew n (length ys)
    → AreFew (suc n) (length (if b then xs else begun ∷ ys))
few_if true n begun xs ys h k = record { some = h.some; most = omega (arith, h.most) }
few_if false n begun xs ys h k = record { some = omega arith; most = omega (arith, k.most) }

pub few : {X : Type 0} (size : X → ℕ) (room used : ℕ) (begun xs : List X) → AreFew (length xs) (length (cut size room used begun xs))
few size room used begun [] = record { some = omega arith; most = omega arith }
few size room used begun (x ∷ xs) =
    few_if (takes_next size room used begun x) (length xs) begun (cut size room used (begun ++ x ∷ []) xs) (cut size room 0 (x ∷ []) xs)
    (few size room used (begun ++ x ∷ []) xs) (few size room 0 (x ∷ []) xs)

-- All elements of each section have a property.
kept_if : {X : Type 0} (P : X → Type 0) (b : Bool) (begun : List X) (xs ys : List (List X)) → All (All P) xs → All P begun
    → All (All P) ys → All (All P) (if b then xs else begun ∷ ys)
kept_if P true begun xs ys h k l = h
kept_if P false begun xs ys h k l = All-cons (All P) begun ys k l

pub kept : {X : Type 0} (P : X → Type 0) (size : X → ℕ) (room used : ℕ) (begun xs : List X) → All P begun → All P xs
    → All (All P) (cut size room used begun xs)
kept P size room used begun [] h k = All-cons (All P) begun [] h (All-nil (All P))
kept P size room used begun (x ∷ xs) h k =
    let one : All P (x ∷ []) = All-cons P x [] (All-head P x xs k) (All-nil P) in
    let rest = All-tail P x xs k in
    kept_if P (takes_next size room used begun x) begun (cut size room used (begun ++ x ∷ []) xs) (cut size room 0 (x ∷ []) xs)
    (kept P size room used (begun ++ x ∷ []) xs (All-append P begun (x ∷ []) h one) rest) h (kept P size room 0 (x ∷ []) xs one rest)

-- Each section has room for its elements, if an empty one has room for each.
abbrev pub Fit : {X : Type 0} → (X → ℕ) → ℕ → ℕ → List (List X) → Type 0
Fit size room used [] = Unit {0}
Fit size room used (part ∷ parts) = (used + sum_by size part ≤ room) × Fit size room 0 parts

next_fits : {X : Type 0} (size : X → ℕ) (room used : ℕ) (begun : List X) (x : X) → size x ≤ room → takes_next size room used begun x ≡ true
    → used + sum_by size (begun ++ x ∷ []) ≤ room
next_fits size room used begun x one takes =
    elim (or_cases (used == 0 && length begun == 0) (nat_le (used + sum_by size (begun ++ x ∷ [])) room) takes) [
      | inl none ↦
          let both = and_parts (used == 0) (length begun == 0) none in
          let before = eqb-true used 0 both.0 in
          let empty = drop_all 0 begun (omega (arith, eqb-true (length begun) 0 both.1)) in
          rw (before, empty) (omega (arith, one, sum_by-cons size x []))
      | inr room' ↦ leb-true (used + sum_by size (begun ++ x ∷ [])) room room'
    ]

fits_if : {X : Type 0} (size : X → ℕ) (room used : ℕ) (b : Bool) (begun : List X) (xs ys : List (List X)) → (b ≡ true → Fit size room used xs)
    → used + sum_by size begun ≤ room → Fit size room 0 ys → Fit size room used (if b then xs else begun ∷ ys)
fits_if size room used true begun xs ys h k l = h refl
fits_if size room used false begun xs ys h k l = (k, l)

pub fits : {X : Type 0} (size : X → ℕ) (room used : ℕ) (begun xs : List X) → used + sum_by size begun ≤ room → All (λ x. size x ≤ room) xs
    → Fit size room used (cut size room used begun xs)
fits size room used begun [] h k = (h, tt)
fits size room used begun (x ∷ xs) h k =
    let one = All-head (λ y. size y ≤ room) x xs k in
    let rest = All-tail (λ y. size y ≤ room) x xs k in
    fits_if size room used (takes_next size room used begun x) begun (cut size room used (begun ++ x ∷ []) xs) (cut size room 0 (x ∷ []) xs)
    (λ takes. fits size room used (begun ++ x ∷ []) xs (next_fits size room used begun x one takes) rest) h
    (fits size room 0 (x ∷ []) xs (omega (arith, one, sum_by-cons size x [])) rest)

-- One section, if all elements fit in it
or_right : (b c : Bool) → c ≡ true → (b || c) ≡ true
or_right true c h = refl
or_right false c h = h

one_if : {X : Type 0} (b : Bool) (xs ys parts : List (List X)) → b ≡ true → xs ≡ parts → (if b then xs else ys) ≡ parts
one_if true xs ys parts h k = k
one_if false xs ys parts h k = absurd (cc)

pub one_part : {X : Type 0} (size : X → ℕ) (room used : ℕ) (begun xs : List X) → used + sum_by size (begun ++ xs) ≤ room
    → cut size room used begun xs ≡ (begun ++ xs) ∷ []
one_part size room used begun [] h = ap (λ ys. ys ∷ []) (sym (append-nil begun))
one_part size room used begun (x ∷ xs) h =
    let whole_sum = sum_by-append size begun (x ∷ xs) in
    let next_sum = sum_by-append size begun (x ∷ []) in
    let rest = sum_by-cons size x xs in
    let one = sum_by-cons size x [] in
    let small : used + sum_by size (begun ++ x ∷ []) ≤ room = omega (arith, whole_sum, next_sum, rest, one, h) in
    let takes = or_right (used == 0 && length begun == 0) (nat_le (used + sum_by size (begun ++ x ∷ [])) room)
    (le-leb (used + sum_by size (begun ++ x ∷ [])) room small) in
    let same = append_assoc begun (x ∷ []) xs in
    let later : used + sum_by size (begun ++ x ∷ [] ++ xs) ≤ room = rw same h in
    one_if (takes_next size room used begun x) (cut size room used (begun ++ x ∷ []) xs) (begun ∷ cut size room 0 (x ∷ []) xs)
    ((begun ++ x ∷ xs) ∷ []) takes
    (one_part size room used (begun ++ x ∷ []) xs later ∙ ap (λ ys. ys ∷ []) same)

-- The lengths of one more section
pub past_none : {X : Type 0} (xs : List X) (i : ℕ) → slice_get xs i ≡ None → length xs ≤ i
past_none [] i h = omega arith
past_none (x ∷ xs) zero h = absurd (cc)
past_none (x ∷ xs) (suc i) h = let rest = past_none xs i h in omega (arith, rest)
