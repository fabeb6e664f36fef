-- Distinct numbers, and the events of their programs taken together
use Rattle.std.proofs.Common.{◌≡◌, ℕ, ◌+◌, ◌≤◌, ◌==◌, not, nat_eq, Bool, true, false, cond, List, [], ◌∷◌, length, map, filter, Option, None, Some, refl, sym}
use Rattle.std.proofs.Common.{◌∙◌, arith, sum_by}
use Rattle.std.proofs.lemmas.Bool.{and_parts, or_parts, eqb-true, eqb-false, ne_eqb}
use Rattle.std.proofs.lemmas.List.{length-map}
use Rattle.std.proofs.lemmas.List.Sums.{sum_by-cons}
use Rattle.std.proofs.lemmas.Map.Keys.{IsDistinct-head, IsDistinct-tail, IsDistinct-cons}
use Rattle.std.specs.List.{list_any, IsDistinct, AllByRecursion}
use Rattle.toml.specs.Data.{Data}
use Rattle.description_keys.specs.StreamKeys.{owner_number, is_owned_by}
use Rattle.description_values.specs.Values.{is_distinct}
use Rattle.description_parts.specs.Contents.{described_event, described_number, described_program}
use Rattle.description_keys.specs.Refusals.{events_of}
use Rattle.description_parts.proofs.Counts.{not_true}

apart : (n : ℕ) (ns : List ℕ) → list_any (λ m. m == n) ns ≡ false → AllByRecursion (λ y. nat_eq n y ≡ false) ns
apart n [] h = tt
apart n (m ∷ ms) h =
    let parts = or_parts (m == n) (list_any (λ k. k == n) ms) h in
    (ne_eqb n m (λ same. eqb-false m n parts.0 (sym same)), apart n ms parts.1)

pub IsDistinct-is : (ns : List ℕ) → is_distinct ns ≡ true → IsDistinct nat_eq ns
unfolding IsDistinct
IsDistinct-is [] h = tt
IsDistinct-is (n ∷ ns) h =
    let parts = and_parts (not (list_any (λ m. m == n) ns)) (is_distinct ns) h in
    IsDistinct-cons nat_eq n ns (apart n ns (not_true (list_any (λ m. m == n) ns) parts.0)) (IsDistinct-is ns parts.1)

-- Among distinct numbers at most one equals m.
none_equal : (m n : ℕ) (ns : List ℕ) → m ≡ n → AllByRecursion (λ y. nat_eq n y ≡ false) ns → sum_by (λ k. cond (m == k) 1 0) ns ≡ 0
none_equal m n [] same h = refl
none_equal m n (k ∷ ks) same h =
    let other : (m == k) ≡ false = rw same h.0 in
    sum_by-cons (λ k. cond (m == k) 1 0) k ks ∙ rw (other, none_equal m n ks same h.1) refl

this_or_later : (m n : ℕ) (ns : List ℕ) (b : Bool) → (m == n) ≡ b → AllByRecursion (λ y. nat_eq n y ≡ false) ns → sum_by (λ k. cond (m == k) 1 0) ns ≤ 1
    → sum_by (λ k. cond (m == k) 1 0) (n ∷ ns) ≤ 1
this_or_later m n ns true is h later =
    let none = none_equal m n ns (eqb-true m n is) h in
    let all = sum_by-cons (λ k. cond (m == k) 1 0) n ns in
    let one : ◌≡◌ {A = ℕ} (cond (m == n) 1 0) 1 = rw is refl in
    omega (arith, none, all, one)
this_or_later m n ns false is h later =
    let all = sum_by-cons (λ k. cond (m == k) 1 0) n ns in
    let no_more : ◌≡◌ {A = ℕ} (cond (m == n) 1 0) 0 = rw is refl in
    omega (arith, all, no_more, later)

at_most_one : (m : ℕ) (ns : List ℕ) → IsDistinct nat_eq ns → sum_by (λ k. cond (m == k) 1 0) ns ≤ 1
at_most_one m [] h = omega arith
at_most_one m (n ∷ ns) h = this_or_later m n ns (m == n) refl (IsDistinct-head nat_eq n ns h) (at_most_one m ns (IsDistinct-tail nat_eq n ns h))

-- Among distinct program numbers at most one owns an event.
nobody : (ns : List ℕ) → sum_by (λ (n : ℕ). 0) ns ≡ 0
nobody [] = refl
nobody (n ∷ ns) = let all = sum_by-cons (λ (n : ℕ). 0) n ns in let rest = nobody ns in omega (arith, all, rest)

owners : (e : Data) (o : Option ℕ) (ns : List ℕ) → IsDistinct nat_eq ns → sum_by (λ n. cond (elim o [ None ↦ false | Some m ↦ m == n ]) 1 0) ns ≤ 1
owners e None ns h = let zero = nobody ns in omega (arith, zero)
owners e (Some m) ns h = at_most_one m ns h

filter_length : {X : Type 0} (b : Bool) (x : X) (xs : List X) → length (cond b (x ∷ xs) xs) ≡ cond b 1 0 + length xs
filter_length true x xs = omega arith
filter_length false x xs = omega arith

sum_split : (f g h : ℕ → ℕ) (ns : List ℕ) → ((n : ℕ) → f n ≡ g n + h n) → sum_by f ns ≡ sum_by g ns + sum_by h ns
sum_split f g h [] same = refl
sum_split f g h (n ∷ ns) same =
    let a = sum_by-cons f n ns in
    let b = sum_by-cons g n ns in
    let c = sum_by-cons h n ns in
    let d = same n in
    let rest = sum_split f g h ns same in
    omega (arith, a, b, c, d, rest)

-- Programs with distinct numbers together own at most all events.
owned_by_all : (ns : List ℕ) (es : List Data) → IsDistinct nat_eq ns → sum_by (λ n. length (filter (is_owned_by n) es)) ns ≤ length es
owned_by_all ns [] h = let zero = nobody ns in omega (arith, zero)
owned_by_all ns (e ∷ es) h =
    let split = sum_split (λ n. length (filter (is_owned_by n) (e ∷ es))) (λ n. cond (is_owned_by n e) 1 0) (λ n. length (filter (is_owned_by n) es)) ns
    (λ n. filter_length (is_owned_by n e) e (filter (is_owned_by n) es)) in
    let one = owners e (owner_number e) ns h in
    let rest = owned_by_all ns es h in
    omega (arith, split, one, rest)

program_events : (document : Data) (ps : List Data)
    → sum_by (λ p. length p.events) (map (described_program document) ps)
    ≡ sum_by (λ n. length (filter (is_owned_by n) (events_of document))) (map (λ p. p.number) (map (described_program document) ps))
program_events document [] = refl
program_events document (p ∷ ps) =
    let a = sum_by-cons (λ p. length p.events) (described_program document p) (map (described_program document) ps) in
    let b = sum_by-cons (λ n. length (filter (is_owned_by n) (events_of document))) (described_number p)
    (map (λ p. p.number) (map (described_program document) ps)) in
    let c = length-map (filter (is_owned_by (described_number p)) (events_of document)) described_event in
    let rest = program_events document ps in
    omega (arith, a, b, c, rest)

pub most_events : (document : Data) (ps : List Data) → IsDistinct nat_eq (map (λ p. p.number) (map (described_program document) ps))
    → sum_by (λ p. length p.events) (map (described_program document) ps) ≤ length (events_of document)
most_events document ps h =
    let a = program_events document ps in
    let b = owned_by_all (map (λ p. p.number) (map (described_program document) ps)) (events_of document) h in
    omega (arith, a, b)
