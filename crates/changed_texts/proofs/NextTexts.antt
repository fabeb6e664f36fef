-- The next texts, made number by number
use Rattle.std.proofs.Common.{◌≡◌, ℕ, zero, suc, ◌+◌, ◌%◌, ◌<◌, ◌≤◌, ◌||◌, not, if◌then◌else◌, Bool, List, [], ◌∷◌, ◌++◌, length, map, slice_index_or, fold, ap, subst, sym, ◌∙◌, arith}
use Rattle.std.proofs.lemmas.List.FromFn.{get_or-map-range_with_len, length-map-range_with_len, map-range_with_len_more}
use Rattle.std.proofs.lemmas.List.Sums.{fold-append}
use Rattle.std.specs.List.{range_with_len}
use Rattle.description_parts.specs.Described.{Described}
use Rattle.description.specs.SubTables.{numbered_sub_table, shows_same, sub_table_number, with_count}
use Rattle.changed_texts.specs.Versions.{with_count_at, with_counts, keeps_version, kept_count, next_count, next_texts}
use Rattle.changed_texts.proofs.Counts.{alike_counts}
use Rattle.changed_texts.proofs.VersionLaws.{next_below}

one_number : (a n j : ℕ) → a + n ≡ j → range_with_len a (suc n) ≡ range_with_len a n ++ j ∷ []
one_number a zero j is = let same : a ≡ j = omega (arith, is) in ap (λ k. k ∷ []) same
one_number a (suc n) j is = ap (λ ks. a ∷ ks) (one_number (a + 1) n j (omega (arith, is)))

counting_more : (n : ℕ) → range_with_len 0 (n + 1) ≡ range_with_len 0 n ++ n ∷ []
counting_more n = let next : n + 1 ≡ suc n = omega arith in ap (range_with_len 0) next ∙ one_number 0 n n (omega arith)

-- A list by number has room for one more, and its elements by number
pub has_room : {X : Type 0} (f : ℕ → X) (xs : List X) (n : ℕ) → xs ≡ map f (range_with_len 0 n) → n < 131 → length xs < 131
has_room f xs n is below = let same : length xs ≡ n = ap length is ∙ length-map-range_with_len f 0 n in omega (arith, same, below)

pub one_more : {X : Type 0} (f : ℕ → X) (x : X) (xs : List X) (n : ℕ) → xs ≡ map f (range_with_len 0 n) → x ≡ f n
    → xs ++ x ∷ [] ≡ map f (range_with_len 0 (n + 1))
one_more {X} f x xs n is at =
    ap (λ (ys : List X). ys ++ x ∷ []) is ∙ ap (λ (y : X). map f (range_with_len 0 n) ++ y ∷ []) at
    ∙ sym (map-range_with_len_more f 0 n n (omega arith))

pub each_one : {X : Type 0} (f : ℕ → X) (d : X) (xs : List X) (n : ℕ) → xs ≡ map f (range_with_len 0 n) → 131 ≤ n
    → (i : ℕ) → i < 131 → slice_index_or xs i d ≡ f i
each_one {X} f d xs n is all i below =
    let here : 0 + i ≡ i = omega arith in
    ap (λ (ys : List X). slice_index_or ys i d) is ∙ get_or-map-range_with_len f 0 n i i d (omega (arith, all, below)) here

pub as_many : {X : Type 0} (f : ℕ → X) (xs : List X) (n : ℕ) → xs ≡ map f (range_with_len 0 n) → n ≤ 131 → 131 ≤ n → length xs ≡ 131
as_many f xs n is most least =
    let same : length xs ≡ n = ap length is ∙ length-map-range_with_len f 0 n in omega (arith, same, most, least)

-- One more number set, and all of them
pub one_more_set : (count : ℕ → ℕ) (d e : Described) (n : ℕ) → e ≡ fold (with_count_at count) d (range_with_len 0 n)
    → with_count e (numbered_sub_table n) (count n) ≡ fold (with_count_at count) d (range_with_len 0 (n + 1))
one_more_set count d e n is =
    ap (λ (c : Described). with_count c (numbered_sub_table n) (count n)) is
    ∙ sym (fold-append (with_count_at count) d (range_with_len 0 n) (n ∷ []))
    ∙ ap (fold (with_count_at count) d) (sym (counting_more n))

pub all_set : (count : ℕ → ℕ) (d e : Described) (n : ℕ) → e ≡ fold (with_count_at count) d (range_with_len 0 n) → n ≤ 131 → 131 ≤ n → e ≡ with_counts d count
unfolding with_counts
all_set count d e n is most least =
    let all : n ≡ 131 = omega (arith, most, least) in is ∙ ap (λ m. fold (with_count_at count) d (range_with_len 0 m)) all

-- The next numbers are below 32.
mapped_below : (f : ℕ → ℕ) (xs : List ℕ) → ((i : ℕ) → f i < 32) → (n : ℕ) → slice_index_or (map f xs) n 0 < 32
mapped_below f [] below n = omega arith
mapped_below f (x ∷ xs) below zero = below x
mapped_below f (x ∷ xs) below (suc n) = mapped_below f xs below n

pub below_32 : (old new : Described) (moment : ℕ) (sent : ℕ → Bool) (i : ℕ) → next_count old new (numbered_sub_table i) moment sent < 32
below_32 old new moment sent i = next_below old new (numbered_sub_table i) moment (keeps_version old new (numbered_sub_table i) moment sent)

pub each_below : (f : ℕ → ℕ) (xs : List ℕ) (n : ℕ) → xs ≡ map f (range_with_len 0 n) → ((i : ℕ) → f i < 32) → (i : ℕ) → slice_index_or xs i 0 < 32
each_below f xs n is below i = subst (λ ys. slice_index_or ys i 0 < 32) (sym is) (mapped_below f (range_with_len 0 n) below i)

-- The listed numbers make the next texts.
pub counts_set : (old new e : Described) (moment : ℕ) (sent : ℕ → Bool) (counts : List ℕ)
    → ((i : ℕ) → i < 131 → slice_index_or counts i 0 ≡ next_count old new (numbered_sub_table i) moment sent)
    → e ≡ with_counts new (λ n. slice_index_or counts n 0) → e ≡ next_texts old new moment sent
counts_set old new e moment sent counts each set =
    set ∙ alike_counts (λ n. slice_index_or counts n 0) (λ n. next_count old new (numbered_sub_table n) moment sent) new each

-- Two answers about what was sent that agree give the same texts.
pub sent_alike : (old new : Described) (moment : ℕ) (f g : ℕ → Bool) → ((n : ℕ) → f n ≡ g n) → next_texts old new moment f ≡ next_texts old new moment g
sent_alike old new moment f g same =
    alike_counts (λ n. next_count old new (numbered_sub_table n) moment f) (λ n. next_count old new (numbered_sub_table n) moment g) new
    (λ n l. ap (λ b. if shows_same old new (numbered_sub_table n) moment || not b then kept_count old new (numbered_sub_table n) moment
    else (kept_count old new (numbered_sub_table n) moment + 1) % 32) (same (sub_table_number (numbered_sub_table n))))
