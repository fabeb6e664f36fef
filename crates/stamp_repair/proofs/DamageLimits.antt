-- Which PES packets that are found are damaged
use Rattle.std.proofs.Common.{◌≡◌, ◌∙◌, ℕ, ◌&&◌, Bool, true, false, cond, not, if◌then◌else◌, nat_le, List, [], ◌∷◌, filter, length}
use Rattle.std.proofs.Common.{refl, sym, ap, ap₂, eqb-true}
use Rattle.std.proofs.lemmas.Bool.{and_left, and_right, false≢true, le-leb, lt-leb, true≢false}
use Rattle.stamp_repair.specs.LoneLaws.{LimitIsExact, damaged_on, found_on}
use Rattle.stamp_repair.specs.LoneStamps.{all_lone, is_damage, is_falling, is_on}
use Rattle.stamp_repair.specs.declared.search.LonePes.{LonePes}

-- of elements that pass a test, one is kept if another test is true of it
kept_if : (q : LonePes → Bool) (l : LonePes) (b p c : Bool) (xs ys : List LonePes) → q l ≡ b → (b ≡ true → p ≡ c) →
    filter q xs ≡ (if c then filter q ys else []) → filter q (cond p (l ∷ xs) xs) ≡ (if c then filter q (l ∷ ys) else [])
kept_if q l true true true xs ys is same rest = ap (λ (ls : List LonePes). cond (q l) (l ∷ ls) ls) rest
kept_if q l true true false xs ys is same rest = absurd (true≢false (same refl))
kept_if q l true false true xs ys is same rest = absurd (false≢true (same refl))
kept_if q l true false false xs ys is same rest = rest
kept_if q l false true true xs ys is same rest = ap (λ (ls : List LonePes). cond (q l) (l ∷ ls) ls) rest
kept_if q l false true false xs ys is same rest = ap (λ (b : Bool). cond b (l ∷ filter q xs) (filter q xs)) is ∙ rest
kept_if q l false false true xs ys is same rest = rest ∙ sym (ap (λ (b : Bool). cond b (l ∷ filter q ys) (filter q ys)) is)
kept_if q l false false false xs ys is same rest = rest

all_or_none : (q p : LonePes → Bool) (c : Bool) (ls : List LonePes) → ((l : LonePes) → q l ≡ true → p l ≡ c) →
    filter q (filter p ls) ≡ (if c then filter q ls else [])
all_or_none q p true [] same = refl
all_or_none q p false [] same = refl
all_or_none q p c (l ∷ ls) same = kept_if q l (q l) (p l) c (filter p ls) ls refl (same l) (all_or_none q p c ls same)

abbrev are_damage : List ℕ → List LonePes → ℕ → Bool
are_damage falling all pid = nat_le (length (filter (is_on pid) all)) 16 && not (is_falling falling pid)

pub limit_exact : LimitIsExact
limit_exact falling findings pid =
    let all : List LonePes = all_lone findings in
    let few : Bool = nat_le (length (found_on pid findings)) 16 in
    let whole : damaged_on falling pid findings ≡ (if are_damage falling all pid then found_on pid findings else []) =
    all_or_none (is_on pid) (is_damage falling all) (are_damage falling all pid) all (λ l on. ap (are_damage falling all) (eqb-true l.pid pid on)) in
    let by : (c : Bool) → are_damage falling all pid ≡ c → damaged_on falling pid findings ≡ (if c then found_on pid findings else []) =
    λ c is. whole ∙ ap (λ (d : Bool). if d then found_on pid findings else []) is in (
      λ least steady. by true (ap₂ (λ (a b : Bool). a && not b) (le-leb (length (found_on pid findings)) 16 least) steady),
      λ many. by false (and_left few (not (is_falling falling pid)) (lt-leb (length (found_on pid findings)) 16 many)),
      λ back. by false (and_right few (not (is_falling falling pid)) (ap not back)),
    )
