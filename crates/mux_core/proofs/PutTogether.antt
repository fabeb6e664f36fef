-- Joining the payloads of things that were cut one after another.
use Rattle.std.proofs.Common.{◌≡◌, ◌≤◌, ℕ, zero, suc, ◌+◌, ◌-◌, Bool, true, false, List, [], ◌∷◌, ◌++◌, length, take, slice_get, Some, All, refl, ap}
use Rattle.std.proofs.Common.{ap₂, ◌∙◌, arith}
use Rattle.std.specs.List.{concat, flat_map}
use Rattle.std.proofs.Math.Seq.{take-append-add}
use Rattle.std.proofs.lemmas.List.{length-append}
use Rattle.std.proofs.lemmas.List.Concat.{flat_map-cons}
use Rattle.std.proofs.lemmas.List.Elements.{All-head, All-tail}
use Rattle.ts_packet.specs.declared.start.Start.{Start}
use Rattle.ts_packet.specs.declared.start.Start.TheVariants.{Continues}
use Rattle.ts_packet.specs.Beginnings.{start_by}
use Rattle.slot_contents.specs.Contents.{Piece}
use Rattle.unit_queue.specs.Payloads.{marked}
use Rattle.mux_core.specs.Decoder.{until_next, put_together, cut_thing, PutLaw}

abbrev pub all_marked : List (Bool × List (List ℕ)) → List Piece
all_marked cs = flat_map cut_thing cs

abbrev pub IsSome : Bool × List (List ℕ) → Type 0
IsSome c = 1 ≤ length c.1

pub marked_length : (start : Start) (c : List (List ℕ)) → length (marked start c) ≡ length c
unfolding marked
marked_length start [] = refl
marked_length start (x ∷ xs) = ap suc (marked_length Continues xs)

-- Cut things begin with a start, so no bytes precede the first start.
anew : (cs : List (Bool × List (List ℕ))) (k : ℕ) → All IsSome cs → until_next (take k (all_marked cs)) ≡ []
unfolding until_next marked
anew [] zero some = refl
anew [] (suc k) some = refl
anew (c ∷ cs) zero some = refl
anew ((access, []) ∷ cs) (suc k) some = absurd (let no = All-head IsSome (access, []) cs some in omega (arith, no))
anew ((true, b ∷ bs) ∷ cs) (suc k) some = refl
anew ((false, b ∷ bs) ∷ cs) (suc k) some = refl

-- The payloads up to the next start are the rest of one thing.
until_rest : (bs : List (List ℕ)) (rest : List Piece) → until_next rest ≡ [] → until_next (marked Continues bs ++ rest) ≡ concat bs
unfolding until_next marked
until_rest [] rest none = none
until_rest (b ∷ bs) rest none = ap (λ (x : List ℕ). b ++ x) (until_rest bs rest none)

put_rest : (bs : List (List ℕ)) (rest : List Piece) → put_together (marked Continues bs ++ rest) ≡ put_together rest
unfolding put_together marked
put_rest [] rest = refl
put_rest (b ∷ bs) rest = put_rest bs rest

put_first : (access : Bool) (c : List (List ℕ)) (rest : List Piece) → 1 ≤ length c → until_next rest ≡ [] →
    put_together (marked (start_by true access) c ++ rest) ≡ concat c ∷ put_together rest
unfolding put_together marked
put_first access [] rest some none = absurd (omega (arith, some))
put_first true (b ∷ bs) rest some none =
    ap₂ (λ (x : List ℕ) (ys : List (List ℕ)). (b ++ x) ∷ ys) (until_rest bs rest none) (put_rest bs rest)
put_first false (b ∷ bs) rest some none =
    ap₂ (λ (x : List ℕ) (ys : List (List ℕ)). (b ++ x) ∷ ys) (until_rest bs rest none) (put_rest bs rest)

-- If the first thing is complete, the result is the first thing, then the things joined from the rest.
put_more : (c : Bool × List (List ℕ)) (cs : List (Bool × List (List ℕ))) (m : ℕ) → All IsSome (c ∷ cs) → length c.1 ≤ m →
    put_together (take m (all_marked (c ∷ cs))) ≡ concat c.1 ∷ put_together (take (m - length c.1) (all_marked cs))
put_more c cs m some enough =
    let start = start_by true c.0 in
    let size : m ≡ length (marked (start_by true c.0) c.1) + (m - length c.1) = omega (arith, enough, marked_length start c.1) in
    let cut : take m (all_marked (c ∷ cs)) ≡ marked (start_by true c.0) c.1 ++ take (m - length c.1) (all_marked cs) =
    ap (take m) (flat_map-cons cut_thing c cs) ∙ ap (λ (n : ℕ). take n (marked (start_by true c.0) c.1 ++ all_marked cs)) size
    ∙ take-append-add (marked (start_by true c.0) c.1) (all_marked cs) (m - length c.1) in
    ap put_together cut
    ∙ put_first c.0 c.1 (take (m - length c.1) (all_marked cs)) (All-head IsSome c cs some) (anew cs (m - length c.1) (All-tail IsSome c cs some))

pub put_law : PutLaw
put_law [] c m i some is enough = absurd (let no : ⊥ = cc in no)
put_law (x ∷ cs) c m zero some is enough =
    let same : x ≡ c = cc in
    let start = start_by true x.0 in
    let size = ap length (flat_map-cons cut_thing x []) ∙ length-append (marked start x.1) [] in
    let few : length x.1 ≤ m = omega (arith, size, marked_length start x.1, enough) in
    ap (λ (xs : List (List ℕ)). slice_get xs 0) (put_more x cs m some few) ∙ ap (λ (y : Bool × List (List ℕ)). Some (concat y.1)) same
put_law (x ∷ cs) c m (suc i) some is enough =
    let start = start_by true x.0 in
    let size = ap length (flat_map-cons cut_thing x (take (suc i) cs)) ∙ length-append (marked start x.1) (all_marked (take (suc i) cs)) in
    let few : length x.1 ≤ m = omega (arith, size, marked_length start x.1, enough) in
    let rest : length (all_marked (take (suc i) cs)) ≤ m - length x.1 = omega (arith, size, marked_length start x.1, enough) in
    ap (λ (xs : List (List ℕ)). slice_get xs (suc i)) (put_more x cs m some few) ∙ put_law cs c (m - length x.1) i (All-tail IsSome x cs some) is rest
