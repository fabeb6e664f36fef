-- A part after one more read or write
use Rattle.std.proofs.Common.{◌≡◌, ℕ, ◌+◌, ◌-◌, ◌≤◌, List, ◌++◌, length, take, drop, sym, ap, ◌∙◌, subst, le_refl, drop_at, length-take-le, length-drop}
use Rattle.std.proofs.Common.{take_all}
use Rattle.std.proofs.lemmas.Slice.{take-put_mid_below}
use borrow.Rule.Slice.PartMut.{put_mid, post_of}
use lib.Seq.{take-add, take-append-le}

-- A front of the part, and then a front of the rest, are together a longer front.
pub front_more : (a n : ℕ) (part : List ℕ) → a ≤ length part → n ≤ length (take (length part - a) (drop a part))
    → take a part ++ take n (take (length part - a) (drop a part)) ≡ take (a + n) part
front_more a n part within fits =
    let rest = drop a part in
    let size : length rest ≡ length part - a = length-drop a part in
    let whole : take (length part - a) rest ≡ rest = subst (λ k. take k rest ≡ rest) size (take_all (length rest) rest (le_refl _)) in
    ap (λ l. take a part ++ take n l) whole ∙ sym (take-add a n part)

-- The front that was filled before, and the bytes that were read after it, are the front now.
pub filled_more : (a k n : ℕ) (xs ys : List ℕ) → a ≤ length xs → n ≤ length ys → take (a + n) (put_mid a k xs ys) ≡ take a xs ++ take n ys
filled_more a k n xs ys within fits =
    let front : take a (put_mid a k xs ys) ≡ take a xs = take-put_mid_below _ _ _ _ _ (le_refl _) within in
    let after = post_of a k xs in
    let following : take n (drop a (put_mid a k xs ys)) ≡ take n ys = ap (take n) (drop_at (take a xs) (ys ++ after) a (length-take-le a xs within))
    ∙ take-append-le n ys after fits in
    take-add a n (put_mid a k xs ys) ∙ ap (λ l. l ++ take n (drop a (put_mid a k xs ys))) front ∙ ap (λ l. take a xs ++ l) following
