-- The steps of a walk over the frames of a unit that arrive piece by piece.
use Rattle.std.proofs.Common.{◌≡◌, ◌∙◌, ℕ, zero, suc, ◌+◌, ◌-◌, ◌<◌, ◌==◌, true, false, List, [], ◌∷◌, ◌++◌, length, drop, refl, sym, ap, append_assoc, arith}
use Rattle.sound_frames.specs.declared.frame_walk.FramePart.{FramePart}
use Rattle.sound_frames.specs.FrameWalks.{WalkView, begun, count_passed, part_at, parts_from, passed, walked_from}

pub part_more : (n : ℕ) (w : WalkView) (place : ℕ) (bytes : List ℕ) → 0 < n → (length bytes == 0) ≡ false →
    parts_from n w place bytes
    ≡ part_at (begun w) place bytes ∷ parts_from (n - 1) (passed (begun w) bytes) (place + count_passed (begun w) bytes)
    (drop (count_passed (begun w) bytes) bytes)
unfolding parts_from
part_more zero w place bytes some more = absurd (omega arith)
part_more (suc n) w place bytes some more = let e : suc n - 1 ≡ n = omega arith in rw (e, more) refl

pub walk_more : (n : ℕ) (w : WalkView) (bytes : List ℕ) → 0 < n → (length bytes == 0) ≡ false →
    walked_from n w bytes ≡ walked_from (n - 1) (passed (begun w) bytes) (drop (count_passed (begun w) bytes) bytes)
unfolding walked_from
walk_more zero w bytes some more = absurd (omega arith)
walk_more (suc n) w bytes some more = let e : suc n - 1 ≡ n = omega arith in rw (e, more) refl

pub no_part : (n : ℕ) (w : WalkView) (place : ℕ) (bytes : List ℕ) → (length bytes == 0) ≡ true → parts_from n w place bytes ≡ []
unfolding parts_from
no_part zero w place bytes none = refl
no_part (suc n) w place bytes none = rw none refl

pub no_walk_on : (n : ℕ) (w : WalkView) (bytes : List ℕ) → (length bytes == 0) ≡ true → walked_from n w bytes ≡ w
unfolding walked_from
no_walk_on zero w bytes none = refl
no_walk_on (suc n) w bytes none = rw none refl

pub no_step : (n : ℕ) (w : WalkView) (place : ℕ) (bytes : List ℕ) → n ≡ 0 → parts_from n w place bytes ≡ []
unfolding parts_from
no_step zero w place bytes none = refl
no_step (suc n) w place bytes none = absurd (omega (arith, none))

pub no_step_walk : (n : ℕ) (w : WalkView) (bytes : List ℕ) → n ≡ 0 → walked_from n w bytes ≡ w
unfolding walked_from
no_step_walk zero w bytes none = refl
no_step_walk (suc n) w bytes none = absurd (omega (arith, none))

-- One step of the walk
pub parts_on : (n : ℕ) (w w' w'' : WalkView) (place size ahead : ℕ) (bytes rest : List ℕ) (parts parts' whole : List FramePart) → 0 < n →
    (length bytes == 0) ≡ false → w' ≡ begun w →
    w'' ≡ passed w' bytes → size ≡ count_passed w' bytes → rest ≡ drop size bytes → ahead ≡ (begun w).ahead →
    parts' ≡ parts ++ record { place = place; size = size; ahead = ahead } ∷ [] →
    parts ++ parts_from n w place bytes ≡ whole → parts' ++ parts_from (n - 1) w'' (place + size) rest ≡ whole
parts_on n w w' w'' place size ahead bytes rest parts parts' whole some more p q r s a t is =
    rw (t, a, s, r, q, p)
    (append_assoc parts (part_at (begun w) place bytes ∷ [])
    (parts_from (n - 1) (passed (begun w) bytes) (place + count_passed (begun w) bytes) (drop (count_passed (begun w) bytes) bytes))
    ∙ ap (λ (l : List FramePart). parts ++ l) (sym (part_more n w place bytes some more)) ∙ is)

pub walk_on : (n : ℕ) (w w' w'' whole : WalkView) (size : ℕ) (bytes rest : List ℕ) → 0 < n → (length bytes == 0) ≡ false → w' ≡ begun w →
    w'' ≡ passed w' bytes → size ≡ count_passed w' bytes → rest ≡ drop size bytes → walked_from n w bytes ≡ whole → walked_from (n - 1) w'' rest ≡ whole
walk_on n w w' w'' whole size bytes rest some more p q r s is = rw (s, r, q, p) (sym (walk_more n w bytes some more) ∙ is)
