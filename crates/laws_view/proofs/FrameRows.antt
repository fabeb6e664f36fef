-- The frames that a walk finds in a payload are consecutive, and cover all bytes from the first frame on.
use Rattle.std.proofs.Common.{◌≡◌, ℕ, zero, suc, ◌+◌, ◌-◌, ◌<◌, ◌≤◌, min, Bool, true, false, List, [], ◌∷◌, length, drop}
use Rattle.std.proofs.Common.{if◌then◌else◌, refl, subst, inl, inr, arith}
use Rattle.std.proofs.lemmas.Bool.Decides.{eqb_tells}
use Rattle.std.proofs.lemmas.List.{length-drop}
use Rattle.sound_frames.specs.declared.frame_walk.FramePart.{FramePart}
use Rattle.sound_frames.specs.FrameWalks.{WalkView, begun, count_by, count_passed, frames_in, headed, missing, parts_from, passed}

-- These frames are consecutive, and make up the n bytes from this place on.
unfoldable pub InTurn : ℕ → ℕ → List FramePart → Type 0
InTurn place n [] = n ≡ 0
InTurn place n (p ∷ ps) = (p.place ≡ place) × (p.size ≤ n) × InTurn (place + p.size) (n - p.size) ps

-- One step of the walk

pub count_le : (w : WalkView) (bytes : List ℕ) → count_passed w bytes ≤ length bytes
unfolding count_passed
count_le w bytes = by w.lost
  where
    v : WalkView
    v = headed w bytes

    n : ℕ
    n = length bytes

    first : ℕ
    first = min (missing w) n

    counted : (lost : Bool) → (if lost then n else first + min v.left (n - first)) ≤ n
    counted true = omega arith
    counted false = omega arith

    by : (lost : Bool) → (if lost then n else count_by v first n) ≤ n
    by true = omega arith
    by false = unfold count_by in counted v.lost

-- A frame that begins has at least one byte.
pub count_some : (w : WalkView) (bytes : List ℕ) → 0 < length bytes → 0 < count_passed (begun w) bytes
unfolding count_passed
count_some w bytes some = by w.lost
  where
    v : WalkView
    v = headed (begun w) bytes

    n : ℕ
    n = length bytes

    counted : (lost : Bool) → 0 < (if lost then n else min 7 n + min v.left (n - min 7 n))
    counted true = some
    counted false = omega (arith, some)

    by : (lost : Bool) → 0 < (if lost then n else count_by v (min 7 n) n)
    by true = some
    by false = unfold count_by in counted v.lost

-- All frames of a walk

pub parts_in_turn : (n : ℕ) (w : WalkView) (place : ℕ) (bytes : List ℕ) → length bytes ≤ n → InTurn place (length bytes) (parts_from n w place bytes)
unfolding parts_from InTurn
parts_in_turn zero w place bytes few = omega (arith, few)
parts_in_turn (suc n) w place bytes few = elim (eqb_tells (length bytes) 0) [
  | inl none ↦ rw none.0 none.1
  | inr some ↦
      let c : ℕ = count_passed (begun w) bytes in
      let le : c ≤ length bytes = count_le (begun w) bytes in
      let one : 0 < c = count_some w bytes (positive (length bytes) some.1) in
      let rest : List ℕ = drop c bytes in
      let many : length rest ≡ length bytes - c = length-drop c bytes in
      let more = parts_in_turn n (passed (begun w) bytes) (place + c) rest (omega (arith, many, one, few)) in
      rw some.0 (refl, le, subst (λ (m : ℕ). InTurn (place + c) m (parts_from n (passed (begun w) bytes) (place + c) rest)) many more)
]
  where
    positive : (m : ℕ) → (m ≡ 0 → ⊥) → 0 < m
    positive zero some = absurd (some refl)
    positive (suc m) some = omega arith

-- The frames of a payload follow the rest of the frame before.
pub frames_in_turn : (w : WalkView) (bytes : List ℕ) → InTurn (count_passed w bytes) (length bytes - count_passed w bytes) (frames_in w bytes)
frames_in_turn w bytes =
    let c : ℕ = count_passed w bytes in
    let rest : List ℕ = drop c bytes in
    let many : length rest ≡ length bytes - c = length-drop c bytes in
    subst (λ (m : ℕ). InTurn c m (frames_in w bytes)) many (parts_in_turn (length bytes) (passed w bytes) c rest (omega (arith, many)))
