-- A curve as paths: the attribute `d` of SVG paths (SVG 2, 9.3).
use Rattle.std.specs.Prelude.{ℕ, suc, nat_le, if◌then◌else◌, List, [], ◌∷◌, ◌++◌, codes, decimal, Option, Some, None}
use Rattle.page_curves.specs.declared.bounds.Bounds.{Bounds}
use Rattle.page_curves.specs.declared.frame.Frame.{Frame}
use Rattle.page_curves.specs.Scale.{across, height_of}
use Rattle.page_curves.specs.Frames.{height, shown, slots_of, top_value}

-- texts of the elements of a list, each made from the element and its number; the first has number k
abbrev pub numbered : {A : Type 0} → (ℕ → A → List ℕ) → ℕ → List A → List ℕ
numbered part k [] = []
numbered part k (x ∷ xs) = part k x ++ numbered part (suc k) xs

-- the same texts with the last one first
unfoldable pub numbered_back : {A : Type 0} → (ℕ → A → List ℕ) → ℕ → List A → List ℕ
numbered_back part k [] = []
numbered_back part k (x ∷ xs) = numbered_back part (suc k) xs ++ part k x

-- a point of the line of greatest values: lines join the points after the first `M`
unfoldable pub point_of : Frame → ℕ → ℕ → Option Bounds → List ℕ
point_of f span slot None = []
point_of f span slot (Some b) = codes " " ++ (decimal (across (slots_of f span) slot) ++ (codes " " ++ decimal (height f b.greatest)))

abbrev pub point : Frame → ℕ → ℕ → Option Bounds → List ℕ
point f span slot b = point_of f span slot (shown f span slot b)

-- a point of the line of least values
unfoldable pub low_of : Frame → ℕ → ℕ → Option Bounds → List ℕ
low_of f span slot None = []
low_of f span slot (Some b) = codes " " ++ (decimal (across (slots_of f span) slot) ++ (codes " " ++ decimal (height f b.least)))

abbrev pub low : Frame → ℕ → ℕ → Option Bounds → List ℕ
low f span slot b = low_of f span slot (shown f span slot b)

-- from a limit to a greatest value over it, with a mark above
abbrev pub over_to : Frame → ℕ → ℕ → ℕ → List ℕ
over_to f limit x greatest = codes "M" ++ (decimal x ++ (codes " " ++ (decimal (height_of (top_value f) limit)
    ++ (codes "V" ++ (decimal (height_of (top_value f) greatest) ++ codes "m-35 -80h70l-35 70z")))))

unfoldable pub over : Frame → ℕ → ℕ → ℕ → Option Bounds → List ℕ
over f limit span slot None = []
over f limit span slot (Some b) = if nat_le b.greatest limit then [] else over_to f limit (across (slots_of f span) slot) b.greatest
