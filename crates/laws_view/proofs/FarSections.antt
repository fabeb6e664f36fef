-- Sections of one key that are far enough apart.
use Rattle.std.proofs.Common.{◌≡◌, ℕ, ◌-◌, ◌≤◌, ◌==◌, true, List, [], ◌∷◌, ◌++◌}
use Rattle.std.specs.List.{filter_map}
use Rattle.pid_findings.specs.Views.{FindingView}
use Rattle.tr101290.specs.Distances.{extension_key, is_spaced, whole_ticks}
use Rattle.tr101290.specs.Sections.{whole_section}
use Rattle.tr101290.specs.declared.distances.WholeSection.{WholeSection}

abbrev pub wholes : List FindingView → List WholeSection
wholes fs = filter_map whole_section fs

-- A section of the same key begins at least 25 ms after the end of this one, in ticks of 27 MHz.
abbrev pub IsFar : ℕ → WholeSection → WholeSection → Type 0
IsFar rate w v = is_spaced w.begin.pid w.begin.table_id ≡ true → is_spaced v.begin.pid v.begin.table_id ≡ true → (extension_key w == extension_key v) ≡ true →
    675000 ≤ whole_ticks rate (v.begin.place - w.end)

unfoldable pub EachFar : ℕ → WholeSection → List WholeSection → Type 0
EachFar rate w [] = Unit {0}
EachFar rate w (v ∷ vs) = IsFar rate w v × EachFar rate w vs

unfoldable pub AllFar : ℕ → List WholeSection → Type 0
AllFar rate [] = Unit {0}
AllFar rate (w ∷ ws) = EachFar rate w ws × AllFar rate ws

each_first : (rate : ℕ) (w : WholeSection) (xs ys : List WholeSection) → EachFar rate w (xs ++ ys) → EachFar rate w xs
unfolding EachFar
each_first rate w [] ys h = tt
each_first rate w (x ∷ xs) ys h = (h.0, each_first rate w xs ys h.1)

pub far_first : (rate : ℕ) (xs ys : List WholeSection) → AllFar rate (xs ++ ys) → AllFar rate xs
unfolding AllFar
far_first rate [] ys h = tt
far_first rate (x ∷ xs) ys h = (each_first rate x xs ys h.0, far_first rate xs ys h.1)

pub far_last : (rate : ℕ) (xs ys : List WholeSection) → AllFar rate (xs ++ ys) → AllFar rate ys
unfolding AllFar
far_last rate [] ys h = h
far_last rate (x ∷ xs) ys h = far_last rate xs ys h.1
