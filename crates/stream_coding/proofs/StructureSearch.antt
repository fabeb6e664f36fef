-- A search, step by step: at the front of the bytes, and after the first byte
use Rattle.std.proofs.Common.{◌≡◌, ℕ, refl, subst, List, [], ◌∷◌, length, None, Some}
use Rattle.stream_coding.specs.Structures.{at_front, found_in}
use Rattle.stream_coding.specs.declared.structures.Structure.{Structure}

pub found_here : (s : Structure) (bytes rest found : List ℕ) (b : ℕ) → bytes ≡ b ∷ rest → at_front s bytes ≡ Some found → found_in s bytes ≡ Some found
unfolding found_in
found_here s bytes rest found b is here = rw is (rw (subst (λ (l : List ℕ). at_front s l ≡ Some found) is here) refl)

pub found_later : (s : Structure) (bytes rest : List ℕ) (b : ℕ) → bytes ≡ b ∷ rest → at_front s bytes ≡ None → found_in s bytes ≡ found_in s rest
unfolding found_in
found_later s bytes rest b is here = rw is (rw (subst (λ (l : List ℕ). at_front s l ≡ None) is here) refl)

pub found_nowhere : (s : Structure) (bytes : List ℕ) → length bytes ≡ 0 → found_in s bytes ≡ None
unfolding found_in
found_nowhere s [] none = refl
found_nowhere s (b ∷ bytes) none = absurd cc
