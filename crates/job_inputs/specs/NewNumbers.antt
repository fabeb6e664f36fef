-- New numbers for programs, and new PIDs, where the inputs before have them.
use Rattle.std.specs.Prelude.{◌≡◌, ℕ, ◌==◌, nat_eq, not, Bool, if◌then◌else◌, List, [], ◌∷◌, ◌++◌, map, filter, find, zip, Option, Some, option_map}
use Rattle.std.specs.Prelude.{option_and_then, unwrap_or}
use Rattle.std.specs.Option.{option_or}
use Rattle.std.specs.List.{IsDistinct}
use Rattle.stream_programs.specs.FreePids.{is_taken, least_free}
use Rattle.job_inputs.specs.declared.new_numbers.NewNumber.{NewNumber}

-- 1. One number

-- in place of a number that is taken: the first free number from it on, up to 8,190; otherwise the first free number from `least` on
unfoldable pub new_place : ℕ → List ℕ → ℕ → Option ℕ
new_place least taken number = option_or (least_free number taken) (least_free least taken)

-- the new number for a number of an input: the number itself, if no input before has it
unfoldable pub place_of : ℕ → List ℕ → List ℕ → ℕ → Option ℕ
place_of least before taken number = if is_taken number before then new_place least taken number else Some number

-- 2. All numbers of an input

-- the numbers given before, and the new numbers for further numbers in order; taken are all numbers of earlier inputs, of this input, and given before
unfoldable pub places_after : ℕ → List ℕ → List ℕ → List ℕ → List ℕ → Option (List ℕ)
places_after least before own given [] = Some given
places_after least before own given (number ∷ numbers) =
    option_and_then (λ place. places_after least before own (given ++ place ∷ []) numbers) (place_of least before ((before ++ own) ++ given) number)

-- the new number for each number in order, if there are enough
abbrev pub places_of : ℕ → List ℕ → List ℕ → Option (List ℕ)
places_of least before own = places_after least before own [] own

-- a number and what it becomes
abbrev pub new_number : ℕ × ℕ → NewNumber
new_number n = record { from = n.0; to = n.1 }

abbrev pub new_numbers : ℕ → List ℕ → List ℕ → Option (List NewNumber)
new_numbers least before own = option_map (λ places. map new_number (zip own places)) (places_of least before own)

-- 3. What a number becomes

unfoldable pub becomes : List NewNumber → ℕ → ℕ
becomes all number = unwrap_or (option_map (λ n. n.to) (find (λ n. n.from == number) all)) number

-- another one
unfoldable pub is_other : NewNumber → Bool
is_other n = not (n.from == n.to)

-- a number beside what it becomes
unfoldable pub becoming : List NewNumber → ℕ → NewNumber
becoming all number = record { from = number; to = becomes all number }

-- the numbers that change
abbrev pub others : List NewNumber → List ℕ → List NewNumber
others all numbers = filter is_other (map (becoming all) numbers)

-- 4. Laws

-- if the numbers before are distinct, and the numbers of the input too, then the numbers before and the given numbers are all distinct
abbrev pub PlacesAreApart : Type 0
PlacesAreApart = (least : ℕ) (before own places : List ℕ) → IsDistinct nat_eq before → IsDistinct nat_eq own → places_of least before own ≡ Some places →
    IsDistinct nat_eq (before ++ places)
