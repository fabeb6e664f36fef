-- The first match in a list whose items are viewed in another form, and whether any item matches.
use Rattle.std.proofs.Common.{◌≡◌, ◌∙◌, ◌||◌, ℕ, Bool, List, [], ◌∷◌, Option, Some, None, ap, map, option_map, find, refl, inl, inr, sym}
use Rattle.std.specs.Prelude.{option_and_then}
use Rattle.std.specs.Borrow.{Bor}
use Rattle.std.specs.List.{list_any}
use Rattle.std.specs.Str.{bytes_eq}
use Rattle.std.proofs.lemmas.Bool.{cases_Bool}
use Rattle.word_faults.specs.CommandLine.{Text}
use Rattle.word_faults.specs.OptionRows.{OptionRow, name_in, row_of, view}
use Rattle.word_faults.specs.declared.option_row.Row.{Row}

pub find_mapped : {A B : Type 0} (f : A → B) (test : B → Bool) (xs : List A) → find test (map f xs) ≡ option_map f (find (λ x. test (f x)) xs)
find_mapped f test [] = refl
find_mapped f test (x ∷ xs) = elim (cases_Bool (test (f x))) [
  | inl e ↦ rw e refl
  | inr e ↦ rw e (find_mapped f test xs)
]

pub any_mapped : {A B : Type 0} (f : A → B) (test : B → Bool) (xs : List A) → list_any test (map f xs) ≡ list_any (λ x. test (f x)) xs
any_mapped f test [] = refl
any_mapped f test (x ∷ xs) = ap (λ (b : Bool). test (f x) || b) (any_mapped f test xs)

-- The row of a word, among rows in memory

seen_twice : (found : Option (Bor (Row (Bor (List ℕ))))) → option_map (λ row. view row.now) found ≡ option_map view (option_map (λ row. row.now) found)
seen_twice None = refl
seen_twice (Some row) = refl

pub row_seen : (rows : List (Row (Bor (List ℕ)))) (word name : Text) (found : Option (Bor (Row (Bor (List ℕ))))) → Some name ≡ name_in word →
    option_map (λ row. row.now) found ≡ find (λ row. bytes_eq row.name.now name) rows → option_map (λ row. view row.now) found ≡ row_of (map view rows) word
row_seen rows word name found is at =
    seen_twice found ∙ ap (λ (row : Option (Row (Bor (List ℕ)))). option_map view row) at
    ∙ sym (find_mapped view (λ (row : OptionRow). bytes_eq row.name name) rows)
    ∙ ap (λ (n : Option Text). option_and_then (λ (m : Text). find (λ (row : OptionRow). bytes_eq row.name m) (map view rows)) n) is
