-- The programs that parts of a document name are declared.
use Rattle.std.proofs.Common.{◌≡◌, ℕ, suc, ◌==◌, ◌||◌, Bool, true, false, List, [], ◌∷◌, map, Option, None, Some, unwrap_or, arith, Contains, inl, inr}
use Rattle.std.proofs.lemmas.Bool.{cases_Bool, eqb-true}
use Rattle.std.specs.List.{list_any}
use Rattle.toml.specs.Data.{Data}
use Rattle.description_keys.specs.ProgramKeys.{has_number, program_number}
use Rattle.description_keys.specs.StreamKeys.{declares}
use Rattle.description_parts.specs.Contents.{described, described_program}
use Rattle.description_keys.specs.Refusals.{programs_of}
use Rattle.description_parts.specs.Ranges.{program_numbers}

number_here : (number : ℕ) (o : Option ℕ) → (elim o [ None ↦ false | Some n ↦ n == number ]) ≡ true → unwrap_or o 1 ≡ number
number_here number None h = absurd (cc)
number_here number (Some n) h = eqb-true n number h

after_false : (b c : Bool) → b ≡ false → (b || c) ≡ true → c ≡ true
after_false true c is h = absurd (cc)
after_false false c is h = h

contains_number : (document : Data) (number : ℕ) (ps : List Data) → list_any (has_number number) ps ≡ true
    → Contains (map (λ p. p.number) (map (described_program document) ps)) number
contains_number document number [] h = absurd (cc)
contains_number document number (p ∷ ps) h = elim (cases_Bool (has_number number p)) [
  | inl here ↦ (0, omega arith, number_here number (program_number p) here)
  | inr other ↦
      let rest = contains_number document number ps (after_false (has_number number p) (list_any (has_number number) ps) other h) in
      (suc rest.0, omega (arith, rest.1), rest.2)
]

pub number_declared : (document : Data) (number : ℕ) → declares document number ≡ true → Contains (program_numbers (described document)) number
number_declared document number h = contains_number document number (programs_of document) h

pub owner_declared : (document : Data) (o : Option ℕ) → (elim o [ None ↦ false | Some number ↦ declares document number ]) ≡ true
    → Contains (map (λ p. p.number) (map (described_program document) (programs_of document))) (unwrap_or o 1)
owner_declared document None h = absurd (cc)
owner_declared document (Some number) h = contains_number document number (programs_of document) h
