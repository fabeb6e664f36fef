-- The table of program numbers, program by program
use Rattle.std.proofs.Common.{◌≡◌, ◌≢◌, ◌∙◌, sym, ◌<◌, ℕ, ◌==◌, ◌||◌, Bool, true, false, List, [], ◌∷◌, ◌++◌, length, get_or, set, replicate, refl, arith}
use Rattle.std.proofs.Common.{get_or-set_other}
use Rattle.std.proofs.Math.Bool.{or-false, or-true}
use Rattle.std.proofs.lemmas.Bool.Decides.{nat_tests}
use Rattle.std.proofs.lemmas.Grind.{get_or-set_at}
use Rattle.std.proofs.lemmas.List.{get_or-replicate}
use Rattle.std.proofs.lemmas.List.Folds.{list_any-append}
use Rattle.psi_tables.specs.declared.pat.programs.Program.{Program}
use Rattle.program_tables.specs.Association.{is_named}
use Rattle.program_tables.specs.ProgramLists.{MarksNamed}

pub marks_none : MarksNamed (replicate 65536 false) []
unfolding MarksNamed is_named
marks_none = λ number below. get_or-replicate 65536 number false false below

-- A number is named after one more program if it was named before or is the number of this program.
named_after : (number : ℕ) (programs : List Program) (p : Program) →
    is_named number (programs ++ p ∷ []) ≡ (is_named number programs || ((p.program_number == number) || false))
unfolding is_named
named_after number programs p = list_any-append (λ (program : Program). program.program_number == number) programs (p ∷ [])

marks_at : (numbers : List Bool) (programs : List Program) (p : Program) (number : ℕ) (same : Bool) → (p.program_number == number) ≡ same →
    p.program_number < length numbers →
    get_or numbers number false ≡ is_named number programs →
    get_or (set numbers p.program_number true) number false ≡ is_named number (programs ++ p ∷ [])
marks_at numbers programs p number true e below marks =
    let at : number ≡ p.program_number = grind (arith, nat_tests) in
    get_or-set_at numbers p.program_number number true false at below ∙ sym (named_after number programs p ∙ rw e (or-true (is_named number programs)))
marks_at numbers programs p number false e below marks =
    let other : number ≢ p.program_number = grind (arith, nat_tests) in
    get_or-set_other numbers p.program_number number true false other ∙ marks ∙ sym (named_after number programs p ∙ rw e (or-false (is_named number programs)))

pub marks_after : (numbers : List Bool) (programs : List Program) (p : Program) → p.program_number < length numbers → MarksNamed numbers programs →
    MarksNamed (set numbers p.program_number true) (programs ++ p ∷ [])
unfolding MarksNamed
marks_after numbers programs p below marks = λ number under. marks_at numbers programs p number (p.program_number == number) refl below (marks number under)

no_zero : (number : ℕ) → number ≢ 0 → (number == 0) ≡ false
no_zero number some = grind (arith, nat_tests)

pub marks_one : (numbers : List Bool) (programs : List Program) (number : ℕ) → number ≢ 0 → number < 65536 → MarksNamed numbers programs →
    get_or numbers number false ≡ ((number == 0) || is_named number programs)
unfolding MarksNamed
marks_one numbers programs number some below marks =
    let e : (number == 0) ≡ false = no_zero number some in
    rw e (marks number below)
