-- Texts that are written one after another.
use Rattle.std.proofs.Common.{◌≡◌, ◌∙◌, ℕ, List, ◌++◌, Result, Ok, Err, ap, append_assoc}
use Rattle.std.specs.Prelude.{OnOk, if◌then◌else◌, is_ok}

pub two : {V E : Type 0} (r : Result V E) (old one new a b : List ℕ) → one ≡ old ++ a → OnOk r (new ≡ one ++ b) → OnOk r (new ≡ old ++ (a ++ b))
two (Ok v) old one new a b first last = last ∙ ap (λ (t : List ℕ). t ++ b) first ∙ append_assoc old a b
two (Err e) old one new a b first last = tt

pub three : {V E : Type 0} (r : Result V E) (old one other new a b c : List ℕ) → one ≡ old ++ a → other ≡ one ++ b → OnOk r (new ≡ other ++ c) →
    OnOk r (new ≡ old ++ (a ++ (b ++ c)))
three r old one other new a b c first second last = two r old one new a (b ++ c) first (two r one other new b c second last)

pub four : {V E : Type 0} (r : Result V E) (old one other more new a b c d : List ℕ) → one ≡ old ++ a → other ≡ one ++ b → more ≡ other ++ c →
    OnOk r (new ≡ more ++ d) →
    OnOk r (new ≡ old ++ (a ++ (b ++ (c ++ d))))
four r old one other more new a b c d first second third last = two r old one new a (b ++ (c ++ d)) first (three r one other more new b c d second third last)

-- A text is appended, unless memory runs out.
pub pushed : {V E : Type 0} (r : Result V E) (old new a : List ℕ) → new ≡ (if is_ok r then old ++ a else old) → OnOk r (new ≡ old ++ a)
pushed (Ok v) old new a is = is
pushed (Err e) old new a is = tt
