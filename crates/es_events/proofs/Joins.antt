-- Lists of events that are joined, and the rest of a list past its end.
use Rattle.std.proofs.Common.{◌≡◌, ◌∙◌, ℕ, zero, suc, List, [], ◌∷◌, ◌++◌, ◌≤◌, length, drop, Result, Ok, Err, refl, ap, append_assoc, arith}
use Rattle.std.specs.Prelude.{OnOk}
use Rattle.events.specs.declared.event.Event.{Event}

pub on_ok : {V E A B : Type 0} (r : Result V E) → (A → B) → OnOk r A → OnOk r B
on_ok (Ok v) f a = f a
on_ok (Err e) f a = tt

-- Three lists joined one after another
pub three : (t0 t1 t2 t3 a b c : List Event) → t1 ≡ t0 ++ a → t2 ≡ t1 ++ b → t3 ≡ t2 ++ c → t3 ≡ t0 ++ (a ++ (b ++ c))
three t0 t1 t2 t3 a b c p q r =
    r ∙ ap (λ (t : List Event). t ++ c) (q ∙ ap (λ (t : List Event). t ++ b) p) ∙ append_assoc (t0 ++ a) b c ∙ append_assoc t0 a (b ++ c)

-- Four lists joined one after another
pub four : (t0 t1 t2 t3 t4 a b c d : List Event) → t1 ≡ t0 ++ a → t2 ≡ t1 ++ b → t3 ≡ t2 ++ c → t4 ≡ t3 ++ d → t4 ≡ t0 ++ (a ++ (b ++ (c ++ d)))
four t0 t1 t2 t3 t4 a b c d p q r s =
    s ∙ ap (λ (t : List Event). t ++ d) (three t0 t1 t2 t3 a b c p q r) ∙ append_assoc t0 (a ++ (b ++ c)) d
    ∙ ap (λ (t : List Event). t0 ++ t) (append_assoc a (b ++ c) d ∙ ap (λ (t : List Event). a ++ t) (append_assoc b c d))

-- Past the end of a list nothing is left.
pub drop_past : {X : Type 0} (xs : List X) (i : ℕ) → length xs ≤ i → drop i xs ≡ []
drop_past [] zero h = refl
drop_past [] (suc i) h = refl
drop_past (x ∷ xs) zero h = absurd (omega arith)
drop_past (x ∷ xs) (suc i) h = drop_past xs i (omega arith)
