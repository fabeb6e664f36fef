-- Parts of a text, one after another
use Rattle.std.proofs.Common.{◌≡◌, ◌∙◌, ℕ, List, ◌++◌, Result, Ok, Err, ap, append_assoc}
use Rattle.std.specs.Prelude.{OnOk}

pub on_ok : {V E A B : Type 0} (r : Result V E) → (A → B) → OnOk r A → OnOk r B
on_ok (Ok v) f a = f a
on_ok (Err e) f a = tt

pub two : (t0 t1 t2 a b : List ℕ) → t1 ≡ t0 ++ a → t2 ≡ t1 ++ b → t2 ≡ t0 ++ (a ++ b)
two t0 t1 t2 a b p q = q ∙ ap (λ (t : List ℕ). t ++ b) p ∙ append_assoc t0 a b

pub three : (t0 t1 t2 t3 a b c : List ℕ) → t1 ≡ t0 ++ a → t2 ≡ t1 ++ b → t3 ≡ t2 ++ c → t3 ≡ t0 ++ (a ++ (b ++ c))
three t0 t1 t2 t3 a b c p q r = two t0 t1 t3 a (b ++ c) p (two t1 t2 t3 b c q r)

pub four : (t0 t1 t2 t3 t4 a b c d : List ℕ) → t1 ≡ t0 ++ a → t2 ≡ t1 ++ b → t3 ≡ t2 ++ c → t4 ≡ t3 ++ d → t4 ≡ t0 ++ (a ++ (b ++ (c ++ d)))
four t0 t1 t2 t3 t4 a b c d p q r s = two t0 t1 t4 a (b ++ (c ++ d)) p (three t1 t2 t3 t4 b c d q r s)

pub six : (t0 t1 t2 t3 t4 t5 t6 a b c d e f : List ℕ) → t1 ≡ t0 ++ a → t2 ≡ t1 ++ b → t3 ≡ t2 ++ c → t4 ≡ t3 ++ d → t5 ≡ t4 ++ e → t6 ≡ t5 ++ f →
    t6 ≡ t0 ++ (a ++ (b ++ (c ++ (d ++ (e ++ f)))))
six t0 t1 t2 t3 t4 t5 t6 a b c d e f p q r s i j =
    three t0 t1 t2 t6 a b (c ++ (d ++ (e ++ f))) p q (two t2 t3 t6 c (d ++ (e ++ f)) r (three t3 t4 t5 t6 d e f s i j))
