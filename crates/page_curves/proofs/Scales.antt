-- Scales, one by one, and the greatest value of curves, one by one.
use Rattle.std.proofs.Common.{◌≡◌, ◌∙◌, ℕ, ◌==◌, min, max, Bool, true, false, List, [], ◌∷◌, refl, sym, ap, arith}
use Rattle.page_curves.specs.declared.scale.TheConstants.{GREATEST_VALUE}
use Rattle.page_curves.specs.declared.pid_curves.PidCurve.{PidCurve}
use Rattle.page_curves.specs.Scale.{reaches, scale_among}
use Rattle.page_curves.specs.PidCurves.{greatest_in, greatest_value}

pub found : (rest after : List ℕ) (s g whole : ℕ) (t : Bool) → rest ≡ s ∷ after → t ≡ reaches s g → t ≡ true → scale_among rest g ≡ whole →
    min s GREATEST_VALUE ≡ whole
unfolding scale_among
found rest after s g whole t same is holds before =
    let here : reaches s g ≡ true = sym is ∙ holds in
    let one : scale_among (s ∷ after) g ≡ min s GREATEST_VALUE = rw here refl in
    sym one ∙ sym (ap (λ (r : List ℕ). scale_among r g) same) ∙ before

pub passed : (rest after : List ℕ) (s g whole : ℕ) (t : Bool) → rest ≡ s ∷ after → t ≡ reaches s g → t ≡ false → scale_among rest g ≡ whole →
    scale_among after g ≡ whole
unfolding scale_among
passed rest after s g whole t same is fails before =
    let here : reaches s g ≡ false = sym is ∙ fails in
    let one : scale_among (s ∷ after) g ≡ scale_among after g = rw here refl in
    sym one ∙ sym (ap (λ (r : List ℕ). scale_among r g) same) ∙ before

pub none : (rest : List ℕ) (g whole : ℕ) → rest ≡ [] → scale_among rest g ≡ whole → GREATEST_VALUE ≡ whole
unfolding scale_among
none rest g whole same before = sym (ap (λ (r : List ℕ). scale_among r g) same) ∙ before

pub greatest_more : (rest after : List PidCurve) (e : PidCurve) (g x m whole : ℕ) → x ≡ greatest_in e → m ≡ max g x → rest ≡ e ∷ after →
    max g (greatest_value rest) ≡ whole →
    max m (greatest_value after) ≡ whole
unfolding greatest_value
greatest_more rest after e g x m whole is more same before =
    let one : greatest_value rest ≡ max (greatest_in e) (greatest_value after) = ap greatest_value same in
    omega (arith, one, is, more, before)

pub greatest_all : (rest : List PidCurve) (g whole : ℕ) → rest ≡ [] → max g (greatest_value rest) ≡ whole → g ≡ whole
unfolding greatest_value
greatest_all rest g whole same before =
    let nothing : greatest_value rest ≡ 0 = ap greatest_value same in
    omega (arith, nothing, before)
