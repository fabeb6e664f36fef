-- The steps of a time scale, one by one.
use Rattle.std.proofs.Common.{◌≡◌, ◌∙◌, ℕ, min, Bool, true, false, List, [], ◌∷◌, refl, sym, ap}
use Rattle.page_curves.specs.declared.time_scale.TheConstants.{LONGEST_STEP}
use Rattle.page_curves.specs.TimeScale.{reaches, step_among}

pub found : (rest after : List ℕ) (s g whole : ℕ) (t : Bool) → rest ≡ s ∷ after → t ≡ reaches s g → t ≡ true → step_among rest g ≡ whole →
    min s LONGEST_STEP ≡ whole
unfolding step_among
found rest after s g whole t same is holds before =
    let here : reaches s g ≡ true = sym is ∙ holds in
    let one : step_among (s ∷ after) g ≡ min s LONGEST_STEP = rw here refl in
    sym one ∙ sym (ap (λ (r : List ℕ). step_among r g) same) ∙ before

pub passed : (rest after : List ℕ) (s g whole : ℕ) (t : Bool) → rest ≡ s ∷ after → t ≡ reaches s g → t ≡ false → step_among rest g ≡ whole →
    step_among after g ≡ whole
unfolding step_among
passed rest after s g whole t same is fails before =
    let here : reaches s g ≡ false = sym is ∙ fails in
    let one : step_among (s ∷ after) g ≡ step_among after g = rw here refl in
    sym one ∙ sym (ap (λ (r : List ℕ). step_among r g) same) ∙ before

pub none : (rest : List ℕ) (g whole : ℕ) → rest ≡ [] → step_among rest g ≡ whole → LONGEST_STEP ≡ whole
unfolding step_among
none rest g whole same before = sym (ap (λ (r : List ℕ). step_among r g) same) ∙ before
