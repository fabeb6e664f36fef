-- Elements that a test finds equal are equal in the order that belongs to the test.
use Rattle.std.proofs.Common.{◌≡◌, Bool, true, List, sym, ◌∙◌}
use Rattle.std.specs.List.{Any}
use Rattle.std.specs.Cmp.{Equal-is}
use Rattle.std.specs.Ordering.{eq_by_cmp}
use Rattle.std.specs.declared.cmp.Ordering.{Ordering}
use Rattle.std.specs.declared.cmp.Ordering.TheVariants.{Equal}

pub tied : {X : Type 0} (E : X → X → Bool) (R : X → X → Ordering) → ((x y : X) → E x y ≡ eq_by_cmp R x y) → (xs : List X) (x : X) → Any (λ y. E x y ≡ true) xs →
    Any (λ y. R x y ≡ Equal) xs
tied E R ties xs x (k, y, n, at, e) = (k, y, n, at, (Equal-is (R x y)).0 (sym (ties x y) ∙ e))
