-- Faults that compare as equal are the same, so lists in order with the same members are the same.
use Rattle.std.proofs.Common.{◌⊎◌, inl, inr, ⊎_elim, ◌≡◌, Bool, true, false, cond, List, [], ◌∷◌, refl, sym, ap, ap₂, subst, ◌∙◌, arith}
use Rattle.std.specs.Prelude.{◌&&◌, ◌||◌, not}
use Rattle.monitor.specs.declared.fault.StreamFault.{StreamFault}
use Rattle.monitor.specs.InOrder.{is_before, placed, in_order}
use Rattle.monitor.proofs.SortedFaults.{before_trans, before_apart, before_none}

-- Returns whether f is not before g, and g is not before f.
unfoldable pub same : StreamFault → StreamFault → Bool
same f g = not (is_before f g) && not (is_before g f)

unfoldable pub has : StreamFault → List StreamFault → Bool
has f [] = false
has f (g ∷ faults) = same f g || has f faults

no_false : true ≡ false → ⊥
no_false e = grind arith

pub same_is : (f g : StreamFault) → same f g ≡ true → f ≡ g
unfolding same
same_is f g = by (is_before f g) (is_before g f) refl refl
  where
    by : (a b : Bool) → is_before f g ≡ a → is_before g f ≡ b → (not a && not b) ≡ true → f ≡ g
    by true b p q e = absurd (grind arith)
    by false true p q e = absurd (grind arith)
    by false false p q e = before_none f g p q

before_itself : (f : StreamFault) → is_before f f ≡ false
before_itself f = by (is_before f f) refl
  where
    by : (a : Bool) → is_before f f ≡ a → a ≡ false
    by true e = absurd (before_apart f f e e)
    by false e = refl

pub same_itself : (f : StreamFault) → same f f ≡ true
unfolding same
same_itself f = rw (before_itself f) refl

or_turned : (a b c : Bool) → (a || (b || c)) ≡ (b || (a || c))
or_turned true true c = refl
or_turned true false c = refl
or_turned false true c = refl
or_turned false false c = refl

or_twice : (a b : Bool) → (a || b) ≡ (a || (a || b))
or_twice true b = refl
or_twice false b = refl

-- The members of a list after an insert in its place
has_placed : (x f : StreamFault) (faults : List StreamFault) → has x (placed f faults) ≡ (same x f || has x faults)
unfolding placed has
has_placed x f [] = refl
has_placed x f (g ∷ faults) = by (is_before f g) (is_before g f) refl refl (has_placed x f faults)
  where
    by : (a b : Bool) → is_before f g ≡ a → is_before g f ≡ b → has x (placed f faults) ≡ (same x f || has x faults) →
        has x (cond a (f ∷ g ∷ faults) (cond b (g ∷ placed f faults) (g ∷ faults))) ≡ (same x f || (same x g || has x faults))
    by true b p q h = refl
    by false true p q h = ap (λ (c : Bool). same x g || c) h ∙ or_turned (same x g) (same x f) (has x faults)
    by false false p q h = or_twice (same x g) (has x faults) ∙ ap (λ (y : StreamFault). same x y || (same x g || has x faults)) (sym (before_none f g p q))

pub has_in_order : (x : StreamFault) (faults : List StreamFault) → has x (in_order faults) ≡ has x faults
unfolding in_order has
has_in_order x [] = refl
has_in_order x (f ∷ faults) = has_placed x f (in_order faults) ∙ ap (λ (c : Bool). same x f || c) (has_in_order x faults)

-- A fault is before all faults after it in the list.
abbrev pub above : StreamFault → List StreamFault → Type 0
above f faults = (x : StreamFault) → has x faults ≡ true → is_before f x ≡ true

abbrev pub rising : List StreamFault → Type 0
rising [] = Unit {0}
rising (f ∷ faults) = above f faults × rising faults

either : (a b : Bool) → (a || b) ≡ true → (a ≡ true) ⊎ (b ≡ true)
either true b e = inl refl
either false b e = inr e

rising_placed : (f : StreamFault) (faults : List StreamFault) → rising faults → rising (placed f faults)
unfolding placed has
rising_placed f [] h = (λ x e. absurd (no_false (sym e)), tt)
rising_placed f (g ∷ faults) h = by (is_before f g) (is_before g f) refl refl (rising_placed f faults h.1)
  where
    first : (x : StreamFault) → is_before f g ≡ true → (same x g || has x faults) ≡ true → is_before f x ≡ true
    first x p e = ⊎_elim (λ s. subst (λ (y : StreamFault). is_before f y ≡ true) (sym (same_is x g s)) p) (λ s. before_trans f g x p (h.0 x s))
        (either (same x g) (has x faults) e)

    next : (x : StreamFault) → is_before g f ≡ true → has x (placed f faults) ≡ true → is_before g x ≡ true
    next x q e = ⊎_elim (λ s. subst (λ (y : StreamFault). is_before g y ≡ true) (sym (same_is x f s)) q) (λ s. h.0 x s)
        (either (same x f) (has x faults) (sym (has_placed x f faults) ∙ e))

    by : (a b : Bool) → is_before f g ≡ a → is_before g f ≡ b → rising (placed f faults) →
        rising (cond a (f ∷ g ∷ faults) (cond b (g ∷ placed f faults) (g ∷ faults)))
    by true b p q k = (λ x e. first x p e, h)
    by false true p q k = (λ x e. next x q e, k)
    by false false p q k = h

pub rising_in_order : (faults : List StreamFault) → rising (in_order faults)
unfolding in_order
rising_in_order [] = tt
rising_in_order (f ∷ faults) = rising_placed f (in_order faults) (rising_in_order faults)

-- Lists in order with the same members are the same.
heads : (x y : StreamFault) (xs ys : List StreamFault) → rising (x ∷ xs) → rising (y ∷ ys) → ((z : StreamFault) → has z (x ∷ xs) ≡ has z (y ∷ ys)) → x ≡ y
unfolding has
heads x y xs ys h k e =
    let in_y : (same x y || has x ys) ≡ true = sym (e x) ∙ ap (λ (b : Bool). b || has x xs) (same_itself x) in
    let in_x : (same y x || has y xs) ≡ true = e y ∙ ap (λ (b : Bool). b || has y ys) (same_itself y) in
    ⊎_elim (λ s. same_is x y s)
    (λ s. ⊎_elim (λ t. sym (same_is y x t)) (λ t. absurd (before_apart x y (h.0 y t) (k.0 x s))) (either (same y x) (has y xs) in_x))
    (either (same x y) (has x ys) in_y)

not_above : (x z : StreamFault) (xs : List StreamFault) → above x xs → same z x ≡ true → has z xs ≡ false
not_above x z xs h s = by (has z xs) refl
  where
    by : (a : Bool) → has z xs ≡ a → a ≡ false
    by true e = absurd (no_false (sym (subst (λ (y : StreamFault). is_before x y ≡ true) (same_is z x s) (h z e)) ∙ before_itself x))
    by false e = refl

tails : (x : StreamFault) (xs ys : List StreamFault) → above x xs → above x ys → ((z : StreamFault) → has z (x ∷ xs) ≡ has z (x ∷ ys)) → (z : StreamFault) →
    has z xs ≡ has z ys
unfolding has
tails x xs ys h k e z = by (same z x) refl (e z)
  where
    by : (a : Bool) → same z x ≡ a → (a || has z xs) ≡ (a || has z ys) → has z xs ≡ has z ys
    by true s f = not_above x z xs h s ∙ sym (not_above x z ys k s)
    by false s f = f

pub settled : (xs ys : List StreamFault) → rising xs → rising ys → ((z : StreamFault) → has z xs ≡ has z ys) → xs ≡ ys
unfolding has
settled [] [] h k e = refl
settled [] (y ∷ ys) h k e = absurd (no_false (sym (e y ∙ ap (λ (b : Bool). b || has y ys) (same_itself y))))
settled (x ∷ xs) [] h k e = absurd (no_false (sym (ap (λ (b : Bool). b || has x xs) (same_itself x)) ∙ e x))
settled (x ∷ xs) (y ∷ ys) h k e =
    let n : x ≡ y = heads x y xs ys h k e in
    let above_y : above x ys = subst (λ (f : StreamFault). above f ys) (sym n) k.0 in
    let same_has : (z : StreamFault) → has z (x ∷ xs) ≡ has z (x ∷ ys) = λ z. e z ∙ ap (λ (f : StreamFault). has z (f ∷ ys)) (sym n) in
    ap₂ (λ (f : StreamFault) (fs : List StreamFault). f ∷ fs) n (settled xs ys h.1 k.1 (tails x xs ys h.0 above_y same_has))

-- Two lists with the same members are the same list in order, whatever their order and repetitions.
pub in_order_same : (xs ys : List StreamFault) → ((z : StreamFault) → has z xs ≡ has z ys) → in_order xs ≡ in_order ys
in_order_same xs ys e =
    settled (in_order xs) (in_order ys) (rising_in_order xs) (rising_in_order ys) (λ z. has_in_order z xs ∙ e z ∙ sym (has_in_order z ys))
