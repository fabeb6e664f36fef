-- A strictly sorted list rises, and `has` finds exactly the members that it contains.
use Rattle.std.proofs.Common.{◌≡◌, ◌⊎◌, zero, suc, inl, inr, ⊎_elim, Bool, true, false, List, [], ◌∷◌, refl, sym, ap, subst, ◌∙◌, arith}
use Rattle.std.specs.Prelude.{◌||◌}
use Rattle.std.specs.List.{AllByRecursion, Any, Contains}
use Rattle.std.specs.List.Sorted.{IsStrictlySortedBy}
use Rattle.std.specs.declared.cmp.Ordering.TheVariants.{Less, Equal}
use Rattle.monitor.specs.declared.fault.StreamFault.{StreamFault}
use Rattle.monitor.specs.InOrder.{is_before, in_order}
use Rattle.monitor.specs.contracts.fault.StreamFaultOrd.TheImpl as faults_ord
use Rattle.monitor.proofs.SameOrder.{has, has_in_order, rising, rising_in_order, same, same_is, same_itself, settled}
use Rattle.monitor.proofs.FaultOrder.{before_from_less, same_from_equal}

pub has_from_contains : (z : StreamFault) (xs : List StreamFault) → Contains xs z → has z xs ≡ true
unfolding has
has_from_contains z [] c = absurd (omega (arith, c.1))
has_from_contains z (x ∷ xs) (zero, n, e) = ap (λ (y : StreamFault). same z y || has z xs) e ∙ ap (λ (b : Bool). b || has z xs) (same_itself z)
has_from_contains z (x ∷ xs) (suc k, n, e) = by (same z x) (has_from_contains z xs (k, omega (arith, n), e))
  where
    by : (a : Bool) → has z xs ≡ true → (a || has z xs) ≡ true
    by true h = refl
    by false h = h

either : (a b : Bool) → (a || b) ≡ true → (a ≡ true) ⊎ (b ≡ true)
either true b e = inl refl
either false b e = inr e

pub contains_from_has : (z : StreamFault) (xs : List StreamFault) → has z xs ≡ true → Contains xs z
unfolding has
contains_from_has z [] e = absurd (grind arith)
contains_from_has z (x ∷ xs) e =
    ⊎_elim
    (λ s. (zero, omega arith, sym (same_is z x s)))
    (λ s. let c = contains_from_has z xs s in (suc c.0, omega (arith, c.1), c.2))
    (either (same z x) (has z xs) e)

-- If two lists contain the same faults, `has` finds the same faults in both.
pub has_same : (xs ys : List StreamFault) → ((z : StreamFault) → Contains xs z → Contains ys z) → ((z : StreamFault) → Contains ys z → Contains xs z) →
    (z : StreamFault) → has z xs ≡ has z ys
has_same xs ys f g z = by (has z xs) (has z ys) refl refl
  where
    by : (a b : Bool) → has z xs ≡ a → has z ys ≡ b → a ≡ b
    by true true p q = refl
    by false false p q = refl
    by true false p q = sym (has_from_contains z ys (f z (contains_from_has z xs p))) ∙ q
    by false true p q = sym p ∙ has_from_contains z xs (g z (contains_from_has z ys q))

-- A list that is strictly sorted in the program's order rises.
pub rising_sorted : (xs : List StreamFault) → IsStrictlySortedBy faults_ord.cmp-value.it xs → rising xs
unfolding IsStrictlySortedBy has
rising_sorted [] h = tt
rising_sorted (x ∷ xs) h = (λ z e. below xs z h.0 e, rising_sorted xs h.1)
  where
    below : (ys : List StreamFault) (z : StreamFault) → AllByRecursion (λ y. faults_ord.cmp-value.it x y ≡ Less) ys → has z ys ≡ true → is_before x z ≡ true
    below [] z a e = absurd (grind arith)
    below (y ∷ ys) z a e =
        ⊎_elim
        (λ s. subst (λ (w : StreamFault). is_before x w ≡ true) (sym (same_is z y s)) (before_from_less x y a.0))
        (λ s. below ys z a.1 s)
        (either (same z y) (has z ys) e)

-- If a strictly sorted list has the same faults as another list, it is this list in order.
pub sorted_is_in_order : (xs ys : List StreamFault) → IsStrictlySortedBy faults_ord.cmp-value.it ys →
    ((z : StreamFault) → Contains xs z → Any (λ y. faults_ord.cmp-value.it z y ≡ Equal) ys) → ((z : StreamFault) → Contains ys z → Contains xs z) →
    ys ≡ in_order xs
sorted_is_in_order xs ys s kept only =
    settled ys (in_order xs) (rising_sorted ys s) (rising_in_order xs)
    (λ z. has_same ys xs only (λ z h. let a = kept z h in subst (Contains ys) (sym (same_from_equal z a.1 a.4)) (a.0, a.2, a.3)) z ∙ sym (has_in_order z xs))
