-- Lists of faults, and the faults that a test selects, in order.
use Rattle.std.proofs.Common.{◌≡◌, ◌∙◌, ℕ, Bool, true, false, cond, List, [], ◌∷◌, ◌++◌, map, filter, Option, Some, refl, sym, ap}
use Rattle.std.proofs.Common.{arith}
use Rattle.std.specs.Prelude.{◌&&◌, ◌||◌}
use Rattle.std.proofs.lemmas.List.Elements.{filter-append}
use Rattle.monitor.specs.declared.fault.StreamFault.{StreamFault}
use Rattle.monitor.specs.declared.fault.Rule.{Rule}
use Rattle.monitor.specs.InOrder.{in_order}
use Rattle.monitor.specs.Rules.{fault}
use Rattle.monitor.specs.Faults.{on_each}
use Rattle.monitor.proofs.LateFaults.{alike}
use Rattle.monitor.proofs.SameOrder.{above, has, has_in_order, in_order_same, rising, rising_in_order, same, same_is, settled}

no_false : true ≡ false → ⊥
no_false e = grind arith

and_false : (a : Bool) → false ≡ (a && false)
and_false true = refl
and_false false = refl

-- 1. Members of the selected faults

pub has_filter : (p : StreamFault → Bool) (z : StreamFault) (xs : List StreamFault) → has z (filter p xs) ≡ (p z && has z xs)
unfolding has
has_filter p z [] = and_false (p z)
has_filter p z (x ∷ xs) = by (p x) refl (same z x) refl (p z) refl (has_filter p z xs)
  where
    alike_at : same z x ≡ true → p z ≡ p x
    alike_at s = ap p (same_is z x s)

    by : (t : Bool) → p x ≡ t → (s : Bool) → same z x ≡ s → (q : Bool) → p z ≡ q → has z (filter p xs) ≡ (q && has z xs) →
        has z (cond t (x ∷ filter p xs) (filter p xs)) ≡ (q && (s || has z xs))
    by true e true f true g h = rw f refl
    by true e true f false g h = absurd (no_false (sym e ∙ sym (alike_at f) ∙ g))
    by true e false f true g h = rw f h
    by true e false f false g h = rw f h
    by false e true f true g h = absurd (no_false (sym g ∙ alike_at f ∙ e))
    by false e true f false g h = h
    by false e false f true g h = h
    by false e false f false g h = h

pub alike_filter : (p : StreamFault → Bool) (xs ys : List StreamFault) → alike xs ys → alike (filter p xs) (filter p ys)
alike_filter p xs ys h z = has_filter p z xs ∙ ap (λ (b : Bool). p z && b) (h z) ∙ sym (has_filter p z ys)

-- 2. The selected faults in order

of_both : (a b : Bool) → (a && b) ≡ true → b ≡ true
of_both true b e = e
of_both false b e = absurd (no_false (sym e))

rising_filter : (p : StreamFault → Bool) (xs : List StreamFault) → rising xs → rising (filter p xs)
rising_filter p [] h = tt
rising_filter p (x ∷ xs) h = by (p x) (rising_filter p xs h.1)
  where
    over : above x (filter p xs)
    over y e = h.0 y (of_both (p y) (has y xs) (sym (has_filter p y xs) ∙ e))

    by : (t : Bool) → rising (filter p xs) → rising (cond t (x ∷ filter p xs) (filter p xs))
    by true k = (over, k)
    by false k = k

pub filter_in_order : (p : StreamFault → Bool) (xs : List StreamFault) → filter p (in_order xs) ≡ in_order (filter p xs)
filter_in_order p xs =
    settled (filter p (in_order xs)) (in_order (filter p xs)) (rising_filter p (in_order xs) (rising_in_order xs)) (rising_in_order (filter p xs))
    (λ z. has_filter p z (in_order xs) ∙ ap (λ (b : Bool). p z && b) (has_in_order z xs) ∙ sym (has_filter p z xs) ∙ sym (has_in_order z (filter p xs)))

-- The selected faults of an ordered list are any list with the same members, in order.
pub part_in_order : (p : StreamFault → Bool) (xs ys : List StreamFault) → alike (filter p xs) ys → filter p (in_order xs) ≡ in_order ys
part_in_order p xs ys h = filter_in_order p xs ∙ in_order_same (filter p xs) ys h

-- 3. Lists without selected faults

pub right_alone : (p : StreamFault → Bool) (xs ys : List StreamFault) → filter p xs ≡ [] → filter p (xs ++ ys) ≡ filter p ys
right_alone p xs ys e = filter-append p xs ys ∙ ap (λ (l : List StreamFault). l ++ filter p ys) e

append_none : (xs : List StreamFault) → xs ++ [] ≡ xs
append_none [] = refl
append_none (x ∷ xs) = ap (λ (l : List StreamFault). x ∷ l) (append_none xs)

pub left_alone : (p : StreamFault → Bool) (xs ys : List StreamFault) → filter p ys ≡ [] → filter p (xs ++ ys) ≡ filter p xs
left_alone p xs ys e = filter-append p xs ys ∙ ap (λ (l : List StreamFault). filter p xs ++ l) e ∙ append_none (filter p xs)

pub none_at : (p : StreamFault → Bool) (rule : Rule) (pid : Option ℕ) (xs : List ℕ) → ((k : ℕ) → p (fault rule pid k) ≡ false) →
    filter p (map (fault rule pid) xs) ≡ []
none_at p rule pid [] h = refl
none_at p rule pid (x ∷ xs) h = rw (h x) (none_at p rule pid xs h)

pub none_on_each : (p : StreamFault → Bool) (rule : Rule) (places : ℕ → List ℕ) (pids : List ℕ) → ((pid : Option ℕ) (k : ℕ) → p (fault rule pid k) ≡ false) →
    filter p (on_each rule places pids) ≡ []
none_on_each p rule places [] h = refl
none_on_each p rule places (pid ∷ pids) h =
    right_alone p (map (fault rule (Some pid)) (places pid)) (on_each rule places pids) (none_at p rule (Some pid) (places pid) (h (Some pid)))
    ∙ none_on_each p rule places pids h
