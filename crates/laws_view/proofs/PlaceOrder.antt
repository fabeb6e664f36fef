-- Faults of one rule and one PID, at packets in order, are in order; late packets are in order too.
use Rattle.std.proofs.Common.{◌≡◌, ◌⊎◌, inl, inr, ⊎_elim, ℕ, ◌-◌, ◌*◌, ◌<◌, ◌==◌, Bool, true, false, cond, List, [], ◌∷◌, ◌++◌, map}
use Rattle.std.proofs.Common.{Option, Some, None, refl, sym, subst, arith}
use Rattle.std.specs.Prelude.{◌||◌, nat_lt}
use Rattle.std.proofs.lemmas.Bool.Decides.{nat_tests}
use Rattle.monitor.specs.declared.fault.StreamFault.{StreamFault}
use Rattle.monitor.specs.declared.fault.Rule.{Rule}
use Rattle.monitor.specs.InOrder.{in_order, is_before}
use Rattle.monitor.specs.Rules.{fault}
use Rattle.monitor.specs.Gaps.{is_long, late}
use Rattle.monitor.proofs.LatePlaces.{after, after_all}
use Rattle.monitor.proofs.SameOrder.{above, has, has_in_order, rising, rising_in_order, same, same_is, settled}

no_false : true ≡ false → ⊥
no_false e = grind arith

either : (a b : Bool) → (a || b) ≡ true → (a ≡ true) ⊎ (b ≡ true)
either true b e = inl refl
either false b e = inr e

-- 1. Faults at packets in order

-- All numbers of a list are greater than n; a list is increasing if each number is less than all later numbers.
abbrev pub Over : ℕ → List ℕ → Type 0
Over n [] = Unit {0}
Over n (x ∷ xs) = (n < x) × Over n xs

abbrev pub Increasing : List ℕ → Type 0
Increasing [] = Unit {0}
Increasing (x ∷ xs) = Over x xs × Increasing xs

itself : (a : ℕ) → (a == a) ≡ true
itself a = grind (arith, nat_tests)

earlier : (rule : Rule) (pid : Option ℕ) (x y : ℕ) → x < y → is_before (fault rule pid x) (fault rule pid y) ≡ true
unfolding is_before
earlier rule pid x y h =
    let apart : (x == y) ≡ false = grind (arith, nat_tests) in
    let less : nat_lt x y ≡ true = grind (arith, nat_tests) in
    rw (apart, less) refl

all_above : (rule : Rule) (pid : Option ℕ) (x : ℕ) (xs : List ℕ) → Over x xs → above (fault rule pid x) (map (fault rule pid) xs)
unfolding has
all_above rule pid x [] h z e = absurd (no_false (sym e))
all_above rule pid x (y ∷ ys) h z e =
    ⊎_elim (λ s. subst (λ (f : StreamFault). is_before (fault rule pid x) f ≡ true) (sym (same_is z (fault rule pid y) s)) (earlier rule pid x y h.0))
    (all_above rule pid x ys h.1 z)
    (either (same z (fault rule pid y)) (has z (map (fault rule pid) ys)) e)

pub rising_places : (rule : Rule) (pid : Option ℕ) (xs : List ℕ) → Increasing xs → rising (map (fault rule pid) xs)
rising_places rule pid [] h = tt
rising_places rule pid (x ∷ xs) h = (all_above rule pid x xs h.0, rising_places rule pid xs h.1)

pub order_stays : (xs : List StreamFault) → rising xs → in_order xs ≡ xs
order_stays xs h = settled (in_order xs) xs (rising_in_order xs) h (λ z. has_in_order z xs)

-- 2. Late packets

over_after : (l n : ℕ) (o : Option ℕ) (xs : List ℕ) → Over n xs → Over n (after l o xs)
over_after l n o [] h = tt
over_after l n None (x ∷ xs) h = over_after l n (Some x) xs h.1
over_after l n (Some b) (x ∷ xs) h = by (is_long l (x - b)) (over_after l n (Some x) xs h.1)
  where
    by : (t : Bool) → Over n (after l (Some x) xs) → Over n (cond t (x ∷ []) [] ++ after l (Some x) xs)
    by true k = (h.0, k)
    by false k = k

increasing_after : (l : ℕ) (o : Option ℕ) (xs : List ℕ) → Increasing xs → Increasing (after l o xs)
increasing_after l o [] h = tt
increasing_after l None (x ∷ xs) h = increasing_after l (Some x) xs h.1
increasing_after l (Some b) (x ∷ xs) h = by (is_long l (x - b)) (increasing_after l (Some x) xs h.1)
  where
    by : (t : Bool) → Increasing (after l (Some x) xs) → Increasing (cond t (x ∷ []) [] ++ after l (Some x) xs)
    by true k = (over_after l x (Some x) xs h.0, k)
    by false k = k

pub increasing_late : (rate limit : ℕ) (xs : List ℕ) → Increasing xs → Increasing (late rate limit xs)
increasing_late rate limit xs h = subst Increasing (after_all rate limit xs) (increasing_after (limit * rate) None xs h)
