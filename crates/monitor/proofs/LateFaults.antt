-- The faults of late packets, on each PID.
use Rattle.std.proofs.Common.{◌⊎◌, inl, inr, ⊎_elim, ◌≡◌, ℕ, ◌==◌, Bool, true, false, cond, List, [], ◌∷◌, ◌++◌, map, filter, Some, refl, sym, ap, ap₂, subst}
use Rattle.std.proofs.Common.{◌∙◌, arith}
use Rattle.std.specs.Prelude.{◌||◌}
use Rattle.std.specs.List.{flat_map}
use Rattle.std.proofs.lemmas.Bool.Decides.{nat_tests}
use Rattle.monitor.specs.declared.fault.StreamFault.{StreamFault}
use Rattle.monitor.specs.declared.fault.Rule.{Rule}
use Rattle.monitor.specs.declared.recurrence.LatePacket.{LatePacket}
use Rattle.monitor.specs.Laws.{late_of}
use Rattle.monitor.specs.Reports.{late_fault}
use Rattle.monitor.specs.Rules.{fault}
use Rattle.monitor.specs.Faults.{on_each}
use Rattle.monitor.proofs.LatePlaces.{same_number}
use Rattle.monitor.proofs.SameOrder.{has, same}

-- 1. Concatenated lists

pub has_append : (z : StreamFault) (xs ys : List StreamFault) → has z (xs ++ ys) ≡ (has z xs || has z ys)
unfolding has
has_append z [] ys = refl
has_append z (x ∷ xs) ys = ap (λ (b : Bool). same z x || b) (has_append z xs ys) ∙ assoc (same z x) (has z xs) (has z ys)
  where
    assoc : (a b c : Bool) → (a || (b || c)) ≡ ((a || b) || c)
    assoc true b c = refl
    assoc false b c = refl

-- The two lists have the same members.
abbrev pub alike : List StreamFault → List StreamFault → Type 0
alike xs ys = (z : StreamFault) → has z xs ≡ has z ys

pub alike_append : (xs ys us vs : List StreamFault) → alike xs ys → alike us vs → alike (xs ++ us) (ys ++ vs)
alike_append xs ys us vs h k z = has_append z xs us ∙ ap₂ (λ (a b : Bool). a || b) (h z) (k z) ∙ sym (has_append z ys vs)

pub alike_is : (xs ys : List StreamFault) → xs ≡ ys → alike xs ys
alike_is xs ys e z = ap (λ (l : List StreamFault). has z l) e

-- 2. Lists with the same members, by two inclusions

no_false : true ≡ false → ⊥
no_false e = grind arith

pub alike_from : (xs ys : List StreamFault) → ((z : StreamFault) → has z xs ≡ true → has z ys ≡ true) →
    ((z : StreamFault) → has z ys ≡ true → has z xs ≡ true) → alike xs ys
alike_from xs ys h k z = by (has z xs) (has z ys) refl refl
  where
    by : (a b : Bool) → has z xs ≡ a → has z ys ≡ b → a ≡ b
    by true true e f = refl
    by true false e f = absurd (no_false (sym (h z e) ∙ f))
    by false true e f = absurd (no_false (sym (k z f) ∙ e))
    by false false e f = refl

either : (a b : Bool) → (a || b) ≡ true → (a ≡ true) ⊎ (b ≡ true)
either true b e = inl refl
either false b e = inr e

pub in_left : (z : StreamFault) (xs ys : List StreamFault) → has z xs ≡ true → has z (xs ++ ys) ≡ true
in_left z xs ys e = has_append z xs ys ∙ ap (λ (b : Bool). b || has z ys) e

pub in_right : (z : StreamFault) (xs ys : List StreamFault) → has z ys ≡ true → has z (xs ++ ys) ≡ true
in_right z xs ys e = has_append z xs ys ∙ ap (λ (b : Bool). has z xs || b) e ∙ any (has z xs)
  where
    any : (a : Bool) → (a || true) ≡ true
    any true = refl
    any false = refl

pub in_either : (z : StreamFault) (xs ys : List StreamFault) → has z (xs ++ ys) ≡ true → (has z xs ≡ true) ⊎ (has z ys ≡ true)
in_either z xs ys e = either (has z xs) (has z ys) (sym (has_append z xs ys) ∙ e)

-- 3. The faults of several PIDs

-- The number x is in the list.
abbrev pub within : ℕ → List ℕ → Type 0
within x [] = ⊥
within x (y ∷ ys) = (x ≡ y) ⊎ within x ys

pub each_in : (z : StreamFault) (f : ℕ → List StreamFault) (pids : List ℕ) (pid : ℕ) → within pid pids → has z (f pid) ≡ true → has z (flat_map f pids) ≡ true
each_in z f [] pid h e = absurd h
each_in z f (q ∷ pids) pid (inl h) e = in_left z (f q) (flat_map f pids) (subst (λ (k : ℕ). has z (f k) ≡ true) h e)
each_in z f (q ∷ pids) pid (inr h) e = in_right z (f q) (flat_map f pids) (each_in z f pids pid h e)

pub each_out : (z : StreamFault) (f : ℕ → List StreamFault) (xs : List StreamFault) (pids : List ℕ) → ((pid : ℕ) → has z (f pid) ≡ true → has z xs ≡ true) →
    has z (flat_map f pids) ≡ true → has z xs ≡ true
unfolding has
each_out z f xs [] h e = absurd (no_false (sym e))
each_out z f xs (q ∷ pids) h e = ⊎_elim (h q) (each_out z f xs pids h) (in_either z (f q) (flat_map f pids) e)

-- Each late packet of a PID is among the late packets of the stream.
pub late_in : (rule : Rule) (pid : ℕ) (z : StreamFault) (lates : List LatePacket) → has z (map (fault rule (Some pid)) (late_of pid lates)) ≡ true →
    has z (map (late_fault rule) lates) ≡ true
late_in rule pid z [] e = e
late_in rule pid z (x ∷ lates) e = by (late_in rule pid z lates) (x.pid == pid) refl e
  where
    rest : (has z (map (fault rule (Some pid)) (late_of pid lates)) ≡ true → has z (map (late_fault rule) lates) ≡ true) →
        has z (map (fault rule (Some pid)) (late_of pid lates)) ≡ true → has z (map (late_fault rule) (x ∷ lates)) ≡ true
    rest h f = in_right z (late_fault rule x ∷ []) (map (late_fault rule) lates) (h f)

    by : (has z (map (fault rule (Some pid)) (late_of pid lates)) ≡ true → has z (map (late_fault rule) lates) ≡ true) → (t : Bool) → (x.pid == pid) ≡ t →
        has z (map (fault rule (Some pid)) (map (λ l. l.packet) (cond t (x ∷ filter (λ l. l.pid == pid) lates) (filter (λ l. l.pid == pid) lates)))) ≡ true →
        has z (map (late_fault rule) (x ∷ lates)) ≡ true
    by h true n f = ⊎_elim
        (λ g. in_left z (late_fault rule x ∷ []) (map (late_fault rule) lates)
        (subst (λ (k : ℕ). has z (fault rule (Some k) x.packet ∷ []) ≡ true) (sym (same_number x.pid pid n)) g))
        (rest h)
        (in_either z (fault rule (Some pid) x.packet ∷ []) (map (fault rule (Some pid)) (late_of pid lates)) f)
    by h false n f = rest h f

-- Each late packet of the stream is among the late packets of some PID.
pub late_out : (rule : Rule) (z : StreamFault) (lates : List LatePacket) → has z (map (late_fault rule) lates) ≡ true →
    (pid : ℕ) × (has z (map (fault rule (Some pid)) (late_of pid lates)) ≡ true)
unfolding has
late_out rule z [] e = absurd (no_false (sym e))
late_out rule z (x ∷ lates) e = ⊎_elim here (there (late_out rule z lates)) (in_either z (late_fault rule x ∷ []) (map (late_fault rule) lates) e)
  where
    itself : (x.pid == x.pid) ≡ true
    itself = grind (arith, nat_tests)

    here : has z (late_fault rule x ∷ []) ≡ true → (pid : ℕ) × (has z (map (fault rule (Some pid)) (late_of pid (x ∷ lates))) ≡ true)
    here f = (x.pid, rw itself (in_left z (late_fault rule x ∷ []) (map (fault rule (Some x.pid)) (late_of x.pid lates)) f))

    by : (pid : ℕ) (t : Bool) → (x.pid == pid) ≡ t → has z (map (fault rule (Some pid)) (late_of pid lates)) ≡ true →
        has z (map (fault rule (Some pid)) (late_of pid (x ∷ lates))) ≡ true
    by pid true n f = rw n (in_right z (fault rule (Some pid) x.packet ∷ []) (map (fault rule (Some pid)) (late_of pid lates)) f)
    by pid false n f = rw n f

    there : (has z (map (late_fault rule) lates) ≡ true → (pid : ℕ) × (has z (map (fault rule (Some pid)) (late_of pid lates)) ≡ true)) →
        has z (map (late_fault rule) lates) ≡ true → (pid : ℕ) × (has z (map (fault rule (Some pid)) (late_of pid (x ∷ lates))) ≡ true)
    there h f = let k = h f in (k.0, by k.0 (x.pid == k.0) refl k.1)

place : (rule : Rule) (z : StreamFault) (pid : ℕ) (xs : List ℕ) → has z (map (fault rule (Some pid)) xs) ≡ true → (x : ℕ) × within x xs
unfolding has
place rule z pid [] e = absurd (no_false (sym e))
place rule z pid (x ∷ xs) e = (x, inl refl)

-- The late packets of the stream are the late packets of all PIDs, if the list contains each PID with a late packet.
pub late_on_each : (rule : Rule) (lates : List LatePacket) (places : ℕ → List ℕ) (pids : List ℕ) → ((pid : ℕ) → late_of pid lates ≡ places pid) →
    ((pid x : ℕ) → within x (places pid) → within pid pids) → alike (map (late_fault rule) lates) (on_each rule places pids)
late_on_each rule lates places pids same_places covers = alike_from (map (late_fault rule) lates) (on_each rule places pids) there back
  where
    there : (z : StreamFault) → has z (map (late_fault rule) lates) ≡ true → has z (on_each rule places pids) ≡ true
    there z e =
        let k = late_out rule z lates e in
        let f : has z (map (fault rule (Some k.0)) (places k.0)) ≡ true =
        subst (λ (xs : List ℕ). has z (map (fault rule (Some k.0)) xs) ≡ true) (same_places k.0) k.1 in
        let p = place rule z k.0 (places k.0) f in
        each_in z (λ pid. map (fault rule (Some pid)) (places pid)) pids k.0 (covers k.0 p.0 p.1) f

    back : (z : StreamFault) → has z (on_each rule places pids) ≡ true → has z (map (late_fault rule) lates) ≡ true
    back z e =
        each_out z (λ pid. map (fault rule (Some pid)) (places pid)) (map (late_fault rule) lates) pids
        (λ pid f. late_in rule pid z lates (subst (λ (xs : List ℕ). has z (map (fault rule (Some pid)) xs) ≡ true) (sym (same_places pid)) f)) e
