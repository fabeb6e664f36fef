-- The packets of the last window are counted.
use Rattle.std.proofs.Common.{◌≡◌, ℕ, ◌+◌, ◌^◌, ◌<◌, ◌≤◌, ◌==◌, Bool, true, false, cond, nat_eq, List, [], ◌∷◌, length, filter, Option, Some, true≢false, refl}
use Rattle.std.proofs.Common.{sym, ap, subst, ◌∙◌, arith}
use Rattle.std.specs.Prelude.{◌&&◌}
use Rattle.std.proofs.lemmas.Bool.Decides.{nat_tests}
use Rattle.std.specs.Map.{lookup}
use Rattle.indexmap.specs.IndexMap.{insert_entry}
use Rattle.tr101290.specs.declared.pid_windows.PidCounts.{PidCounts}
use Rattle.tr101290.specs.Windows.{counts_or_zero, counts_of, counts_in, with_one, with_packet, one_more}
use Rattle.tr101290.specs.WindowLaws.{Placed, InOrder, state_of, is_in, has_clock_in, CountLaw, ClockLaw}

-- 1. The counts of a PID after a packet

same_number : (a b : ℕ) → (a == b) ≡ true → a ≡ b
same_number a b e = grind (arith, nat_tests)

itself : (a : ℕ) → (a == a) ≡ true
itself a = by (a == a) refl
  where
    by : (t : Bool) → (a == a) ≡ t → t ≡ true
    by true e = refl
    by false e = absurd (grind (arith, nat_tests))

turned_test : (a b : ℕ) → (a == b) ≡ (b == a)
turned_test a b = by (a == b) (b == a) refl refl
  where
    by : (s t : Bool) → (a == b) ≡ s → (b == a) ≡ t → s ≡ t
    by true true p q = refl
    by false false p q = refl
    by true false p q = absurd (grind (arith, nat_tests))
    by false true p q = absurd (grind (arith, nat_tests))

found : (pid q : ℕ) (x : PidCounts) (es : List (ℕ × PidCounts)) (t : Bool) → (q == pid) ≡ t →
    lookup (nat_eq pid) (insert_entry nat_eq es q x) ≡ cond t (Some x) (lookup (nat_eq pid) es)
found pid q x [] t e = rw (turned_test pid q ∙ e) refl
found pid q x (y ∷ es) t e = by t e (q == y.0) refl (found pid q x es t e)
  where
    by : (t : Bool) → (q == pid) ≡ t → (u : Bool) → (q == y.0) ≡ u →
        lookup (nat_eq pid) (insert_entry nat_eq es q x) ≡ cond t (Some x) (lookup (nat_eq pid) es) →
        lookup (nat_eq pid) (cond u ((y.0, x) ∷ es) (y ∷ insert_entry nat_eq es q x)) ≡ cond t (Some x)
        (cond (nat_eq pid y.0) (Some y.1) (lookup (nat_eq pid) es))
    by true e true f h = let g : (pid == y.0) ≡ true = subst (λ (k : ℕ). (k == y.0) ≡ true) (same_number q pid e) f in rw g refl
    by false e true f h = let g : (pid == y.0) ≡ false = subst (λ (k : ℕ). (pid == k) ≡ false) (same_number q y.0 f) (turned_test pid q ∙ e) in rw g refl
    by true e false f h = let g : (pid == y.0) ≡ false = subst (λ (k : ℕ). (k == y.0) ≡ false) (same_number q pid e) f in rw g h
    by false e false f h = ap (λ (o : Option PidCounts). cond (nat_eq pid y.0) (Some y.1) o) h

entry_is : (pid q : ℕ) (pcr : Bool) (es : List (ℕ × PidCounts)) (t : Bool) → (q == pid) ≡ t →
    counts_of pid (with_packet es q pcr) ≡ cond t (with_one (counts_of pid es) pcr) (counts_of pid es)
unfolding counts_or_zero
entry_is pid q pcr es true e =
    ap counts_or_zero (found pid q (with_one (counts_of q es) pcr) es true e)
    ∙ ap (λ (k : ℕ). with_one (counts_of k es) pcr) (same_number q pid e)
entry_is pid q pcr es false e = ap counts_or_zero (found pid q (with_one (counts_of q es) pcr) es false e)

-- 2. Packets that are counted by themselves

filter_one : (p : Placed → Bool) (x : Placed) (xs : List Placed) → length (filter p (x ∷ xs)) ≡ cond (p x) 1 0 + length (filter p xs)
filter_one p x xs = by (p x)
  where
    by : (t : Bool) → length (cond t (x ∷ filter p xs) (filter p xs)) ≡ cond t 1 0 + length (filter p xs)
    by true = omega arith
    by false = omega arith

bit : (t : Bool) → cond t 1 0 ≤ 1
bit true = omega arith
bit false = omega arith

no_more : (p : Placed → Bool) (xs : List Placed) → length (filter p xs) ≤ length xs
no_more p [] = omega arith
no_more p (x ∷ xs) = omega (arith, filter_one p x xs, bit (p x), no_more p xs)

-- A number in the counts that grows with packets of one kind
record IsCounter (f : PidCounts → ℕ) (m : Bool → Bool) : Type 0 where
  none : f (record { packets = 0; pcrs = 0 }) ≡ 0
  more : (c : PidCounts) (pcr : Bool) → f (with_one c pcr) ≡ cond (m pcr) (one_more (f c)) (f c)

-- The test passes the packets that the number counts.
abbrev IsTest : (ℕ → ℕ → Placed → Bool) → (Bool → Bool) → Type 0
IsTest test m = (window pid : ℕ) (p : Placed) → test window pid p ≡ (p.window == window) && ((p.pid == pid) && m p.pcr)

-- No packet of an earlier window is counted.
not_before : (a w : ℕ) → a < w → (a == w) ≡ false
not_before a w less = by (a == w) refl
  where
    by : (t : Bool) → (a == w) ≡ t → t ≡ false
    by false e = refl
    by true e = absurd (omega (arith, same_number a w e, less))

no_bit : (t : Bool) (k : ℕ) → t ≡ false → cond t 1 0 + k ≡ k
no_bit true k e = absurd (true≢false e)
no_bit false k e = omega arith

none_of_it : (test : ℕ → ℕ → Placed → Bool) (m : Bool → Bool) (w pid last : ℕ) (ps : List Placed) → IsTest test m → InOrder last ps → last < w →
    length (filter (test w pid) ps) ≡ 0
unfolding InOrder
none_of_it test m w pid last [] is order less = refl
none_of_it test m w pid last (p ∷ ps) is order less =
    let before : p.window < w = omega (arith, order.0, less) in
    let other : test w pid p ≡ false = is w pid p ∙ ap (λ (t : Bool). t && ((p.pid == pid) && m p.pcr)) (not_before p.window w before) in
    let rest = none_of_it test m w pid p.window ps is order.1 before in
    filter_one (test w pid) p ps ∙ no_bit (test w pid p) (length (filter (test w pid) ps)) other ∙ rest

step : (t u : Bool) (n k : ℕ) → n ≡ k → k + 1 < 2 ^ 64 → cond t (cond u (one_more n) n) n ≡ cond (t && u) 1 0 + k
step true true n k e room = omega (arith, e, room)
step true false n k e room = omega (arith, e)
step false true n k e room = omega (arith, e)
step false false n k e room = omega (arith, e)

-- The count after a packet depends on the count before it.
count_one : (f : PidCounts → ℕ) (m : Bool → Bool) (pid q : ℕ) (pcr : Bool) (es : List (ℕ × PidCounts)) → IsCounter f m →
    f (counts_of pid (with_packet es q pcr)) ≡ cond (q == pid) (cond (m pcr) (one_more (f (counts_of pid es))) (f (counts_of pid es))) (f (counts_of pid es))
count_one f m pid q pcr es is = ap f (entry_is pid q pcr es (q == pid) refl) ∙ by (q == pid)
  where
    by : (t : Bool) →
        f (cond t (with_one (counts_of pid es) pcr) (counts_of pid es)) ≡ cond t (cond (m pcr) (one_more (f (counts_of pid es))) (f (counts_of pid es)))
        (f (counts_of pid es))
    by true = is.more (counts_of pid es) pcr
    by false = refl

no_counts : (f : PidCounts → ℕ) (m : Bool → Bool) (pid : ℕ) → IsCounter f m → f (counts_of pid []) ≡ 0
unfolding counts_or_zero
no_counts f m pid is = is.none

-- The last packet adds to the count of its window if the test passes it.
counted_by : (f : PidCounts → ℕ) (m : Bool → Bool) (test : ℕ → ℕ → Placed → Bool) (packet : Placed) (earlier : List Placed) (pid : ℕ) → IsCounter f m →
    IsTest test m →
    f (counts_of pid (counts_in (state_of earlier) packet.window)) ≡ length (filter (test packet.window pid) earlier) → length (packet ∷ earlier) < 2 ^ 64 →
    f (counts_of pid (state_of (packet ∷ earlier)).counts) ≡ length (filter (test packet.window pid) (packet ∷ earlier))
counted_by f m test packet earlier pid is tests so_far room =
    let w = packet.window in
    let few = no_more (test w pid) earlier in
    let here : test w pid packet ≡ (packet.pid == pid) && m packet.pcr =
    tests w pid packet ∙ ap (λ (t : Bool). t && ((packet.pid == pid) && m packet.pcr)) (itself w) in
    count_one f m pid packet.pid packet.pcr (counts_in (state_of earlier) w) is
    ∙ step (packet.pid == pid) (m packet.pcr) (f (counts_of pid (counts_in (state_of earlier) w))) (length (filter (test w pid) earlier)) so_far
    (omega (arith, few, room))
    ∙ ap (λ (t : Bool). cond t 1 0 + length (filter (test w pid) earlier)) (sym here)
    ∙ sym (filter_one (test w pid) packet earlier)

unequal : (a b : ℕ) → (a == b) ≡ false → a ≤ b → a < b
unequal a b other le = grind (arith, nat_tests)

before : (f : PidCounts → ℕ) (m : Bool → Bool) (test : ℕ → ℕ → Placed → Bool) (w : ℕ) (earlier : List Placed) (pid : ℕ) → IsCounter f m → IsTest test m →
    InOrder w earlier → length earlier + 1 < 2 ^ 64 → f (counts_of pid (counts_in (state_of earlier) w)) ≡ length (filter (test w pid) earlier)
unfolding counts_in InOrder
before f m test w [] pid is tests order room = by (0 == w)
  where
    by : (t : Bool) → f (counts_of pid (cond t [] [])) ≡ 0
    by true = no_counts f m pid is
    by false = no_counts f m pid is
before f m test w (e ∷ es) pid is tests order room =
    by (e.window == w) refl
    (counted_by f m test e es pid is tests (before f m test e.window es pid is tests order.1 (omega (arith, room))) (omega (arith, room)))
  where
    by : (t : Bool) → (e.window == w) ≡ t → f (counts_of pid (state_of (e ∷ es)).counts) ≡ length (filter (test e.window pid) (e ∷ es)) →
        f (counts_of pid (cond t (state_of (e ∷ es)).counts [])) ≡ length (filter (test w pid) (e ∷ es))
    by true same all = subst (λ (v : ℕ). f (counts_of pid (state_of (e ∷ es)).counts) ≡ length (filter (test v pid) (e ∷ es))) (same_number e.window w same) all
    by false other all =
        let less : e.window < w = unequal e.window w other order.0 in
        let here : e.window ≤ e.window = omega arith in
        no_counts f m pid is ∙ sym (none_of_it test m w pid e.window (e ∷ es) tests (here, order.1) less)

counted : (f : PidCounts → ℕ) (m : Bool → Bool) (test : ℕ → ℕ → Placed → Bool) (packet : Placed) (earlier : List Placed) (pid : ℕ) → IsCounter f m →
    IsTest test m →
    InOrder packet.window (packet ∷ earlier) → length (packet ∷ earlier) < 2 ^ 64 →
    f (counts_of pid (state_of (packet ∷ earlier)).counts) ≡ length (filter (test packet.window pid) (packet ∷ earlier))
unfolding InOrder
counted f m test packet earlier pid is tests order room =
    counted_by f m test packet earlier pid is tests (before f m test packet.window earlier pid is tests order.1 (omega (arith, room))) room

pub count_law : CountLaw
unfolding with_one
count_law packet earlier pid order room = counted (λ c. c.packets) (λ b. true) is_in packet earlier pid counter tests order room
  where
    counter : IsCounter (λ c. c.packets) (λ b. true)
    counter = record { none = refl; more = λ c pcr. refl }

    tests : IsTest is_in (λ b. true)
    tests window pid p = by (p.window == window) (p.pid == pid)
      where
        by : (a b : Bool) → a && b ≡ a && (b && true)
        by true true = refl
        by true false = refl
        by false b = refl

pub clock_law : ClockLaw
unfolding with_one
clock_law packet earlier pid order room = counted (λ c. c.pcrs) (λ b. b) has_clock_in packet earlier pid counter tests order room
  where
    counter : IsCounter (λ c. c.pcrs) (λ b. b)
    counter = record { none = refl; more = λ c pcr. refl }

    tests : IsTest has_clock_in (λ b. b)
    tests window pid p = by (p.window == window) (p.pid == pid)
      where
        by : (a b : Bool) → (a && b) && p.pcr ≡ a && (b && p.pcr)
        by true b = refl
        by false b = refl
