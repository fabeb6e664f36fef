-- If each fault of a list is before all faults after it, the members determine the list.
use Rattle.std.proofs.Common.{◌≡◌, ℕ, ◌==◌, Bool, true, false, cond, Option, Some, None, refl, sym, ap, ◌∙◌, arith}
use Rattle.std.specs.Prelude.{nat_lt}
use Rattle.std.proofs.lemmas.Bool.Decides.{nat_tests}
use Rattle.monitor.specs.declared.fault.StreamFault.{StreamFault}
use Rattle.monitor.specs.declared.fault.Rule.{Rule}
use Rattle.monitor.specs.declared.fault.Rule.TheVariants as rules
use Rattle.monitor.specs.InOrder.{rule_number, pid_before, is_before}

-- 1. The order of numbers, level by level

abbrev lex : ℕ → ℕ → Bool → Bool
lex x y rest = cond (x == y) rest (nat_lt x y)

lex_trans : (x y z : ℕ) (r s t : Bool) → (r ≡ true → s ≡ true → t ≡ true) → lex x y r ≡ true → lex y z s ≡ true → lex x z t ≡ true
lex_trans x y z r s t k = by (x == y) (y == z) (x == z) refl refl refl
  where
    by : (a b c : Bool) → (x == y) ≡ a → (y == z) ≡ b → (x == z) ≡ c → cond a r (nat_lt x y) ≡ true → cond b s (nat_lt y z) ≡ true →
        cond c t (nat_lt x z) ≡ true
    by true true true e f g p q = k p q
    by true true false e f g p q = absurd (grind (arith, nat_tests))
    by true false true e f g p q = absurd (grind (arith, nat_tests))
    by true false false e f g p q = grind (arith, nat_tests)
    by false true true e f g p q = absurd (grind (arith, nat_tests))
    by false true false e f g p q = grind (arith, nat_tests)
    by false false true e f g p q = absurd (grind (arith, nat_tests))
    by false false false e f g p q = grind (arith, nat_tests)

lex_apart : (x y : ℕ) (r s : Bool) → (r ≡ true → s ≡ true → ⊥) → lex x y r ≡ true → lex y x s ≡ true → ⊥
lex_apart x y r s k = by (x == y) (y == x) refl refl
  where
    by : (a b : Bool) → (x == y) ≡ a → (y == x) ≡ b → cond a r (nat_lt x y) ≡ true → cond b s (nat_lt y x) ≡ true → ⊥
    by true true e f p q = k p q
    by true false e f p q = grind (arith, nat_tests)
    by false true e f p q = grind (arith, nat_tests)
    by false false e f p q = grind (arith, nat_tests)

lex_same : (x y : ℕ) (r s : Bool) → lex x y r ≡ false → lex y x s ≡ false → (x ≡ y) × (r ≡ false) × (s ≡ false)
lex_same x y r s = by (x == y) (y == x) refl refl
  where
    by : (a b : Bool) → (x == y) ≡ a → (y == x) ≡ b → cond a r (nat_lt x y) ≡ false → cond b s (nat_lt y x) ≡ false → (x ≡ y) × (r ≡ false) × (s ≡ false)
    by true true e f p q = let n : x ≡ y = grind (arith, nat_tests) in (n, p, q)
    by true false e f p q = absurd (grind (arith, nat_tests))
    by false true e f p q = absurd (grind (arith, nat_tests))
    by false false e f p q = absurd (grind (arith, nat_tests))

-- 2. The order of faults

pid_trans : (a b c : Option ℕ) → pid_before a b ≡ true → pid_before b c ≡ true → pid_before a c ≡ true
unfolding pid_before
pid_trans None None c p q = absurd (grind arith)
pid_trans None (Some b) None p q = absurd (grind arith)
pid_trans None (Some b) (Some c) p q = refl
pid_trans (Some a) None c p q = absurd (grind arith)
pid_trans (Some a) (Some b) None p q = absurd (grind arith)
pid_trans (Some a) (Some b) (Some c) p q = grind (arith, nat_tests)

pid_apart : (a b : Option ℕ) → pid_before a b ≡ true → pid_before b a ≡ true → ⊥
unfolding pid_before
pid_apart None None p q = grind arith
pid_apart None (Some b) p q = grind arith
pid_apart (Some a) None p q = grind arith
pid_apart (Some a) (Some b) p q = grind (arith, nat_tests)

pid_same : (a b : Option ℕ) → pid_before a b ≡ false → pid_before b a ≡ false → a ≡ b
unfolding pid_before
pid_same None None p q = refl
pid_same None (Some b) p q = absurd (grind arith)
pid_same (Some a) None p q = absurd (grind arith)
pid_same (Some a) (Some b) p q = let n : a ≡ b = grind (arith, nat_tests) in ap (λ (k : ℕ). Some k) n

-- The rule with this number
rule_of : ℕ → Rule
rule_of n = cond (n == 1) rules.Sync (cond (n == 2) rules.Packet (cond (n == 3) rules.Error (cond (n == 4) rules.Counter (cond (n == 5) rules.Crc
    (cond (n == 6) rules.Section (cond (n == 7) rules.Pat (cond (n == 8) rules.Pmt (cond (n == 9) rules.Nit (cond (n == 10) rules.Sdt
    (cond (n == 11) rules.Eit (cond (n == 12) rules.Tdt (cond (n == 13) rules.Pcr (cond (n == 14) rules.Pts rules.Cut)))))))))))))

rule_back : (r : Rule) → rule_of (rule_number r) ≡ r
unfolding rule_number rule_of
rule_back rules.Sync = refl
rule_back rules.Packet = refl
rule_back rules.Error = refl
rule_back rules.Counter = refl
rule_back rules.Crc = refl
rule_back rules.Section = refl
rule_back rules.Pat = refl
rule_back rules.Pmt = refl
rule_back rules.Nit = refl
rule_back rules.Sdt = refl
rule_back rules.Eit = refl
rule_back rules.Tdt = refl
rule_back rules.Pcr = refl
rule_back rules.Pts = refl
rule_back rules.Cut = refl

pub before_trans : (f g h : StreamFault) → is_before f g ≡ true → is_before g h ≡ true → is_before f h ≡ true
unfolding is_before
before_trans f g h =
    lex_trans f.packet g.packet h.packet _ _ _ (lex_trans (rule_number f.rule) (rule_number g.rule) (rule_number h.rule) _ _ _ (pid_trans f.pid g.pid h.pid))

pub before_apart : (f g : StreamFault) → is_before f g ≡ true → is_before g f ≡ true → ⊥
unfolding is_before
before_apart f g = lex_apart f.packet g.packet _ _ (lex_apart (rule_number f.rule) (rule_number g.rule) _ _ (pid_apart f.pid g.pid))

same_fault : (f g : StreamFault) → f.packet ≡ g.packet → f.rule ≡ g.rule → f.pid ≡ g.pid → f ≡ g
same_fault f g p r q = ap (λ (k : ℕ). record f { packet = k }) p ∙ ap (λ (k : Rule). record f { packet = g.packet; rule = k }) r
    ∙ ap (λ (k : Option ℕ). record g { pid = k }) q

pub before_none : (f g : StreamFault) → is_before f g ≡ false → is_before g f ≡ false → f ≡ g
unfolding is_before
before_none f g p q =
    let a = lex_same f.packet g.packet _ _ p q in
    let b = lex_same (rule_number f.rule) (rule_number g.rule) _ _ a.1 a.2 in
    same_fault f g a.0 (sym (rule_back f.rule) ∙ ap rule_of b.0 ∙ rule_back g.rule) (pid_same f.pid g.pid b.1 b.2)
