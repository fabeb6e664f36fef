-- The program compares faults in the order of the definition.
use Rattle.std.proofs.Common.{◌≡◌, ℕ, ◌-◌, ◌==◌, ◌<◌, Bool, true, false, cond, List, [], ◌∷◌, Option, Some, None, refl, sym, ap, subst, ◌∙◌, arith}
use Rattle.std.specs.Prelude.{nat_lt, slice_index_or}
use Rattle.std.specs.List.{list_all}
use Rattle.std.specs.Ordering.{nat_cmp, ordering_then}
use Rattle.std.specs.Option.{option_cmp}
use Rattle.std.specs.declared.cmp.Ordering.{Ordering}
use Rattle.std.specs.declared.cmp.Ordering.TheVariants.{Less, Equal, Greater}
use Rattle.std.proofs.lemmas.Bool.Decides.{nat_tests}
use Rattle.std.proofs.lemmas.List.Sums.{AllPass-from_list_all}
use Rattle.monitor.specs.declared.fault.StreamFault.{StreamFault}
use Rattle.monitor.specs.declared.fault.Rule.{Rule}
use Rattle.monitor.specs.declared.fault.Rule.TheVariants as rules
use Rattle.monitor.specs.InOrder.{rule_number, pid_before, is_before}
use Rattle.monitor.specs.contracts.fault.StreamFaultOrd.TheImpl as faults_ord
use Rattle.monitor.specs.contracts.fault.RuleOrd.TheImpl as rules_ord

-- 1. Rules

all_rules : List Rule
all_rules = rules.Sync ∷ rules.Packet ∷ rules.Error ∷ rules.Counter ∷ rules.Crc ∷ rules.Section ∷ rules.Pat ∷ rules.Pmt ∷ rules.Nit ∷ rules.Sdt ∷ rules.Eit ∷
    rules.Tdt ∷ rules.Pcr ∷ rules.Pts ∷ rules.Cut ∷ []

place : Rule → ℕ
place r = rule_number r - 1

listed : (r : Rule) → (slice_index_or all_rules (place r) rules.Sync ≡ r) × (nat_lt (place r) 15 ≡ true)
unfolding all_rules place rule_number
listed rules.Sync = (refl, refl)
listed rules.Packet = (refl, refl)
listed rules.Error = (refl, refl)
listed rules.Counter = (refl, refl)
listed rules.Crc = (refl, refl)
listed rules.Section = (refl, refl)
listed rules.Pat = (refl, refl)
listed rules.Pmt = (refl, refl)
listed rules.Nit = (refl, refl)
listed rules.Sdt = (refl, refl)
listed rules.Eit = (refl, refl)
listed rules.Tdt = (refl, refl)
listed rules.Pcr = (refl, refl)
listed rules.Pts = (refl, refl)
listed rules.Cut = (refl, refl)

-- A test that each listed rule passes is passed by every rule.
each_rule : (p : Rule → Bool) → list_all p all_rules ≡ true → (r : Rule) → p r ≡ true
unfolding all_rules
each_rule p h r =
    let at = listed r in
    let within : place r < 15 = grind (arith, nat_tests) in
    subst (λ (q : Rule). p q ≡ true) at.0 (AllPass-from_list_all p all_rules h (place r) rules.Sync within)

agrees : Ordering → Ordering → Bool
agrees Less Less = true
agrees Less Equal = false
agrees Less Greater = false
agrees Equal Less = false
agrees Equal Equal = true
agrees Equal Greater = false
agrees Greater Less = false
agrees Greater Equal = false
agrees Greater Greater = true

agreed : (o p : Ordering) → agrees o p ≡ true → o ≡ p
unfolding agrees
agreed Less Less e = refl
agreed Less Equal e = absurd (grind arith)
agreed Less Greater e = absurd (grind arith)
agreed Equal Less e = absurd (grind arith)
agreed Equal Equal e = refl
agreed Equal Greater e = absurd (grind arith)
agreed Greater Less e = absurd (grind arith)
agreed Greater Equal e = absurd (grind arith)
agreed Greater Greater e = refl

rule_agrees : Rule → Rule → Bool
rule_agrees a b = agrees (rules_ord.cmp-value.it a b) (nat_cmp (rule_number a) (rule_number b))

rules_agree : list_all (λ a. list_all (rule_agrees a) all_rules) all_rules ≡ true
unfolding all_rules rule_agrees agrees rule_number
rules_agree = refl

rules_by_number : (a b : Rule) → rules_ord.cmp-value.it a b ≡ nat_cmp (rule_number a) (rule_number b)
unfolding rule_agrees
rules_by_number a b =
    agreed (rules_ord.cmp-value.it a b) (nat_cmp (rule_number a) (rule_number b))
    (each_rule (rule_agrees a) (each_rule (λ (r : Rule). list_all (rule_agrees r) all_rules) rules_agree a) b)

-- 2. Faults

in_turn : StreamFault → StreamFault → Ordering
in_turn f g = ordering_then (nat_cmp f.packet g.packet) (ordering_then (nat_cmp (rule_number f.rule) (rule_number g.rule)) (option_cmp nat_cmp f.pid g.pid))

faults_in_turn : (f g : StreamFault) → faults_ord.cmp-value.it f g ≡ in_turn f g
unfolding in_turn
faults_in_turn f g =
    ap (λ (o : Ordering). ordering_then (nat_cmp f.packet g.packet) (ordering_then o (option_cmp nat_cmp f.pid g.pid))) (rules_by_number f.rule g.rule)

less_level : (a b : ℕ) (o : Ordering) (r : Bool) → (o ≡ Less → r ≡ true) → ordering_then (nat_cmp a b) o ≡ Less → cond (a == b) r (nat_lt a b) ≡ true
less_level a b o r k = by (nat_lt a b) (a == b) refl refl
  where
    by : (s t : Bool) → nat_lt a b ≡ s → (a == b) ≡ t → ordering_then (cond s Less (cond t Equal Greater)) o ≡ Less → cond t r s ≡ true
    by true true p q e = absurd (grind (arith, nat_tests))
    by true false p q e = refl
    by false true p q e = k e
    by false false p q e = absurd (grind arith)

equal_level : (a b : ℕ) (o : Ordering) → ordering_then (nat_cmp a b) o ≡ Equal → (a ≡ b) × (o ≡ Equal)
equal_level a b o = by (nat_lt a b) (a == b) refl refl
  where
    by : (s t : Bool) → nat_lt a b ≡ s → (a == b) ≡ t → ordering_then (cond s Less (cond t Equal Greater)) o ≡ Equal → (a ≡ b) × (o ≡ Equal)
    by true t p q e = absurd (grind arith)
    by false true p q e = let n : a ≡ b = grind (arith, nat_tests) in (n, e)
    by false false p q e = absurd (grind arith)

less_number : (a b : ℕ) → nat_cmp a b ≡ Less → nat_lt a b ≡ true
less_number a b = by (nat_lt a b) (a == b)
  where
    by : (s t : Bool) → cond s Less (cond t Equal Greater) ≡ Less → s ≡ true
    by true t e = refl
    by false true e = absurd (grind arith)
    by false false e = absurd (grind arith)

pid_less : (a b : Option ℕ) → option_cmp nat_cmp a b ≡ Less → pid_before a b ≡ true
unfolding pid_before
pid_less None None e = absurd (grind arith)
pid_less None (Some b) e = refl
pid_less (Some a) None e = absurd (grind arith)
pid_less (Some a) (Some b) e = less_number a b e

pid_equal : (a b : Option ℕ) → option_cmp nat_cmp a b ≡ Equal → a ≡ b
pid_equal None None e = refl
pid_equal None (Some b) e = absurd (grind arith)
pid_equal (Some a) None e = absurd (grind arith)
pid_equal (Some a) (Some b) e = ap (λ (n : ℕ). Some n) (equal_level a b Equal (same_then (nat_cmp a b) ∙ e)).0
  where
    same_then : (o : Ordering) → ordering_then o Equal ≡ o
    same_then Less = refl
    same_then Equal = refl
    same_then Greater = refl

rule_equal : (a b : Rule) → rule_number a ≡ rule_number b → a ≡ b
unfolding place
rule_equal a b e = sym (listed a).0 ∙ ap (λ (n : ℕ). slice_index_or all_rules (n - 1) rules.Sync) e ∙ (listed b).0

pub before_from_less : (f g : StreamFault) → faults_ord.cmp-value.it f g ≡ Less → is_before f g ≡ true
unfolding is_before in_turn
before_from_less f g e =
    less_level f.packet g.packet _ _ (less_level (rule_number f.rule) (rule_number g.rule) _ _ (pid_less f.pid g.pid)) (sym (faults_in_turn f g) ∙ e)

pub same_from_equal : (f g : StreamFault) → faults_ord.cmp-value.it f g ≡ Equal → f ≡ g
unfolding in_turn
same_from_equal f g e =
    let a = equal_level f.packet g.packet _ (sym (faults_in_turn f g) ∙ e) in
    let b = equal_level (rule_number f.rule) (rule_number g.rule) _ a.1 in
    ap (λ (n : ℕ). record f { packet = n }) a.0
    ∙ ap (λ (r : Rule). record f { packet = g.packet; rule = r }) (rule_equal f.rule g.rule b.0)
    ∙ ap (λ (p : Option ℕ). record g { pid = p }) (pid_equal f.pid g.pid b.1)
