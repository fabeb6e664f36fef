-- Programs, one by one, at the end of a window.
use Rattle.std.proofs.Common.{◌≡◌, ◌∙◌, ℕ, ◌-◌, List, [], ◌∷◌, Some, sym, ap, subst}
use Rattle.view_page.specs.Services.{AreServiceCurves, KeptServiceCurves, plus, rate_in, settled, settled_all, total_from, with_program}
use Rattle.view_page.specs.declared.services.ProgramRate.{ProgramRate}
use Rattle.view_page.specs.declared.services.ServiceCurves.{ServiceCurves}

-- 1. The sum of all rates

-- The sum with one more program.
pub total_more : (number sum next : ℕ) (it more : List (ℕ × ProgramRate)) (e : ℕ × ProgramRate) (whole : ℕ) → it ≡ e ∷ more →
    next ≡ plus sum (rate_in number (Some e.1)) → total_from number sum it ≡ whole → total_from number next more ≡ whole
unfolding total_from
total_more number sum next it more e whole is add before =
    ap (λ (s : ℕ). total_from number s more) add ∙ sym (ap (λ (es : List (ℕ × ProgramRate)). total_from number sum es) is) ∙ before

pub total_end : (number sum : ℕ) (it : List (ℕ × ProgramRate)) (whole : ℕ) → it ≡ [] → total_from number sum it ≡ whole → sum ≡ whole
unfolding total_from
total_end number sum it whole none before = sym (ap (λ (es : List (ℕ × ProgramRate)). total_from number sum es) none) ∙ before

-- 2. The curves: with this sum, the later programs bring them to this state

pub record SettlesTo (curves : ServiceCurves) (number sum : ℕ) (programs : List (ℕ × ProgramRate)) (whole : KeptServiceCurves) : Type 0 where
  pub state : KeptServiceCurves
  pub is : AreServiceCurves curves state
  pub same : settled number sum programs state ≡ whole

pub begun : (curves : ServiceCurves) (number sum : ℕ) (it programs : List (ℕ × ProgramRate)) (s : KeptServiceCurves) →
    sum ≡ total_from number 0 programs → it ≡ programs → AreServiceCurves curves s → SettlesTo curves number sum it (settled_all number programs s)
begun curves number sum it programs s total all is = record {
  state = s;
  is = is;
  same = ap (λ (t : ℕ). settled number t it s) total ∙ ap (λ (es : List (ℕ × ProgramRate)). settled number (total_from number 0 programs) es s) all;
}

one_more : (before after : ServiceCurves) (number sum : ℕ) (e : ℕ × ProgramRate) (more : List (ℕ × ProgramRate)) (whole : KeptServiceCurves) →
    ((s : KeptServiceCurves) → AreServiceCurves before s → AreServiceCurves after (with_program number e.0 (rate_in number (Some e.1)) sum s)) →
    SettlesTo before number sum (e ∷ more) whole →
    SettlesTo after number (sum - rate_in number (Some e.1)) more whole
unfolding settled
one_more before after number sum e more whole takes c = record {
  state = with_program number e.0 (rate_in number (Some e.1)) sum c.state;
  is = takes c.state c.is;
  same = c.same;
}

-- The curves with one more program.
pub one_taken : (before after : ServiceCurves) (number sum next rate : ℕ) (it more : List (ℕ × ProgramRate)) (e : ℕ × ProgramRate) (whole : KeptServiceCurves) →
    it ≡ e ∷ more → rate ≡ rate_in number (Some e.1) → next ≡ sum - rate →
    ((s : KeptServiceCurves) → AreServiceCurves before s → AreServiceCurves after (with_program number e.0 rate sum s)) →
    SettlesTo before number sum it whole → SettlesTo after number next more whole
one_taken before after number sum next rate it more e whole is rate_is next_is takes c =
    let met : SettlesTo before number sum (e ∷ more) whole = subst (λ (es : List (ℕ × ProgramRate)). SettlesTo before number sum es whole) is c in
    let took : (s : KeptServiceCurves) → AreServiceCurves before s → AreServiceCurves after (with_program number e.0 (rate_in number (Some e.1)) sum s) =
    λ s a. subst (λ (r : ℕ). AreServiceCurves after (with_program number e.0 r sum s)) rate_is (takes s a) in
    let left : sum - rate_in number (Some e.1) ≡ next = sym (next_is ∙ ap (λ (r : ℕ). sum - r) rate_is) in
    subst (λ (n : ℕ). SettlesTo after number n more whole) left (one_more before after number sum e more whole took met)

no_more : (curves : ServiceCurves) (number sum : ℕ) (whole : KeptServiceCurves) → SettlesTo curves number sum [] whole → AreServiceCurves curves whole
unfolding settled
no_more curves number sum whole c = subst (AreServiceCurves curves) c.same c.is

pub past : (curves : ServiceCurves) (number sum : ℕ) (it : List (ℕ × ProgramRate)) (whole : KeptServiceCurves) → it ≡ [] →
    SettlesTo curves number sum it whole → AreServiceCurves curves whole
past curves number sum it whole none c =
    no_more curves number sum whole (subst (λ (es : List (ℕ × ProgramRate)). SettlesTo curves number sum es whole) none c)
