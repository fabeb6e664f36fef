use Rattle.std.proofs.Common.{◌≡◌, ◌∙◌, ◌<◌, ℕ, List, [], Some, ap, sym, rules, arith}
use Rattle.tsremux_cli.proofs.ByHand.{none_made, plan_made}
use Rattle.tsremux_cli.proofs.by_hand.made_plan.Goals as goal

pub returns-then-status-eq0 : goal.returns-then-status-eq0
returns-then-status-eq0 g c =
    let none : c.new.result.items ≡ [] = search rules in
    plan_made _ _ _ _ _ _ (ap (λ s. Some s.now) c.new-input.ensures.inner)
    (ap (λ v. Some v.items) c.new-plan.ensures.inner ∙ ap (λ (xs : List ℕ). Some xs) none)
    (sym (ap (λ v. Some v.items) c.into_inner.ensures)) c.make_plan-status.ensures c.if-status-eq0.true

pub returns : goal.returns
returns g c =
    let none : c.new.result.items ≡ [] = search rules in
    let fails : 0 < c.make_plan-status.result = omega (arith, c.if-status-eq0.false) in
    none_made _ _ _ _ _ _ _ (ap (λ s. Some s.now) c.new-input.ensures.inner)
    (ap (λ v. Some v.items) c.new-plan.ensures.inner ∙ ap (λ (xs : List ℕ). Some xs) none)
    c.make_plan-status.ensures fails c.report_why.ensures
