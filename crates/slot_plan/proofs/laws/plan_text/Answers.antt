use Rattle.std.proofs.Common.{◌≡◌, ◌∙◌, sym, ap, ℕ, List}
use Rattle.slot_plan.specs.Planned.{Planned}
use Rattle.slot_plan.specs.Readers.{plan_at}
use Rattle.slot_plan.proofs.TextPlans.{plan-sound, plan-complete}
use Rattle.slot_plan.proofs.TextLists.{ok_same}
use Rattle.slot_plan.proofs.laws.plan_text.Goals as goal

pub returns-clause-exact : goal.returns-clause-exact
returns-clause-exact c = record { found = λ text rest p e. plan-sound text p rest e; read = plan-complete }

pub returns-clause-one_text : goal.returns-clause-one_text
returns-clause-one_text c = λ p q rest other is_p is_q e.
    let same : (p, rest) ≡ (q, other) = ok_same _ _ (sym (plan-complete p rest is_p) ∙ ap plan_at e ∙ plan-complete q other is_q) in
    (ap (λ (t : Planned × List ℕ). t.0) same, ap (λ (t : Planned × List ℕ). t.1) same)
