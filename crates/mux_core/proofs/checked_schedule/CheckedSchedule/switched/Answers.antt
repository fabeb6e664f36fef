use Rattle.std.proofs.Common.{◌≡◌, ◌∙◌, ap, subst}
use Rattle.description_parts.specs.Ranges.{IsInRange}
use Rattle.slot_plan.specs.Conditions.{IsServing}
use Rattle.plan_checker.specs.Served.{Served}
use Rattle.mux_core.proofs.checked_schedule.CheckedSchedule.switched.Goals as goal

-- src/checked_schedule.rt:53:5
pub returns-clause-promised : goal.returns-clause-promised
returns-clause-promised g c =
    let first : c.description.result.now ≡ c.args.switch.first.description =
    c.description.ensures.description ∙ ap (λ (p : Served). p.description) c.first.ensures.first in
    c.accepted_switch.ensures c.args.switch.first.description c.args.switch.first.plan c.args.switch.second c.args.periods
    (subst IsInRange first c.keeps_ranges.ensures)
    (subst (λ (p : Served). IsServing p.description p.plan) c.first-2.ensures.first c.plan.ensures.serving)
    c.second.ensures.switchable
