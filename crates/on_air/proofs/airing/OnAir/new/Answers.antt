use Rattle.std.proofs.Common.{◌+◌, refl, ap, ◌∙◌, subst}
use Rattle.description_parts.specs.Described.{Described}
use Rattle.description_parts.specs.Ranges.{IsInRange}
use Rattle.mux_core.specs.Histories.{empty_history}
use Rattle.mux_core.specs.WholeJobs.{plan_schedule}
use Rattle.on_air.specs.Airing.{greatest_lead, room_by}
use Rattle.on_air.specs.AirStates.{Carries, Promises, plan_run}
use Rattle.on_air.proofs.airing.OnAir.new.Goals as goal

pub returns-in-Ok-clause-begun : goal.returns-in-Ok-clause-begun
returns-in-Ok-clause-begun g c = λ start.
    let same = c.description.ensures.description in
    let room = c.numbers_of-of.ensures.room
    ∙ ap (λ (d : Described). room_by c.args.terms.room (greatest_lead d.streams + c.args.terms.wait)) same in
    let carries : Carries (plan_run c.args.plan c.args.terms c.args.hex) empty_history c.in-Ok.mux =
    record { represents = c.in-Ok.ensures.represents; scheduled = c.in-Ok.ensures.schedule; capacity = c.in-Ok.ensures.capacity ∙ room } in
    let ranges = subst (λ (d : Described). IsInRange d) c.description-2.ensures.description c.keeps_ranges.ensures in
    let promises : Promises (plan_schedule c.args.plan) =
    record { ranges = ranges; promised = c.accepted_plan.ensures c.args.plan.description c.args.plan.plan ranges c.description.ensures.serving } in
    c.begun.ensures.begun (plan_schedule c.args.plan) start carries promises refl
    (c.numbers_of-of.ensures.rate ∙ ap (λ (d : Described). d.rate) same)
    (c.numbers_of-of.ensures.lead ∙ ap (λ (d : Described). greatest_lead d.streams + c.args.terms.wait) same)
