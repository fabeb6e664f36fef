use Rattle.std.proofs.Common.{◌+◌, length, refl, ap, ◌∙◌, subst}
use Rattle.description_parts.specs.Described.{Described}
use Rattle.description_parts.specs.Ranges.{IsInRange}
use Rattle.slot_plan.specs.Conditions.{IsServing}
use Rattle.plan_checker.specs.Served.{Served}
use Rattle.mux_core.specs.Histories.{empty_history}
use Rattle.mux_core.specs.NewMux.{is_periods}
use Rattle.mux_core.specs.Rooms.{is_room}
use Rattle.mux_core.specs.WholeJobs.{switch_schedule}
use Rattle.on_air.specs.Airing.{greatest_lead, room_by}
use Rattle.on_air.specs.AirStates.{Carries, Promises, switch_run}
use Rattle.on_air.proofs.FirstStates.{switch_begun}
use Rattle.on_air.proofs.airing.OnAir.with_switch.Goals as goal

pub returns-in-Ok-clause-refused : goal.returns-in-Ok-clause-refused
returns-in-Ok-clause-refused g c =
    switch_begun (is_room c.numbers_of-of.result.room) (is_periods (length c.args.switch.first.plan.slots) c.args.periods) _ c.in-Ok.ensures.refused
    c.begun.ensures.memory

pub returns-in-Ok-clause-begun : goal.returns-in-Ok-clause-begun
returns-in-Ok-clause-begun g c = λ start.
    let same = c.description.ensures.description ∙ ap (λ (p : Served). p.description) c.first.ensures.first in
    let room = c.numbers_of-of.ensures.room
    ∙ ap (λ (d : Described). room_by c.args.terms.room (greatest_lead d.streams + c.args.terms.wait)) same in
    let carries : Carries (switch_run c.args.switch c.args.periods c.args.terms c.args.hex) empty_history c.in-Ok.mux =
    record { represents = c.in-Ok.ensures.represents; scheduled = c.in-Ok.ensures.schedule; capacity = c.in-Ok.ensures.capacity ∙ room } in
    let again = c.description-2.ensures.description ∙ ap (λ (p : Served). p.description) c.first-2.ensures.first in
    let ranges = subst (λ (d : Described). IsInRange d) again c.keeps_ranges.ensures in
    let serving = subst (λ (p : Served). IsServing p.description p.plan) c.first.ensures.first c.description.ensures.serving in
    let promises : Promises (switch_schedule c.args.switch c.args.periods) =
    record {
      ranges = ranges;
      promised = c.accepted_switch.ensures c.args.switch.first.description c.args.switch.first.plan c.args.switch.second c.args.periods ranges serving
          c.first.ensures.switchable;
    } in
    c.begun.ensures.begun (switch_schedule c.args.switch c.args.periods) start carries promises refl
    (c.numbers_of-of.ensures.rate ∙ ap (λ (d : Described). d.rate) same)
    (c.numbers_of-of.ensures.lead ∙ ap (λ (d : Described). greatest_lead d.streams + c.args.terms.wait) same)
