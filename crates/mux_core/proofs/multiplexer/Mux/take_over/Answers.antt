use Rattle.std.proofs.Common.{◌∙◌, sym, subst}
use Rattle.description_parts.specs.Described.{Described}
use Rattle.description_parts.specs.Ranges.{IsInRange}
use Rattle.mux_core.specs.LineUpSteps.{PutOver}
use Rattle.mux_core.proofs.TakenLineUps.{refused_over, starved_over, takes_over, taken_effects}
use Rattle.mux_core.proofs.multiplexer.Mux.take_over.Goals as goal

pub returns-in-Some-clause-takes : goal.returns-in-Some-clause-takes
returns-in-Some-clause-takes g c = λ h st.
    refused_over h c.args.self.now c.args.plan c.in-Some.cause st (sym c.cause_of_line_up.ensures ∙ c.in-Some.is)

pub returns-in_default-new_parts-clause-takes : goal.returns-in_default-new_parts-clause-takes
returns-in_default-new_parts-clause-takes g c = λ h st.
    starved_over h c.args.self.now c.args.plan st (sym c.cause_of_line_up.ensures ∙ c.in_default.is)

pub returns-clause-takes : goal.returns-clause-takes
returns-clause-takes g c = λ h st.
    takes_over (record { range = c.followed.ensures.range; text = c.followed.ensures.texts }) h c.args.self.now c.put_line_up.new.self c.args.plan
    c.in-Ok.parts.queues.items c.in-Ok.parts.carousels.items (subst IsInRange c.description.ensures.description c.keeps_ranges.ensures) st
    (sym c.cause_of_line_up.ensures ∙ c.in_default.is) c.keeps_what_stays.ensures c.in-Ok.ensures.queues c.in-Ok.ensures.carousels
    (subst (λ (d : Described). PutOver c.args.self.now c.args.plan d c.in-Ok.parts.queues.items c.in-Ok.parts.carousels.items c.put_line_up.new.self)
    c.requires.texts c.put_line_up.ensures)

pub returns-clause-untouched : goal.returns-clause-untouched
returns-clause-untouched g c = λ h st.
    (taken_effects h c.args.self.now c.put_line_up.new.self c.args.plan (subst IsInRange c.description.ensures.description c.keeps_ranges.ensures) st
    (sym c.cause_of_line_up.ensures ∙ c.in_default.is) c.keeps_what_stays.ensures (returns-clause-takes g c h st)).untouched

pub returns-clause-silent : goal.returns-clause-silent
returns-clause-silent g c = λ h st.
    (taken_effects h c.args.self.now c.put_line_up.new.self c.args.plan (subst IsInRange c.description.ensures.description c.keeps_ranges.ensures) st
    (sym c.cause_of_line_up.ensures ∙ c.in_default.is) c.keeps_what_stays.ensures (returns-clause-takes g c h st)).silent

pub returns-clause-gone : goal.returns-clause-gone
returns-clause-gone g c = λ h st.
    (taken_effects h c.args.self.now c.put_line_up.new.self c.args.plan (subst IsInRange c.description.ensures.description c.keeps_ranges.ensures) st
    (sym c.cause_of_line_up.ensures ∙ c.in_default.is) c.keeps_what_stays.ensures (returns-clause-takes g c h st)).gone
