use Rattle.std.proofs.Common.{◌≡◌, ◌∙◌, ℕ, Option, None, option_map, sym, ap}
use Rattle.description_parts.specs.Described.{Described}
use Rattle.line_ups.specs.Faults.{line_up_fault}
use Rattle.mux_core.specs.LineUps.{served_by}
use Rattle.mux_core.specs.LineUpSteps.{left_pid}
use Rattle.mux_core.specs.declared.line_up.TakeOverError.TheVariants as error
use Rattle.mux_core.proofs.TakenLineUps.{fault_is, cause_fault, cause_left}
use Rattle.mux_core.proofs.multiplexer.Mux.cause_of_line_up.Goals as goal

pub returns-in-Some-line_up_fault : goal.returns-in-Some-line_up_fault
returns-in-Some-line_up_fault g c =
    cause_fault c.args.self.now c.args.next.now c.in-Some-line_up_fault.fault
    (sym (fault_is c.args.self.now.schedule c.in-Some.plan.now c.args.next.now c.in-Some.ensures.plan) ∙ sym c.line_up_fault.ensures
    ∙ c.in-Some-line_up_fault.is)

pub returns-in-None : goal.returns-in-None
returns-in-None g c =
    let none : line_up_fault (served_by c.args.self.now.schedule) c.args.next.now ≡ None =
    sym (fault_is c.args.self.now.schedule c.in-Some.plan.now c.args.next.now c.in-Some.ensures.plan) ∙ sym c.line_up_fault.ensures
    ∙ c.in_default-line_up_fault.is in
    sym (ap (λ (o : Option ℕ). option_map error.Waiting o) c.in-None.is)
    ∙ cause_left c.args.self.now c.args.next.now c.left_pid.result none
    (c.left_pid.ensures ∙ ap (λ (d : Described). left_pid c.args.self.now d) c.description.ensures.description)

pub returns-in-Some-left_pid : goal.returns-in-Some-left_pid
returns-in-Some-left_pid g c =
    let none : line_up_fault (served_by c.args.self.now.schedule) c.args.next.now ≡ None =
    sym (fault_is c.args.self.now.schedule c.in-Some.plan.now c.args.next.now c.in-Some.ensures.plan) ∙ sym c.line_up_fault.ensures
    ∙ c.in_default-line_up_fault.is in
    sym (ap (λ (o : Option ℕ). option_map error.Waiting o) c.in-Some-left_pid.is)
    ∙ cause_left c.args.self.now c.args.next.now c.left_pid.result none
    (c.left_pid.ensures ∙ ap (λ (d : Described). left_pid c.args.self.now d) c.description.ensures.description)
