use Rattle.std.proofs.Common.{◌<◌, ◌^◌, suc, subst, rules, arith}
use Rattle.description_parts.specs.Ranges.{IsInRange}
use Rattle.slot_plan.specs.Promised.{Promised}
use Rattle.mux_core.specs.MuxStates.{MuxState}
use Rattle.mux_core.proofs.MuxStates.{gives}
use Rattle.mux_core.proofs.Accepted.{any_state}
use Rattle.mux_core.proofs.multiplexer.Mux.write_next.Goals as goal

pub returns-clause-next : goal.returns-clause-next
returns-clause-next g c = λ h st.
    let old : MuxState = c.args.self.now in
    let ranges : IsInRange old.schedule.description = subst (λ (m : MuxState). IsInRange m.schedule.description) c.self.view_is c.self.invariant.0 in
    let below : old.slots < 2 ^ 40 = search (rules, arith) in
    gives h old c.fill_slot.new.packet c.fill_slot.new.self ranges st below c.fill_slot.ensures.packet c.fill_slot.ensures.state

pub returns-clause-headline : goal.returns-clause-headline
returns-clause-headline g c = λ h st.
    let old : MuxState = c.args.self.now in
    let ranges : IsInRange old.schedule.description = subst (λ (m : MuxState). IsInRange m.schedule.description) c.self.view_is c.self.invariant.0 in
    let promised : Promised old.schedule.description old.schedule.schedule =
    subst (λ (m : MuxState). Promised m.schedule.description m.schedule.schedule) c.self.view_is c.self.invariant.1 in
    any_state h old (suc h.slots) ranges promised st
