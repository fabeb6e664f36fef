use Rattle.std.proofs.Common.{◌≡◌, ◌++◌, ℕ, List, sym, subst, rules}
use Rattle.mux_core.specs.Events.{SlotStep, step_history, Adds}
use Rattle.mux_core.proofs.EventSteps.{slot_given, slot_added, done_represents, done_added}
use Rattle.mux_core.proofs.driving.write_slot.Goals as goal

pub returns-in-Ok-clause-represents : goal.returns-in-Ok-clause-represents
returns-in-Ok-clause-represents g c = λ h st. slot_given h c.args.mux.now c.next_packet.new.self c.in-Ok.packet (c.in-Ok.ensures.next h st)

pub returns-in-Ok-clause-written : goal.returns-in-Ok-clause-written
returns-in-Ok-clause-written g c = λ h st.
    let items : c.extend_from_slice.new.self.items ≡ c.args.out.now.items ++ c.in-Ok.packet = search rules in
    subst (λ (l : List ℕ). Adds c.args.mux.now.schedule h (step_history c.args.mux.now.schedule c.args.mux.now.capacity h SlotStep) c.args.out.now.items l)
    (sym items)
    (slot_added h c.args.mux.now c.next_packet.new.self c.in-Ok.packet c.args.out.now.items (c.in-Ok.ensures.next h st))

pub returns-in_default-clause-represents : goal.returns-in_default-clause-represents
returns-in_default-clause-represents g c =
    λ h st. done_represents h c.args.mux.now c.next_packet.new.self c.in_default.field-0 st (c.in_default.ensures.next h st)

pub returns-in_default-clause-written : goal.returns-in_default-clause-written
returns-in_default-clause-written g c = λ h st.
    done_added h c.args.mux.now c.next_packet.new.self c.in_default.field-0 c.args.out.now.items (c.in_default.ensures.next h st)
