use Rattle.std.proofs.Common.{suc, sym, ◌∙◌, subst}
use Rattle.unit_queue.specs.Queues.{Queue, QueueHolds}
use Rattle.unit_queue.proofs.QueueStates.{own_slot_law}
use Rattle.unit_queue.proofs.queue.UnitQueue.next.Goals as goal

pub returns-clause-represents : goal.returns-clause-represents
returns-clause-represents g c = λ l capacity us mine holds.
    let one = own_slot_law l c.args.slot capacity us c.args.self.now mine holds in
    (c.write_next.ensures.packet ∙ one.packet, subst (λ (q : Queue). QueueHolds l (suc c.args.slot) capacity us q) (sym c.write_next.ensures.state) one.holds)
