use Rattle.description.proofs.Allowed.{within_few}
use Rattle.plan_checker.proofs.waiting_units.waiting_packets.Goals as goal

pub returns-in-Groups-clause-bound : goal.returns-in-Groups-clause-bound
returns-in-Groups-clause-bound c = rw (c.min.ensures, c.packets_of_unit.ensures.packets)
    (rw c.in-Groups.is at
    (within_few c.args.stream.now c.waiting_units-waiting.result c.args.lead c.requires.ranges c.waiting_units-waiting.ensures.bound c.requires.lead))
