use Rattle.mux_core.proofs.making.begun.Goals as goal
use Rattle.mux_core.proofs.FirstStates.{begins}

pub returns-clause-represents : goal.returns-clause-represents
returns-clause-represents g c =
    begins c.args.schedule c.args.queues.items c.args.carousels.items c.args.capacity c.requires.ranges c.requires.queues c.requires.carousels
