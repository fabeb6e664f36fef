use Rattle.arrival.proofs.Steps.{begins, clock_line, ends}
use Rattle.arrival.proofs.arrival_clock.ArrivalClock.take.Goals as goal

pub moment_by-moment-requires-clause-moment : goal.moment_by-moment-requires-clause-moment
moment_by-moment-requires-clause-moment c =
    ends c.self.inside.clock.last c.args.sample c.take-step.result.step c.self.inside.moment c.take-step.ensures.step c.self.invariant

pub line_from-requires-clause-clock : goal.line_from-requires-clause-clock
line_from-requires-clause-clock c =
    clock_line c.take-step.result.step c.self.inside.clock.line c.take-step.result.line c.take-step.ensures.line c.take-step.ensures.clock

pub line_from-requires-clause-moment : goal.line_from-requires-clause-moment
line_from-requires-clause-moment c =
    begins c.self.inside.clock.last c.args.sample c.take-step.result.step c.self.inside.moment c.take-step.ensures.step c.self.invariant
