use Rattle.arrival.proofs.Lines.{begins, ends, meet, rises, rounded, reaches}
use Rattle.arrival.proofs.laws.lines.Goals as goal

pub returns-clause-begins : goal.returns-clause-begins
returns-clause-begins c = begins

pub returns-clause-ends : goal.returns-clause-ends
returns-clause-ends c = ends

pub returns-clause-meet : goal.returns-clause-meet
returns-clause-meet c = meet

pub returns-clause-rises : goal.returns-clause-rises
returns-clause-rises c = rises

pub returns-clause-rounded : goal.returns-clause-rounded
returns-clause-rounded c = rounded

pub returns-clause-reaches : goal.returns-clause-reaches
returns-clause-reaches c = reaches
