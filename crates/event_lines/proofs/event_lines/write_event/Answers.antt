use Rattle.event_lines.specs.EventLines.{event_line}
use Rattle.event_lines.proofs.event_lines.write_event.Goals as goal

pub returns-in-Excess : goal.returns-in-Excess
unfolding event_line
returns-in-Excess c = rw c.in-Excess.is c.write_excess.ensures
