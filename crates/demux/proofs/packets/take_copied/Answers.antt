use Rattle.pid_findings.proofs.FoundViews.{none_borrowed}
use Rattle.demux.proofs.packets.take_copied.Goals as goal

pub returns-in_ok-take_read-in-Ok-clause-joined : goal.returns-in_ok-take_read-in-Ok-clause-joined
returns-in_ok-take_read-in-Ok-clause-joined g c = none_borrowed _ _ _ c.in_ok-take_read-in-Ok.ensures.spans
