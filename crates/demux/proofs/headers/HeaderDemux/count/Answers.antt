use Rattle.std.proofs.Common.{◌∙◌}
use Rattle.demux.proofs.HeaderSteps.{left_out_or_not}
use Rattle.demux.proofs.headers.HeaderDemux.count.Goals as goal

pub returns-then-self-ge-PACKETS : goal.returns-then-self-ge-PACKETS
returns-then-self-ge-PACKETS g c = left_out_or_not c.self.inside.demux c.leave_out_bodies.new.self c.leave_out_bodies.ensures ∙ c.self.view_is
