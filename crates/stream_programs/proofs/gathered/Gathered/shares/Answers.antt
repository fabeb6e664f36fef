use Rattle.std.proofs.Common.{◌∙◌}
use Rattle.stream_programs.proofs.gathered.Gathered.shares.Goals as goal

pub returns : goal.returns
returns g c = rw (← c.self.view_is) (c.has_pair.ensures.value ∙ c.self.invariant.shared c.args.number c.args.pid c.has_pair.ensures.number)
