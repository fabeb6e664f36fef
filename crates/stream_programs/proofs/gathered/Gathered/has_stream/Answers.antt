use Rattle.std.proofs.Common.{◌∙◌}
use Rattle.stream_programs.proofs.gathered.Gathered.has_stream.Goals as goal

pub returns : goal.returns
returns g c = rw (← c.self.view_is) (c.has_pair.ensures.value ∙ c.self.invariant.owned c.args.number c.has_pair.ensures.number)
