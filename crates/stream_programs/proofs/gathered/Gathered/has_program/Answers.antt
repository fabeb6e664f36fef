use Rattle.std.proofs.Common.{◌∙◌}
use Rattle.stream_programs.proofs.gathered.Gathered.has_program.Goals as goal

pub returns : goal.returns
returns g c = rw (← c.self.view_is) (c.has_pair.ensures.value ∙ c.self.invariant.clocked c.args.number c.args.pcr_pid c.has_pair.ensures.number)
