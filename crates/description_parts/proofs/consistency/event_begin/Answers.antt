use Rattle.std.proofs.Common.{codes}
use Rattle.toml.specs.View.{view}
use Rattle.description_parts.proofs.KeyRanges.{moment_at-within}
use Rattle.description_parts.proofs.consistency.event_begin.Goals as goal

pub returns-clause-bound : goal.returns-clause-bound
returns-clause-bound c = rw (c.unwrap_or.ensures, c.moment_at.ensures) (moment_at-within (codes "start") (view c.args.event.now)).most
