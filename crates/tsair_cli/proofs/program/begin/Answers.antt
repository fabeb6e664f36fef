use Rattle.std.proofs.Common.{◌≡◌, List, ℕ, Option, sym}
use Rattle.tsair_cli.proofs.program.begin.Goals as goal

-- src/program.rt:44:1
pub returns-in-Two-clause-begun : goal.returns-in-Two-clause-begun
returns-in-Two-clause-begun c = λ start. rw (c.in-Two.is, sym c.unwrap_or.ensures) (c.with_switch.ensures.begun start)
