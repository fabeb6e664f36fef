use Rattle.std.proofs.Common.{map}
use Rattle.tsmux_cli.specs.CommandLine.{tsmux_app}
use Rattle.clap.specs.Words.{app_of}
use Rattle.tsmux_cli.proofs.CommandLines.{faulty, named, simple}
use Rattle.tsmux_cli.proofs.command_line.matches_for.Goals as goal

pub returns-clause-ok : goal.returns-clause-ok
returns-clause-ok c =
    named tsmux_app (map (λ s. s.now) c.args.words.now) c.try_get_matches_from.result simple
    (rw c.in_ok-tsmux.ensures at c.try_get_matches_from.ensures.matches)

pub returns-clause-fault : goal.returns-clause-fault
returns-clause-fault c =
    faulty (app_of c.in_ok-tsmux.field-0) (map (λ s. s.now) c.args.words.now) c.try_get_matches_from.result c.in_ok-tsmux.ensures
    c.try_get_matches_from.ensures.kinds
