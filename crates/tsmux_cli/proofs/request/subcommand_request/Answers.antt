use Rattle.std.proofs.Common.{sym, ◌∙◌, ap}
use Rattle.clap.specs.Words.{found_of, rows_of, subcommand_rows_of}
use Rattle.tsmux_cli.specs.Request.{subcommand_request}
use Rattle.tsmux_cli.proofs.Subcommands.{in_two, none_of, some_of}
use Rattle.tsmux_cli.proofs.request.subcommand_request.Goals as goal

pub returns-in-None-clause-value : goal.returns-in-None-clause-value
unfolding subcommand_request
returns-in-None-clause-value c = sym (ap subcommand_request (none_of (subcommand_rows_of c.args.matches.now) (sym c.in-None.ensures.rows)))

pub returns-in-Some-clause-value : goal.returns-in-Some-clause-value
unfolding subcommand_request
returns-in-Some-clause-value c =
    c.request_of.ensures.value
    ∙ sym (ap subcommand_request (some_of (subcommand_rows_of c.args.matches.now) c.in-Some.name.now (rows_of (found_of c.in-Some.found.now))
    (sym (in_two _ _ _) ∙ sym c.in-Some.ensures.name) (sym c.in-Some.ensures.rows)))
