use Rattle.std.proofs.Common.{◌≡◌, refl, true, false, rules}
use Rattle.tsremux_cli.proofs.Written.{to_output, to_terminal}
use Rattle.tsremux_cli.proofs.outputs.remux_to_output.Goals as goal

pub returns-then-shows_output : goal.returns-then-shows_output
returns-then-shows_output g c =
    let yes : c.shows_output.result ≡ true = search rules in
    to_terminal _ _ _ _ _ _ _ _ c.shows_output.ensures yes refl refl c.report_text.ensures refl

pub returns : goal.returns
returns g c =
    let no : c.shows_output.result ≡ false = search rules in
    to_output _ _ _ _ _ _ _ _ c.shows_output.ensures no c.write_output.ensures
