use Rattle.std.proofs.Common.{◌≡◌, Bool, false, inr, refl, rules}
use Rattle.tsremux_cli.proofs.Written.{known_as}
use Rattle.tsremux_cli.proofs.outputs.finish.Goals as goal

pub returns-else-keep_file : goal.returns-else-keep_file
returns-else-keep_file g c =
    let no : c.keep_file.result ≡ false = search rules in
    rw c.in-Whole.is (inr (known_as _ _ _ c.keep_file.ensures no, (refl, c.report_of.ensures)))
