use Rattle.std.proofs.Common.{◌≡◌, Bool, false, inr, refl, rules}
use Rattle.devices.proofs.SavedFiles.{known_as}
use Rattle.devices.proofs.saving.keep.Goals as goal

pub returns : goal.returns
returns g c =
    let no : c.keep_file.result ≡ false = search rules in
    inr (known_as _ _ _ c.keep_file.ensures no, (refl, c.report_of.ensures))
