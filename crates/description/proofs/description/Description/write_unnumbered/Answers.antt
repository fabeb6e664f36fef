use Rattle.std.proofs.Common.{sym, ◌∙◌}
use Rattle.description.proofs.Versions.{no_bytes}
use Rattle.description.proofs.description.Description.write_unnumbered.Goals as goal

pub returns-in_default : goal.returns-in_default
returns-in_default c =
    c.clear.ensures
    ∙ sym (no_bytes c.args.self.now c.args.kind c.args.section c.args.moment c.requires c.in_default.not-Tdt c.in_default.not-Private)
