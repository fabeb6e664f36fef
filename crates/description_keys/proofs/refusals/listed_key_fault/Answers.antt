use Rattle.std.proofs.Common.{ap, ◌∙◌, List}
use Rattle.toml.specs.View.{view}
use Rattle.description_keys.specs.Refusals.{first_fault}
use Rattle.description_keys.specs.Rules.{Rule}
use Rattle.description_keys.proofs.refusals.listed_key_fault.Goals as goal

pub returns : goal.returns
returns c = c.first_fault.ensures ∙ ap (λ (rs : List Rule). first_fault rs (view c.args.document.now)) c.keys.ensures.rules
