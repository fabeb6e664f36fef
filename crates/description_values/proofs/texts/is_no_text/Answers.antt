use Rattle.std.proofs.Common.{ap, ◌∙◌}
use Rattle.toml.specs.View.{view}
use Rattle.description_values.specs.Values.{is_beyond}
use Rattle.description_values.proofs.TextLengths.{no_text}
use Rattle.description_values.proofs.texts.is_no_text.Goals as goal

pub returns : goal.returns
returns c = c.is_beyond.ensures ∙ (ap (is_beyond c.args.most) c.text.ensures ∙ no_text c.args.most (view c.args.value.now) c.requires)
