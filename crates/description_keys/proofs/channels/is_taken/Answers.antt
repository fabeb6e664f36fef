use Rattle.std.proofs.Common.{sym, ◌∙◌, ap}
use Rattle.std.specs.List.{list_any}
use Rattle.toml.specs.View.{view}
use Rattle.description_keys.specs.ProgramKeys.{takes_channel}
use Rattle.description_values.proofs.Elements.{list_any-map}
use Rattle.description_keys.proofs.channels.is_taken.Goals as goal

pub returns : goal.returns
returns c =
    c.one_takes_channel.ensures ∙ sym (list_any-map (takes_channel (view c.args.program.now) c.args.channel) view c.elements.result.now)
    ∙ ap (list_any (takes_channel (view c.args.program.now) c.args.channel)) c.elements.ensures
