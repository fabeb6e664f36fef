use Rattle.std.proofs.Common.{ap, sym, ◌∙◌, List}
use Rattle.std.specs.List.{list_any}
use Rattle.description_values.proofs.Elements.{list_any-map}
use Rattle.description_keys.specs.KeyRows.{rule_of, view}
use Rattle.description_keys.specs.Refusals.{rules}
use Rattle.description_keys.specs.Rules.{Rule, is_key_of}
use Rattle.description_keys.proofs.KeyTables.{is_among-rules}
use Rattle.description_keys.proofs.known_keys.is_known.Goals as goal

pub returns : goal.returns
returns c =
    c.one_is_key_of.ensures ∙ (sym (list_any-map (is_key_of c.args.part c.args.name.now) (λ row. rule_of (view row)) c.keys.result.now)
    ∙ (ap (λ (rs : List Rule). list_any (is_key_of c.args.part c.args.name.now) rs) c.keys.ensures.rules
    ∙ is_among-rules c.args.part c.args.name.now rules))
