use Rattle.std.proofs.Common.{◌∙◌}
use Rattle.description_values.proofs.MemberKeys.{all_keys-members_view}
use Rattle.description_keys.proofs.known_keys.has_keys_of.Goals as goal

pub returns : goal.returns
returns c = c.has_listed_keys.ensures ∙ all_keys-members_view _ c.args.table.now.entries
