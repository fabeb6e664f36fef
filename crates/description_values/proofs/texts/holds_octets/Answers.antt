use Rattle.std.proofs.Common.{arith, ◌<◌}
use Rattle.std.proofs.lemmas.List.Elements.{All-from_get_or}
use Rattle.description_values.proofs.Octets.{octets_of_All}
use Rattle.description_values.proofs.texts.holds_octets.Goals as goal

pub returns : goal.returns
returns c = octets_of_All c.args.bytes.now (All-from_get_or (λ b. b < 256) c.args.bytes.now 0 (λ i within. let fits = c.type_inv.bytes i in omega arith))
