use Rattle.std.proofs.Common.{rules}
use Rattle.std.proofs.lemmas.Fmt.{length-decimal-le}
use Rattle.tsmux_cli.proofs.finding_lines.put_number.Goals as goal

pub write_digits-requires : goal.write_digits-requires
write_digits-requires c = search (rules, length-decimal-le 20)

pub returns-clause-within : goal.returns-clause-within
returns-clause-within c = search (rules, length-decimal-le 20)
