use Rattle.std.proofs.Common.{arith}
use Rattle.plan_checker.proofs.Rounds.{few_places}
use Rattle.plan_page.proofs.table_items.table_item.Goals as goal

pub overflow_cast-result-2 : goal.overflow_cast-result-2
overflow_cast-result-2 c = record { fits = omega (arith, c.round_packets.ensures, few_places c.args.description.now c.requires.ranges c.args.table) }
