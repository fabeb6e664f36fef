use Rattle.std.proofs.Common.{arith}
use Rattle.plan_checker.proofs.Counts.{few_tables}
use Rattle.plan_page.proofs.plan_items.plan_items.Goals as goal

pub push_tables-requires-clause-few : goal.push_tables-requires-clause-few
push_tables-requires-clause-few c = omega (arith, few_tables c.args.description.now c.keeps_ranges.ensures)
