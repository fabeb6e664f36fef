use Rattle.std.proofs.Common.{arith}
use Rattle.plan_checker.proofs.Counts.{few_tables}
use Rattle.plan_checker.proofs.Rounds.{few_places}
use Rattle.plan_maker.proofs.reason.limits.table_reason.Goals as goal

pub overflow_mul-packets : goal.overflow_mul-packets
overflow_mul-packets c = record { fits = omega (arith, few_places c.args.description.now c.keeps_ranges.ensures c.args.t) }

pub overflow_cast-result : goal.overflow_cast-result
overflow_cast-result c = record { fits = omega (arith, few_tables c.args.description.now c.keeps_ranges.ensures) }

pub least_limit-requires : goal.least_limit-requires
least_limit-requires c = omega (arith, few_places c.args.description.now c.keeps_ranges.ensures c.args.t)
