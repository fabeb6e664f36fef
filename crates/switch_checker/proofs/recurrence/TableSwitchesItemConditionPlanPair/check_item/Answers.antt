use Rattle.std.proofs.Common.{arith}
use Rattle.plan_checker.proofs.Counts.{few_tables}
use Rattle.plan_checker.proofs.Rounds.{few_places}
use Rattle.switch_checker.proofs.recurrence.TableSwitchesItemConditionPlanPair.check_item.Goals as goal

pub overflow_cast-i : goal.overflow_cast-i
overflow_cast-i g c = record { fits = omega (arith, few_tables c.args.plans.now.description.now c.keeps_ranges.ensures) }

pub overflow_cast-i-2 : goal.overflow_cast-i-2
overflow_cast-i-2 g c = record { fits = omega (arith, few_tables c.args.plans.now.description.now c.keeps_ranges.ensures) }

pub greatest_gap_across-gap-requires-clause-near : goal.greatest_gap_across-gap-requires-clause-near
greatest_gap_across-gap-requires-clause-near g c = omega (arith, few_places c.args.plans.now.description.now c.keeps_ranges.ensures c.args.i)
