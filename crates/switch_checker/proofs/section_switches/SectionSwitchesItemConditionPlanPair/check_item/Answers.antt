use Rattle.std.proofs.Common.{arith}
use Rattle.plan_checker.proofs.Counts.{few_tables}
use Rattle.switch_checker.proofs.section_switches.SectionSwitchesItemConditionPlanPair.check_item.Goals as goal

pub overflow_cast-i : goal.overflow_cast-i
overflow_cast-i g c = record { fits = omega (arith, few_tables c.args.plans.now.description.now c.keeps_ranges.ensures) }

pub check_distance-requires-clause-few : goal.check_distance-requires-clause-few
check_distance-requires-clause-few g c = omega (arith, few_tables c.args.plans.now.description.now c.keeps_ranges.ensures)
