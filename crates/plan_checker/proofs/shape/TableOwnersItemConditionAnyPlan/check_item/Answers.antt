use Rattle.std.proofs.Common.{length, arith, ap}
use Rattle.plan_checker.proofs.Counts.{few_tables}
use Rattle.plan_checker.proofs.shape.TableOwnersItemConditionAnyPlan.check_item.Goals as goal

pub overflow_cast-i : goal.overflow_cast-i
overflow_cast-i g c = record { fits = omega (arith, few_tables c.args.plans.now.description.now c.streams.ensures.ranges) }

pub overflow_add-before-2 : goal.overflow_add-before-2
overflow_add-before-2 g c =
    let few = few_tables c.args.plans.now.description.now c.streams.ensures.ranges in
    record {
      fits =
          omega (
            arith,
            few,
            c.streams.ensures.ranges.most_streams,
            c.streams.ensures.ranges.most_programs,
            ap length c.streams.ensures.value,
            ap length c.programs.ensures.value,
          );
    }

pub owner-requires : goal.owner-requires
owner-requires g c =
    let few = few_tables c.args.plans.now.description.now c.streams.ensures.ranges in
    omega (
      arith,
      few,
      c.streams.ensures.ranges.most_streams,
      c.streams.ensures.ranges.most_programs,
      ap length c.streams.ensures.value,
      ap length c.programs.ensures.value,
    )
