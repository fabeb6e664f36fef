use Rattle.std.proofs.Common.{arith}
use Rattle.plan_checker.proofs.Rounds.{few_places}
use Rattle.plan_maker.proofs.spacing.table_room.Goals as goal

pub overflow_mul-round : goal.overflow_mul-round
overflow_mul-round c = record { fits = omega (arith, few_places c.args.description.now c.keeps_ranges.ensures c.args.t) }
