use Rattle.std.proofs.Common.{arith}
use Rattle.plan_checker.proofs.Rounds.{few_places}
use Rattle.plan_checker.proofs.section_distances.half_round.Goals as goal

pub returns-clause-bound : goal.returns-clause-bound
returns-clause-bound c =
    omega (arith, few_places c.args.description.now c.keeps_ranges.ensures c.args.table, c.round_packets.ensures, c.saturating_sub.ensures)
