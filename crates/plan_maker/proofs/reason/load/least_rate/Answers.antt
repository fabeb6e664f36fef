use Rattle.std.proofs.Common.{◌+◌, arith}
use Rattle.plan_maker.proofs.LoadSums.{still_full, is_least_rate}
use Rattle.plan_maker.proofs.reason.load.least_rate.Goals as goal

pub least_rate-requires-clause-monotone : goal.least_rate-requires-clause-monotone
least_rate-requires-clause-monotone c = still_full c.args.description.now

pub returns : goal.returns
returns c = is_least_rate c.args.description.now (c.bits_per_second-from.result + 1) c.least_rate.result
    (omega (arith, c.bits_per_second-from.ensures.value, c.rate.ensures)) c.least_rate.ensures.least c.least_rate.ensures.refused
