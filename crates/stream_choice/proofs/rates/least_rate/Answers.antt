use Rattle.stream_choice.proofs.SlowerOutputs.{still_full}
use Rattle.stream_choice.proofs.rates.least_rate.Goals as goal

pub least_rate-requires-clause-monotone : goal.least_rate-requires-clause-monotone
least_rate-requires-clause-monotone c = still_full c.args.shares.now c.args.recurring.now
