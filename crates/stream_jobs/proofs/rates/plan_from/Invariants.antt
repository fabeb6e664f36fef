use Rattle.stream_jobs.specs.Rates.{IsUnserved}
use Rattle.stream_jobs.proofs.TriedRates.{ArePassed}
use Rattle.stream_jobs.proofs.rates.plan_from.Given as goal

-- No rate that was tried is served.
abbrev pub invariant-loop-tried : goal.invariant-loop-tried
invariant-loop-tried l = ArePassed (IsUnserved l.draft.options.now l.draft.input.now) l.first l.tried l.rate
