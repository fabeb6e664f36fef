use Rattle.std.proofs.Common.{◌≡◌, ◌++◌, map, filter, drop}
use Rattle.stream_jobs.specs.Rates.{clock_recurs}
use Rattle.stream_jobs.proofs.rates.own_clocks.Given as goal

abbrev pub invariant-loop-program : goal.invariant-loop-program
invariant-loop-program l = map clock_recurs (filter (λ p. p.has_clock) l.programs)
    ≡ l.clocks.items ++ map clock_recurs (filter (λ p. p.has_clock) (drop l.program-index l.programs))
