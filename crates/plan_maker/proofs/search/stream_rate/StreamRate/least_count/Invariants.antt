use Rattle.std.proofs.Common.{◌≡◌, ◌+◌}
use Rattle.plan_maker.specs.Joined.{greatest_of}
use Rattle.plan_maker.specs.StreamNeeds.{stream_view, steady_count, row_count}
use Rattle.plan_maker.proofs.search.stream_rate.StreamRate.least_count.Given as goal

abbrev pub invariant-loop-before : goal.invariant-loop-before
invariant-loop-before l =
    l.count ≡ greatest_of (steady_count (stream_view l.self) l.period) l.before (λ before. row_count (stream_view l.self) l.period (before + 1))
