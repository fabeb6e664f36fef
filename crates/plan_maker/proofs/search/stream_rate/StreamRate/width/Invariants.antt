use Rattle.std.proofs.Common.{◌≡◌, ◌+◌}
use Rattle.plan_maker.specs.Joined.{least_of}
use Rattle.plan_maker.specs.StreamNeeds.{stream_view, main_width, row_width}
use Rattle.plan_maker.proofs.search.stream_rate.StreamRate.width.Given as goal

abbrev pub invariant-loop-before : goal.invariant-loop-before
invariant-loop-before l =
    l.width ≡ least_of (main_width (stream_view l.self) l.period l.count) l.before (λ before. row_width (stream_view l.self) l.period l.count (before + 1))
