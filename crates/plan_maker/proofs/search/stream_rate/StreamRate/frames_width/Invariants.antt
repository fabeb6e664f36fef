use Rattle.std.proofs.Common.{◌≡◌, ◌+◌}
use Rattle.plan_maker.specs.Joined.{least_of}
use Rattle.plan_maker.specs.StreamNeeds.{stream_view, frame_width}
use Rattle.plan_maker.proofs.search.stream_rate.StreamRate.frames_width.Given as goal

abbrev pub invariant-loop-before : goal.invariant-loop-before
invariant-loop-before l =
    l.width ≡ least_of l.fn.first l.before (λ before. frame_width (stream_view l.self) l.period l.count l.framing (before + 1))
