use Rattle.std.proofs.Common.{◌≡◌, ◌+◌}
use Rattle.own_slots.specs.Extremes.{greatest}
use Rattle.stream_choice.specs.Frames.{framed_bytes}
use Rattle.stream_choice.proofs.frames.most_waiting.Given as goal

abbrev pub invariant-loop-before : goal.invariant-loop-before
invariant-loop-before l = l.most ≡ greatest l.before (λ before. framed_bytes l.needs l.framing l.lead l.share l.sum (before + 1))
