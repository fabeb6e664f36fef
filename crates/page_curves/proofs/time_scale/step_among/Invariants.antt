use Rattle.std.proofs.Common.{◌≡◌, drop}
use Rattle.page_curves.specs.TimeScale.{step_among}
use Rattle.page_curves.proofs.time_scale.step_among.Given as goal

abbrev pub invariant-loop-step : goal.invariant-loop-step
invariant-loop-step l = step_among (drop l.step-index l.steps) l.length ≡ step_among l.steps l.length
