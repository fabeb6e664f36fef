use Rattle.std.proofs.Common.{◌≡◌, drop}
use Rattle.page_curves.specs.Scale.{scale_among}
use Rattle.page_curves.proofs.scale.scale_among.Given as goal

abbrev pub invariant-loop-scale : goal.invariant-loop-scale
invariant-loop-scale l = scale_among (drop l.scale-index l.scales) l.greatest ≡ scale_among l.scales l.greatest
