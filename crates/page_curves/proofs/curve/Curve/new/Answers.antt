use Rattle.std.proofs.Common.{refl}
use Rattle.page_curves.proofs.Widening.{empty_curve}
use Rattle.page_curves.proofs.curve.Curve.new.Goals as goal

pub returns : goal.returns
returns c = empty_curve _ refl c.new.ensures.items
