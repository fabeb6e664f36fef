use Rattle.std.proofs.Common.{◌++◌, ◌∷◌, ℕ, List, [], subst}
use Rattle.std.specs.Prelude.{OnOk}
use Rattle.capture.specs.Captures.{IsStamped}
use Rattle.capture.proofs.settling.take_stamped.Goals as goal

pub returns : goal.returns
returns g c = λ first parts taken.
    subst (λ (b : List ℕ). OnOk c.take_stamped.result (g.T.PartTaker.has_taken first (parts ++ IsStamped c.args.head b ∷ []) c.take_stamped.new.self))
    c.in-Some.ensures.cases.same (c.take_stamped.ensures first parts taken)
