use Rattle.std.proofs.Common.{◌≡◌, ◌∙◌, ◌+◌, ◌++◌, ◌∷◌, [], length, arith}
use Rattle.std.proofs.lemmas.List.{length-append}
use Rattle.kept_plans.proofs.search.place_around.Goals as goal

pub loop-at-preserved : goal.loop-at-preserved
loop-at-preserved g c =
    let one : length (c.loop-at.slots.items ++ c.in-Ok.slot ∷ []) ≡ length c.loop-at.slots.items + 1 =
    length-append c.loop-at.slots.items (c.in-Ok.slot ∷ []) in
    rw c.in_ok-push-in-Ok.ensures.items (omega (arith, c.loop-at.invariant, one))

pub returns-in-None : goal.returns-in-None
returns-in-None g c =
    let end : c.loop-at.at ≡ length c.args.fixed.now = omega arith in
    c.loop-at.invariant ∙ end
