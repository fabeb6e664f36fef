use Rattle.std.proofs.Common.{◌≡◌, ◌+◌, ◌-◌, ◌++◌, ◌∷◌, [], length, get_or, refl, ap, ◌∙◌, arith, rules}
use Rattle.std.proofs.lemmas.List.{get_or_default}
use Rattle.slot_plan.specs.declared.slot.Slot.TheVariants.{Null}
use Rattle.slot_plan.specs.Links.{slot_key}
use Rattle.slot_plan.proofs.PeriodLinks.{links_none, links_more}
use Rattle.slot_plan.proofs.links.links_of.Goals as goal

pub loop-back-init : goal.loop-back-init
loop-back-init g c = rw c.new-links.ensures.items (links_none c.args.slots.now _ refl)

pub loop-back-preserved : goal.loop-back-preserved
loop-back-preserved g c =
    let pushed : c.push.new.self.items ≡ c.loop-back.links.items ++ get_or c.loop-back.first c.slot_key-key.result 0 ∷ [] = search rules in
    rw pushed
    (links_more c.args.slots.now c.loop-back.links.items c.loop-back.first c.loop-back.back (length c.args.slots.now - 1 - c.loop-back.back)
    c.slot_key-key.result (omega (arith, c.loop-back-test.true)) refl (c.slot_key-key.ensures.key ∙ ap slot_key
    (get_or_default c.args.slots.now (length c.args.slots.now - 1 - c.loop-back.back) _ Null (omega (arith, c.loop-back-test.true))))
    c.slot_key-key.ensures.bound c.loop-back.invariant)
