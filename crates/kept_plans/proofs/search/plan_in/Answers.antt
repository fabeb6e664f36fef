use Rattle.kept_plans.proofs.Kept.{fits, found_keeps}
use Rattle.kept_plans.proofs.search.plan_in.Goals as goal

pub plan_around-requires : goal.plan_around-requires
plan_around-requires g c =
    fits c.args.old.now c.args.description.now c.args.given c.args.period _ _ c.in_ok-fixed.ensures c.deref-2.ensures.value c.requires

pub returns-clause-kept : goal.returns-clause-kept
returns-clause-kept g c =
    found_keeps c.args.old.now c.args.description.now c.args.given c.args.period _ _ _ c.in_ok-fixed.ensures c.deref-2.ensures.value
    c.plan_around.ensures.kept c.plan_around.ensures.length
