use Rattle.std.proofs.Common.{◌≤◌, length, map, arith, sym, ◌∙◌}
use Rattle.plan_maker.specs.Demands.{demand_view}
use Rattle.plan_maker.specs.Searches.{tasks_from}
use Rattle.plan_maker.proofs.SearchedSlots.{after_none, one_task, no_task, all_tasks}
use Rattle.plan_maker.proofs.search.tasks_of.Goals as goal

pub loop-i-init : goal.loop-i-init
loop-i-init g c = rw c.new-tasks.ensures.items (after_none (tasks_from c.args.period 0 (map demand_view c.args.demands.now)))

pub returns-in-None : goal.returns-in-None
returns-in-None g c =
    no_task c.args.period c.loop-i.i c.args.demands.now _ c.loop-i.tasks.items c.loop-i.invariant c.index-demands-i.result c.loop-i-test.true
    c.index-demands-i.is (sym c.new.ensures ∙ c.in-None.is)

pub loop-i-preserved : goal.loop-i-preserved
loop-i-preserved g c =
    rw c.in_ok-push-in-Some.ensures.items
    (one_task c.args.period c.loop-i.i c.args.demands.now _ c.loop-i.tasks.items c.loop-i.invariant c.index-demands-i.result c.in-Some.task
    c.loop-i-test.true c.index-demands-i.is (sym c.new.ensures ∙ c.in-Some.is))

pub returns : goal.returns
returns g c =
    let over : length c.args.demands.now ≤ c.loop-i.i = omega (arith, c.loop-i-test.false) in
    all_tasks c.args.period c.loop-i.i c.args.demands.now (tasks_from c.args.period 0 (map demand_view c.args.demands.now)) c.loop-i.tasks.items
    c.loop-i.invariant over
