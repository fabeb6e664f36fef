use Rattle.std.proofs.Common.{sym}
use Rattle.slot_plan.proofs.ConditionLists.{serves}
use Rattle.plan_checker.specs.Refusals.{entry_of}
use Rattle.switch_checker.proofs.SwitchEntries.{second_fails, second_serves}
use Rattle.switch_checker.proofs.succession.switch_conditions.Goals as goal

pub returns-in-Some : goal.returns-in-Some
returns-in-Some g c =
    second_fails c.args.description.now c.args.first.now c.args.second.now (entry_of c.in-Some.refusal) (rw c.in-Some.is at c.first_failing.ensures)

pub joint-requires-clause-shaped : goal.joint-requires-clause-shaped
joint-requires-clause-shaped g c = (serves c.args.description.now c.args.first.now c.requires.serving).shape

pub joint-requires-clause-next_shaped : goal.joint-requires-clause-next_shaped
joint-requires-clause-next_shaped g c = (serves c.args.description.now c.args.second.now (sym (rw c.in-None.is at c.first_failing.ensures))).shape

pub joint-requires-clause-led : goal.joint-requires-clause-led
joint-requires-clause-led g c = (serves c.args.description.now c.args.first.now c.requires.serving).leads

pub joint-requires-clause-next_led : goal.joint-requires-clause-next_led
joint-requires-clause-next_led g c = (serves c.args.description.now c.args.second.now (sym (rw c.in-None.is at c.first_failing.ensures))).leads

pub returns-in-None : goal.returns-in-None
returns-in-None g c = second_serves c.args.description.now c.args.first.now c.args.second.now _ (rw c.in-None.is at c.first_failing.ensures) c.joint.ensures
