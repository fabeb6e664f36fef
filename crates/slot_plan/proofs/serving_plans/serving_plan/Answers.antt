use Rattle.slot_plan.proofs.NamedSlots.{some_slot_law, named_law, named_in_run_law, second_law}
use Rattle.slot_plan.proofs.serving_plans.serving_plan.Goals as goal

pub returns-clause-some_slot : goal.returns-clause-some_slot
returns-clause-some_slot c = some_slot_law

pub returns-clause-named : goal.returns-clause-named
returns-clause-named c = named_law

pub returns-clause-named_in_run : goal.returns-clause-named_in_run
returns-clause-named_in_run c = named_in_run_law

pub returns-clause-second : goal.returns-clause-second
returns-clause-second c = second_law
