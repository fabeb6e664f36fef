use Rattle.std.proofs.Common.{◌≡◌, ◌+◌, ◌++◌, ◌∷◌, [], length, arith, ap}
use Rattle.std.proofs.lemmas.List.{length-append}
use Rattle.plan_maker.specs.Placements.{missing, placed_in}
use Rattle.plan_maker.proofs.PlacedSlots.{none_placed, one_more, one_missed}
use Rattle.plan_maker.proofs.search.placement.place.Goals as goal

pub loop-at-init : goal.loop-at-init
loop-at-init g c = record { placed = none_placed c.args.period c.args.tasks.now c.args.slots.now.items; length = omega arith }

pub loop-at-preserved : goal.loop-at-preserved
loop-at-preserved g c =
    let one : length (c.loop-at.slots.items ++ c.in-Ok.slot ∷ []) ≡ length c.loop-at.slots.items + 1 =
    length-append c.loop-at.slots.items (c.in-Ok.slot ∷ []) in
    record {
      placed = rw c.in_ok-push-in-Ok.ensures.items
          (one_more c.args.period c.args.tasks.now c.loop-at.at c.args.slots.now.items c.loop-at.slots.items c.loop-at.tasks c.loop-at.invariant.placed
          c.in-Ok.slot c.next_slot.new.tasks c.in-Ok.ensures);
      length = rw c.in_ok-push-in-Ok.ensures.items (omega (arith, c.loop-at.invariant.length, one));
    }

pub returns-in-Err-clause-slots : goal.returns-in-Err-clause-slots
returns-in-Err-clause-slots g c = (one_missed c.args.period c.args.tasks.now c.loop-at.at c.args.slots.now.items c.loop-at.slots.items c.loop-at.tasks
    c.loop-at.invariant.placed
    c.in-Err.missed
    c.next_slot.new.tasks
    c.loop-at-test.true
    c.in-Err.ensures).slots_are

pub returns-in-Err-clause-tasks : goal.returns-in-Err-clause-tasks
returns-in-Err-clause-tasks g c = (one_missed c.args.period c.args.tasks.now c.loop-at.at c.args.slots.now.items c.loop-at.slots.items c.loop-at.tasks
    c.loop-at.invariant.placed
    c.in-Err.missed
    c.next_slot.new.tasks
    c.loop-at-test.true
    c.in-Err.ensures).tasks_are

pub returns-in-Err-clause-missing : goal.returns-in-Err-clause-missing
returns-in-Err-clause-missing g c = ap (missing (placed_in c.args.period c.args.tasks.now c.args.period).tasks)
    (one_missed c.args.period c.args.tasks.now c.loop-at.at c.args.slots.now.items c.loop-at.slots.items c.loop-at.tasks c.loop-at.invariant.placed
    c.in-Err.missed
    c.next_slot.new.tasks
    c.loop-at-test.true
    c.in-Err.ensures).missed_is
