use Rattle.std.proofs.Common.{◌≡◌, ◌+◌, ◌-◌}
use Rattle.unit_timing.specs.Allowances.{allowance_rows}
use Rattle.slot_plan.specs.Conditions.{entries_from}
use Rattle.plan_checker.specs.Failing.{after, search_of}
use Rattle.switch_checker.specs.SwitchShares.{deadline_entry}
use Rattle.switch_checker.proofs.leads.row_switches.Given as goal

abbrev pub invariant-loop-before : goal.invariant-loop-before
invariant-loop-before l =
    after (search_of l.fn.search) (entries_from (deadline_entry l.condition l.rate l.drain l.shares l.i l.stream) 1 (allowance_rows l.stream.allowance))
    ≡ after (search_of l.search)
    (entries_from (deadline_entry l.condition l.rate l.drain l.shares l.i l.stream) (l.before + 1) (allowance_rows l.stream.allowance - l.before))
