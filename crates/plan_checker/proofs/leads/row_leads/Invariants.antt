use Rattle.std.proofs.Common.{◌≡◌, ◌+◌, ◌-◌}
use Rattle.unit_timing.specs.Allowances.{allowance_rows}
use Rattle.slot_plan.specs.Claims.{peaked_share}
use Rattle.slot_plan.specs.Conditions.{entries_from, lead_entry}
use Rattle.plan_checker.specs.Failing.{after, search_of}
use Rattle.plan_checker.proofs.leads.row_leads.Given as goal

abbrev pub invariant-loop-before : goal.invariant-loop-before
invariant-loop-before g l =
    let entry = lead_entry l.condition l.plans.description.now.rate l.way.drain (peaked_share l.plans.plan.now l.i l.way.peak) l.i l.stream in
    after (search_of l.fn.search) (entries_from entry 1 (allowance_rows l.stream.allowance))
    ≡ after (search_of l.search) (entries_from entry (l.before + 1) (allowance_rows l.stream.allowance - l.before))
