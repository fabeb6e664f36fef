use Rattle.std.proofs.Common.{◌≡◌, ◌++◌, drop, string_bytes}
use Rattle.std.specs.Prelude.{flat_map}
use Rattle.plan_page.specs.Lanes.{quarter}
use Rattle.plan_page.proofs.lanes.write_quarters.Given as goal

abbrev pub invariant-loop-quarter : goal.invariant-loop-quarter
invariant-loop-quarter l = string_bytes l.text ++ flat_map (quarter l.rate l.count) (drop l.quarter-index l.quarters) ≡ string_bytes l.fn.text
    ++ flat_map (quarter l.rate l.count) l.quarters
