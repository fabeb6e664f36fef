use Rattle.std.proofs.Common.{◌≡◌, ◌++◌, drop, string_bytes}
use Rattle.std.specs.Prelude.{flat_map}
use Rattle.plan_page.specs.Lanes.{lane}
use Rattle.plan_page.proofs.lanes.write_each_lane.Given as goal

abbrev pub invariant-loop-item : goal.invariant-loop-item
invariant-loop-item l = string_bytes l.text ++ flat_map (lane l.slots) (drop l.item-index l.items) ≡ string_bytes l.fn.text ++ flat_map (lane l.slots) l.items
