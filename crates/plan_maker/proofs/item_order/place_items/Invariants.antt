use Rattle.std.proofs.Common.{◌≡◌, ◌-◌, ◌^◌, length}
use Rattle.plan_maker.specs.PlainPlan.{by_spacing, placed}
use Rattle.plan_maker.proofs.item_order.place_items.Given as goal

abbrev pub invariant-loop-exponent : goal.invariant-loop-exponent
invariant-loop-exponent l = record {
  power : l.power ≡ 2 ^ l.exponent;
  rest : placed (by_spacing l.exponent (17 - l.exponent) l.items) l.slots ≡ placed (by_spacing 0 17 l.items) l.fn.slots;
  same : length l.slots ≡ length l.fn.slots;
}
