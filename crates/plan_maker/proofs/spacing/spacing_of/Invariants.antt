use Rattle.std.proofs.Common.{◌≡◌, ◌^◌, ◌≤◌}
use Rattle.own_slots.specs.Extremes.{greatest}
use Rattle.plan_maker.specs.Spacings.{within}
use Rattle.plan_maker.proofs.spacing.spacing_of.Given as goal

abbrev pub invariant-loop-exponent : goal.invariant-loop-exponent
invariant-loop-exponent l = record {
  power : l.power ≡ 2 ^ l.exponent;
  spacing : l.spacing ≡ greatest l.exponent (λ e. within l.room (2 ^ e));
  few : l.spacing ≤ 65536;
}
