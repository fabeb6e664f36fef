use Rattle.std.proofs.Common.{◌≡◌, ◌<◌, ◌+◌, ◌-◌, ◌^◌, [], length}
use Rattle.std.specs.Prelude.{IfSome}
use Rattle.devices.specs.Devices.{between}
use Rattle.tsair_cli.specs.Fronts.{Grows, IsLined, ended_plans}
use Rattle.tsair_cli.proofs.front.read_front.Given as goal

abbrev pub invariant-lines : goal.invariant-lines
invariant-lines g l = record {
  grows : Grows (between (record { bytes = g.R.Read.remaining l.fn.input; failed = g.R.Source.fault_count l.fn.input })
      (record { bytes = g.R.Read.remaining l.input; failed = g.R.Source.fault_count l.input })) [] l.text.items;
  lined : IsLined l.text.items;
  ended : l.ended ≡ ended_plans l.text.items;
  few : IfSome l.ended (λ n. n < 2);
}

abbrev pub decreases-lines : goal.decreases-lines
decreases-lines g l = 2 ^ 22 + 1 - length l.text.items
