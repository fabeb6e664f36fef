use Rattle.std.proofs.Common.{◌≡◌, ◌+◌, ◌-◌, ◌^◌, length}
use Rattle.devices.specs.Devices.{between}
use Rattle.tsair_cli.specs.Fronts.{Grows}
use Rattle.tsair_cli.proofs.front.read_line.Given as goal

abbrev pub invariant-bytes : goal.invariant-bytes
invariant-bytes g l = record {
  size : length l.byte ≡ 1;
  grows : Grows (between (record { bytes = g.R.Read.remaining l.fn.input; failed = g.R.Source.fault_count l.fn.input })
      (record { bytes = g.R.Read.remaining l.input; failed = g.R.Source.fault_count l.input })) l.fn.text.items l.text.items;
}

abbrev pub decreases-bytes : goal.decreases-bytes
decreases-bytes g l = 2 ^ 22 + 1 - length l.text.items
