use Rattle.std.proofs.Common.{◌≡◌, ◌*◌, ◌^◌, ◌≤◌, take}
use Rattle.plan_maker.specs.Loads.{total, clock_load}
use Rattle.plan_maker.proofs.reason.load.pcrs_load.Given as goal

abbrev pub invariant-loop-i : goal.invariant-loop-i
invariant-loop-i l = record {
  summed : l.total ≡ total (clock_load l.description l.rate) (take l.i l.description.programs);
  bound : l.total ≤ l.i * 2 ^ 90;
}
