use Rattle.std.proofs.Common.{◌≡◌, ◌*◌, ◌^◌, ◌≤◌, take}
use Rattle.plan_maker.specs.Loads.{total, stream_load}
use Rattle.plan_maker.proofs.reason.load.streams_load.Given as goal

abbrev pub invariant-loop-i : goal.invariant-loop-i
invariant-loop-i l = record {
  summed : l.total ≡ total (λ _ s. stream_load l.rate s) (take l.i l.description.streams);
  bound : l.total ≤ l.i * 2 ^ 90;
}
