use Rattle.std.proofs.Common.{Some, ap}
use Rattle.tsremux_cli.proofs.Remuxed.{held}
use Rattle.tsremux_cli.proofs.muxing.mux_bytes.Goals as goal

pub returns : goal.returns
returns g c = held _ _ _ _ _ (ap (λ s. Some s.now) c.new-job.ensures.inner) c.mux_job.ensures
