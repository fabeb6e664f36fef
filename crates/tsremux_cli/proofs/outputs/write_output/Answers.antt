use Rattle.tsremux_cli.proofs.Written.{concluded}
use Rattle.tsremux_cli.proofs.outputs.write_output.Goals as goal

pub returns : goal.returns
returns g c = concluded _ _ _ _ _ _ _ _ _ _ c.is_quiet.ensures c.write_packets_for-remuxed.ensures c.conclude.ensures
