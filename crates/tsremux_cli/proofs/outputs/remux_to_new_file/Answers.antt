use Rattle.std.proofs.Common.{refl}
use Rattle.tsremux_cli.proofs.Written.{writes_new}
use Rattle.tsremux_cli.proofs.outputs.remux_to_new_file.Goals as goal

pub returns : goal.returns
returns g c = writes_new _ _ _ _ _ _ _ _ _ _ _ _ _ c.write_packets_for-remuxed.ensures c.is_quiet.ensures c.finish.ensures refl
