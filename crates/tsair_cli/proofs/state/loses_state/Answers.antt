use Rattle.std.proofs.Common.{refl, ◌∙◌}
use Rattle.tsair_cli.proofs.States.{lacking, saved}
use Rattle.tsair_cli.proofs.state.loses_state.Goals as goal

pub returns-in-Ok : goal.returns-in-Ok
returns-in-Ok g c = saved _ _ _ _ _ _ _ _ (c.as_bytes.ensures.value ∙ c.in-Ok.ensures) c.save_named.ensures refl

pub returns-in-Err : goal.returns-in-Err
returns-in-Err g c = lacking _ _ _ _ _ c.report_of.ensures
