use Rattle.std.proofs.Common.{refl}
use Rattle.tsremux_cli.proofs.ByHand.{none_muxed}
use Rattle.tsremux_cli.proofs.by_hand.mux_by_hand.Goals as goal

pub returns-in-Err : goal.returns-in-Err
returns-in-Err g c = none_muxed _ _ _ _ _ _ c.in-Err.ensures refl
