-- Units that are moved one by one.
use Rattle.std.proofs.Common.{Some, List, [], ◌∷◌, refl, ap}
use Rattle.pes_packet.specs.AccessUnits.{AccessUnit}
use Rattle.es_units.specs.Laws.{MovedInTurn}
use Rattle.es_moments.specs.Stamps.{dts_at, dts_after, unit_at, moved}

pub moved_in_turn : MovedInTurn
unfolding moved dts_after
moved_in_turn base before [] more = refl
moved_in_turn base before (u ∷ us) more =
    ap (λ (xs : List AccessUnit). unit_at base before u ∷ xs) (moved_in_turn base (Some (dts_at base before u.dts)) us more)
