use Rattle.std.proofs.Common.{◌++◌, ◌∙◌, List, ℕ, ap, arith}
use Rattle.packet_sync.proofs.Fronts.{front_came}
use Rattle.packet_sync.proofs.packet_search.lengthen_front.Goals as goal

pub returns : goal.returns
returns c = λ stream e.
    let front = c.args.front.now.items in
    c.in_ok-extend_from_slice.ensures.items ∙ ap (λ (r : List ℕ). front ++ r) c.split_at.ensures.front
    ∙ front_came front stream c.args.piece.now c.min.result e (omega (arith, c.min.ensures, c.saturating_sub-missing.ensures, c.len.ensures))
