use Rattle.std.proofs.Common.{◌≡◌, ◌∙◌, ◌-◌, ℕ, length, min, take, ap, arith}
use Rattle.std.proofs.lemmas.List.{take_min}
use Rattle.packet_sync.proofs.five_search.searched_part.Goals as goal

pub returns : goal.returns
returns c =
    let piece = c.args.piece.now in
    let least : c.min.result ≡ min (4194304 - c.args.size) (length piece) = omega (arith, c.min.ensures) in
    c.split_at.ensures.front ∙ ap (λ (n : ℕ). take n piece) least ∙ take_min (4194304 - c.args.size) piece
