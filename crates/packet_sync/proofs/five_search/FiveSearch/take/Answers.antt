use Rattle.std.proofs.Common.{◌≡◌, ◌-◌, ◌∙◌, ℕ, take, sym, ap, subst}
use Rattle.packet_sync.specs.PacketSearch.{FiveView, IsSearchOf}
use Rattle.packet_sync.proofs.Fronts.{piece_searched}
use Rattle.packet_sync.proofs.five_search.FiveSearch.take.Goals as goal

pub returns : goal.returns
returns c = λ bytes s.
    let piece = c.args.piece.now in
    let next = c.searched_part-next.result.now in
    piece_searched bytes piece next c.args.self.now c.search_all.new.self
    (c.searched_part-next.ensures ∙ ap (λ (f : FiveView). take (4194304 - f.size) piece) c.self.view_is) c.in_ok-search_all.ensures s
