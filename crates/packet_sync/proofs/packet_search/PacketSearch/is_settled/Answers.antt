use Rattle.std.proofs.Common.{◌∙◌, take, sym, subst}
use Rattle.packet_sync.specs.PacketSearch.{IsSearchOf, SearchView}
use Rattle.packet_sync.proofs.Fronts.{settled}
use Rattle.packet_sync.proofs.packet_search.PacketSearch.is_settled.Goals as goal

pub returns-in-None : goal.returns-in-None
returns-in-None c = λ bytes more so is_so.
    let five = subst (λ (s : SearchView). IsSearchOf (take 4194304 bytes) s.five) (sym c.self.view_is) so.search_is in
    settled bytes more (sym c.in-None.is ∙ c.other_packets.ensures bytes so) (sym (c.lacks_five.ensures bytes five) ∙ is_so)
