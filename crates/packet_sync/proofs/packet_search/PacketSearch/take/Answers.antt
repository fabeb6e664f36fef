use Rattle.std.proofs.Common.{sym, subst}
use Rattle.packet_sync.specs.PacketSearch.{IsSearched, SearchView}
use Rattle.packet_sync.proofs.packet_search.PacketSearch.take.Goals as goal

pub returns : goal.returns
returns c = λ bytes so.
    let begun = subst (λ (s : SearchView). IsSearched bytes s) (sym c.self.view_is) so in
    record { front_is = c.in_ok-lengthen_front.ensures bytes begun.front_is; search_is = c.in_ok-take.ensures bytes begun.search_is }
