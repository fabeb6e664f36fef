use Rattle.std.proofs.Common.{◌∙◌, ap}
use Rattle.packet_sync.specs.PacketSearch.{SearchView}
use Rattle.packet_sync.proofs.Fronts.{packets_known}
use Rattle.packet_sync.proofs.packet_search.PacketSearch.other_packets.Goals as goal

pub returns : goal.returns
returns c = λ bytes so.
    packets_known bytes c.deref.result.now c.other_packets.result
    (c.deref.ensures.value ∙ ap (λ (s : SearchView). s.front) c.self.view_is ∙ so.front_is) c.other_packets.ensures.value c.other_packets.ensures.front
