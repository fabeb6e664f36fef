use Rattle.std.proofs.Common.{◌∙◌, Bool, ap, sym, subst}
use Rattle.packet_sync.specs.NoStreams.{no_stream_by}
use Rattle.packet_sync.specs.PacketSearch.{IsSearched, SearchView}
use Rattle.packet_sync.proofs.Fronts.{form_known, no_stream_is}
use Rattle.packet_sync.proofs.packet_search.PacketSearch.no_stream.Goals as goal

pub returns : goal.returns
returns c = λ bytes so.
    let inside = subst (λ (s : SearchView). IsSearched bytes s) (sym c.self.view_is) so in
    no_stream_is bytes c.other_packets.result c.lacks_five.result c.is_known.result c.has_five.result c.form_of-form.result c.no_stream_by.result
    (c.other_packets.ensures bytes so) (c.lacks_five.ensures bytes inside.search_is)
    (c.form_of-form.ensures ∙ form_known bytes c.deref.result.now (c.deref.ensures.value ∙ inside.front_is))
    c.is_known.ensures (c.has_five.ensures bytes inside.search_is)
    (c.no_stream_by.ensures ∙ ap (λ (x : Bool). no_stream_by c.other_packets.result x c.form_of-form.result) c.lacks_by-lacks.ensures)
