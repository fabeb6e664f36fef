use Rattle.std.proofs.Common.{◌≡◌, true, false, drop, refl, sym, ap, subst}
use Rattle.job_run.specs.Streams.{CarriedView, IsCarriedTo, PacketsView}
use Rattle.job_run.proofs.Carrying.{carried_as, no_more, stream_ended}
use Rattle.job_run.proofs.carried_stream.CarriedStream.end.Goals as goal

pub returns : goal.returns
returns c = λ bytes so.
    let held = c.as_slice.result.now in
    let at = c.in_ok-take_decided.field-0 in
    let p : PacketsView =
    record { notes = c.packets.inside.notes; log = c.packets.inside.log; demux = c.packets.inside.demux; size = c.packets.inside.size } in
    let same : p ≡ c.take_decided.new.self = c.packets.view_is in
    let begun : IsCarriedTo bytes true (record { held = held; packets = c.self.inside.packets }) =
    no_more bytes (record { held = held; packets = c.self.inside.packets })
    (carried_as bytes bytes _ _ (record { held = held; packets = c.self.inside.packets }) refl (sym c.as_slice.ensures.value) refl
    (subst (λ (x : CarriedView). IsCarriedTo bytes false x) (sym c.self.view_is) so)) in
    let parts = c.into_parts-slips.ensures in
    stream_ended bytes held at p c.into_parts-slips.result.0.items c.into_parts-slips.result.1.items c.new-recodings.result.items c.new-gaps.result.items c.new-falling.result.items
    c.into_references-references.result.items
    c.end_stream.new.demux parts.slips parts.fields
    (c.in_ok-take_decided.ensures.last refl)
    (subst (λ (x : PacketsView). IsCarriedTo bytes true (record { held = drop at held; packets = x })) (sym same)
    (c.in_ok-take_decided.ensures.carried bytes begun))
    c.new-recodings.ensures.items c.new-gaps.ensures.items c.new-falling.ensures.items c.into_references-references.ensures c.in_ok-end_stream.ensures
