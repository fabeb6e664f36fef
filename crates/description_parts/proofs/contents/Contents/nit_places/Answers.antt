use Rattle.std.proofs.Common.{ap, sym, ◌∙◌, length}
use Rattle.description_parts.proofs.NitParts.{places_are}
use Rattle.description_parts.proofs.contents.Contents.nit_places.Goals as goal

pub returns-then-is_transponder-clause-value : goal.returns-then-is_transponder-clause-value
returns-then-is_transponder-clause-value c =
    places_are c.args.self.now c.args.network.now c.places_at.result c.as_slice.result.now _ c.args.part
    (sym c.is_transponder.ensures ∙ c.if-is_transponder.true) (c.as_slice.ensures.value ∙ c.network_stream_lengths-lengths.ensures.value)
    (ap length c.as_bytes-used.ensures.value) c.places_at.ensures.value
