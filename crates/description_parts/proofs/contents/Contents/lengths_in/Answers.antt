use Rattle.std.proofs.Common.{◌≤◌, ap, sym, ◌∙◌, arith, length}
use Rattle.description_parts.specs.Tables.{most_bytes, nit_parts, room_length}
use Rattle.description_parts.specs.declared.rooms.Rooms.{Rooms}
use Rattle.description_parts.proofs.NitParts.{lengths_all, lengths_ended, lengths_pushed, nit_few}
use Rattle.description_parts.proofs.contents.Contents.lengths_in.Goals as goal

pub returns-in-None : goal.returns-in-None
returns-in-None c =
    c.loop-part.invariant.lengths
    ∙ lengths_ended c.args.self.now c.args.network.now c.loop-part.part (sym c.nit_places.ensures.value ∙ c.in-None.is)

pub loop-part-preserved : goal.loop-part-preserved
loop-part-preserved c =
    let text = c.nit_length-length.result in
    let sized = c.room_length.ensures.value ∙ ap (λ (r : Rooms). room_length most_bytes r.nit text) c.rooms.ensures in
    record {
      lengths = lengths_pushed c.args.self.now c.args.network.now c.loop-part.part c.in-Some.begin c.in-Some.end c.loop-part.lengths.items
          c.push.new.self.items c.deref.result.now text c.room_length.result c.push.ensures.items c.loop-part.invariant.lengths
          (c.deref.ensures.0 ∙ c.network_stream_lengths-streams.ensures.value) sized c.nit_length-length.ensures.value
          (sym c.nit_places.ensures.value ∙ c.in-Some.is);
      few = omega (arith, c.push.ensures.len, c.loop-part.invariant.few);
    }

pub returns : goal.returns
returns c =
    let few = nit_few c.args.self.now c.args.network.now in
    let past : length (nit_parts c.args.self.now c.args.network.now) ≤ c.loop-part.part =
    omega (arith, few, c.network_stream_lengths-streams.ensures.few, c.loop-part-test.false) in
    c.loop-part.invariant.lengths ∙ lengths_all c.args.self.now c.args.network.now c.loop-part.part past
