use Rattle.std.proofs.Common.{rules, ◌≡◌, ◌-◌, ◌++◌, min, length, take, List, ℕ, ap, ◌∙◌}
use Rattle.slot_contents.specs.Contents.{packet_of}
use Rattle.unit_queue.specs.QueueSteps.{payload_or_null}
use Rattle.unit_queue.proofs.PieceBytes.{front_part}
use Rattle.unit_queue.proofs.pieces.write_front.Goals as goal

pub returns : goal.returns
returns c =
    let least : c.min.result ≡ min (length c.args.bytes.now) (c.args.room - length c.args.header.now) = search rules in
    let parts : c.args.header.now ++ take c.min.result c.args.bytes.now ≡ take c.args.room (c.args.header.now ++ c.args.bytes.now) =
    front_part c.args.header.now c.args.bytes.now c.args.room c.min.result c.requires.lower least in
    let joined : c.args.header.now ++ c.split_at.result.0.now ≡ take c.args.room (c.args.header.now ++ c.args.bytes.now) = search rules ∙ parts in
    c.write_split_payload.ensures ∙ ap (λ (t : List ℕ). packet_of (payload_or_null c.args.pid c.args.counter c.args.start t)) joined
