use Rattle.std.proofs.Common.{rules, ◌≡◌, ◌-◌, arith}
use Rattle.pes_packet.specs.Marks.{field_size}
use Rattle.unit_queue.proofs.PieceBytes.{part_room}
use Rattle.unit_queue.proofs.pieces.part_room.Goals as goal

pub returns-clause-upper : goal.returns-clause-upper
returns-clause-upper c =
    let less : c.saturating_sub.result ≡ field_size c.args.access - c.args.sent = search rules in
    omega (arith, less, part_room c.args.sent c.args.access)
