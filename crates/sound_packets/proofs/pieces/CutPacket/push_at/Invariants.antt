use Rattle.std.proofs.Common.{◌≡◌, ◌≤◌, ◌<◌, ◌+◌, ◌^◌, ◌++◌, length, map}
use Rattle.pid_findings.specs.Shown.{finding_view}
use Rattle.sound_packets.specs.Pieces.{piece_of, pieces_by, pieces_from}
use Rattle.sound_packets.proofs.pieces.CutPacket.push_at.Given as goal

abbrev pub invariant-parts : goal.invariant-parts
invariant-parts l = record {
  so_far : map finding_view l.initial.cut.items ++ map (piece_of l.self) (pieces_by l.most l.initial.parts l.initial.bytes)
      ≡ map finding_view l.cut.items ++ map (piece_of l.self) (pieces_from l.most l.all l.pieces l.rest l.first l.count l.at l.parts l.bytes);
  fits : l.first + (l.count + length l.parts) ≤ l.all;
  small : l.all < 2 ^ 63;
  part : l.pieces ≤ l.all;
  left : l.rest ≤ l.all;
}

abbrev pub decreases-parts : goal.decreases-parts
decreases-parts l = length l.parts
