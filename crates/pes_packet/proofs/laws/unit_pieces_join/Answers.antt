use Rattle.pes_packet.proofs.UnitPieces.{unit_pieces_join}
use Rattle.pes_packet.proofs.laws.unit_pieces_join.Goals as goal

pub returns : goal.returns
returns c = unit_pieces_join
