use Rattle.demux.proofs.FoundSoFar.{all_are_found, nothing_at_first, packet_adds, packets_add, piece_adds}
use Rattle.demux.proofs.laws.nothing_is_lost.Goals as goal

pub returns-clause-at_first : goal.returns-clause-at_first
returns-clause-at_first c = nothing_at_first

pub returns-clause-packet : goal.returns-clause-packet
returns-clause-packet c = packet_adds

pub returns-clause-packets : goal.returns-clause-packets
returns-clause-packets c = packets_add

pub returns-clause-piece : goal.returns-clause-piece
returns-clause-piece c = piece_adds

pub returns-clause-all : goal.returns-clause-all
returns-clause-all c = all_are_found
