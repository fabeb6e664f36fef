use Rattle.es_feed.proofs.PidEnds.{EndsSoFar}
use Rattle.es_feed.proofs.packet_ends.take_ends.Given as goal

abbrev pub invariant-loop-i : goal.invariant-loop-i
invariant-loop-i l = EndsSoFar l.demux.packets l.i l.demux.states l.fn.feed l.fn.fed.items l.feed l.fed.items
