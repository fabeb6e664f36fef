use Rattle.std.proofs.Common.{◌∙◌}
use Rattle.demux.proofs.NullPackets.{null_taken}
use Rattle.demux.proofs.demultiplexer.Demux.skip.Goals as goal

pub returns-clause-taken : goal.returns-clause-taken
returns-clause-taken g c = c.count.ensures ∙ null_taken c.args.self.now
