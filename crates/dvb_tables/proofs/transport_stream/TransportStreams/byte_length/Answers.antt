use Rattle.std.proofs.Common.{sym}
use Rattle.dvb_tables.specs.TransportStreams.{transport_streams_of}
use Rattle.dvb_tables.proofs.TransportStreamLoops.{transport_streams_length}
use Rattle.dvb_tables.proofs.transport_stream.TransportStreams.byte_length.Goals as goal

pub returns : goal.returns
unfolding transport_streams_of
returns c = sym (transport_streams_length c.args.self.now.bytes.now c.args.self.now.whole)
