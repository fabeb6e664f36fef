use Rattle.std.proofs.Common.{◌∙◌, ap, List, ℕ}
use Rattle.std.specs.Prelude.{is_some}
use Rattle.psi_tables.specs.Loops.{loop_at}
use Rattle.psi_tables.proofs.LoopParts.{loop_at-end}
use Rattle.dvb_tables.specs.TransportStreams.{transport_streams_in, transport_stream_loop_of}
use Rattle.dvb_tables.proofs.TransportStreamLoops.{no_transport_streams}
use Rattle.dvb_tables.proofs.transport_stream_loop.TransportStreamLoop.new.Goals as goal

pub invariant_of-result : goal.invariant_of-result
invariant_of-result c = record { whole = ap (λ (bytes : List ℕ). is_some (loop_at 6 bytes)) c.new.ensures ∙ ap is_some (loop_at-end 6) }

pub returns : goal.returns
unfolding transport_stream_loop_of
returns c = ap transport_streams_in c.new.ensures ∙ no_transport_streams
