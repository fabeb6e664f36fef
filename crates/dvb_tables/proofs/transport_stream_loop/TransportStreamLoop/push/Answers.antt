use Rattle.std.proofs.Common.{refl, ℕ, ◌∙◌, ap, List, arith}
use Rattle.std.specs.Prelude.{is_some}
use Rattle.psi_tables.specs.Loops.{loop_at}
use Rattle.dvb_tables.specs.TransportStreams.{transport_stream_view, transport_streams_in, transport_stream_loop_of}
use Rattle.dvb_tables.specs.Fits.{TransportStreamFits}
use Rattle.dvb_tables.proofs.TransportStreamLoops.{more_length, one_more}
use Rattle.dvb_tables.proofs.transport_stream_loop.TransportStreamLoop.push.Goals as goal

pub returns-then-room-transport_stream-clause-variant : goal.returns-then-room-transport_stream-clause-variant
unfolding transport_stream_loop_of
returns-then-room-transport_stream-clause-variant c =
    let n = more_length c.args.self.now.bytes.items (transport_stream_view c.args.transport_stream.now) c.args.self.now.whole in
    (λ e. absurd cc, λ h. absurd (omega (arith, n, c.len-room.ensures.value, c.if-room-transport_stream.true)))

pub invariant_of-self : goal.invariant_of-self
invariant_of-self c =
    let fits : TransportStreamFits (transport_stream_view c.args.transport_stream.now) =
    record { transport_stream_id = omega arith; original_network_id = omega arith; descriptors = omega (arith, c.if-room-transport_stream.false) } in
    let more = one_more c.args.self.now.bytes.items (transport_stream_view c.args.transport_stream.now) fits c.args.self.now.whole in
    record { whole = ap (λ (bytes : List ℕ). is_some (loop_at 6 bytes)) c.append_to.ensures.items ∙ more.whole }

pub returns-clause-variant : goal.returns-clause-variant
unfolding transport_stream_loop_of
returns-clause-variant c =
    let n = more_length c.args.self.now.bytes.items (transport_stream_view c.args.transport_stream.now) c.args.self.now.whole in
    (λ e. omega (arith, n, c.len-room.ensures.value, c.len-room.ensures.fits, c.if-room-transport_stream.false), λ h. refl)

pub returns-clause-ok : goal.returns-clause-ok
unfolding transport_stream_loop_of
returns-clause-ok c =
    let fits : TransportStreamFits (transport_stream_view c.args.transport_stream.now) =
    record { transport_stream_id = omega arith; original_network_id = omega arith; descriptors = omega (arith, c.if-room-transport_stream.false) } in
    let more = one_more c.args.self.now.bytes.items (transport_stream_view c.args.transport_stream.now) fits c.args.self.now.whole in
    ap transport_streams_in c.append_to.ensures.items ∙ more.values
