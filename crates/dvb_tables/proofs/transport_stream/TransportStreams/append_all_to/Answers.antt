use Rattle.std.proofs.Common.{ℕ, ◌+◌, ◌≤◌, List, ◌++◌, length, sym, ap, ◌∙◌, arith, lit<, length-append, append-nil}
use Rattle.dvb_tables.specs.TransportStreams.{transport_stream_view, transport_streams_of, transport_streams_bytes}
use Rattle.dvb_tables.proofs.TransportStreamLoops.{transport_stream_step, transport_stream_room}
use Rattle.dvb_tables.proofs.transport_stream.TransportStreams.append_all_to.Goals as goal

pub append_to-requires : goal.append_to-requires
append_to-requires c =
    let steps = c.in-Some.ensures.steps in
    let all = ap (λ xs. c.loop-stream.out.items ++ transport_streams_bytes xs) (sym steps) ∙ c.loop-stream.invariant in
    let size = ap (length {A = ℕ}) all in
    let room = transport_stream_room c.loop-stream.out.items (transport_stream_view c.in-Some.stream) (transport_streams_of c.next.new.self) 4096
    (omega (arith, size, length-append c.args.out.now.items (transport_streams_bytes (transport_streams_of c.args.self)), c.requires)) in
    let one : length c.loop-stream.out.items + 6 + length c.in-Some.stream.descriptors.now ≤ 4096 = omega (arith, room) in
    (lit< tt, (omega (arith, room), one))

pub loop-stream-preserved : goal.loop-stream-preserved
loop-stream-preserved c =
    ap (λ (t : List ℕ). t ++ transport_streams_bytes (transport_streams_of c.next.new.self)) c.append_to.ensures.items
    ∙ (transport_stream_step c.loop-stream.out.items (transport_stream_view c.in-Some.stream) (transport_streams_of c.next.new.self)
    ∙ (ap (λ xs. c.loop-stream.out.items ++ transport_streams_bytes xs) (sym c.in-Some.ensures.steps) ∙ c.loop-stream.invariant))

pub returns-clause-items : goal.returns-clause-items
unfolding transport_streams_bytes
returns-clause-items c =
    sym (append-nil c.loop-stream.out.items)
    ∙ (ap (λ xs. c.loop-stream.out.items ++ transport_streams_bytes xs) (sym c.in-None.ensures.steps.0) ∙ c.loop-stream.invariant)

pub returns-clause-len : goal.returns-clause-len
unfolding transport_streams_bytes
returns-clause-len c =
    let all = sym (append-nil c.loop-stream.out.items)
    ∙ (ap (λ xs. c.loop-stream.out.items ++ transport_streams_bytes xs) (sym c.in-None.ensures.steps.0) ∙ c.loop-stream.invariant) in
    ap (length {A = ℕ}) all ∙ length-append c.args.out.now.items (transport_streams_bytes (transport_streams_of c.args.self))
