use Rattle.std.proofs.Common.{◌∙◌, ℕ, List, true, ap, length, refl, sym, subst}
use Rattle.packet_sync.specs.PacketBytes.{packets_in}
use Rattle.job_run.specs.Streams.{InnerView, IsInner, TakesPackets}
use Rattle.job_run.proofs.Readings.{ended_inner}
use Rattle.job_run.proofs.inner_stream.InnerStream.end.Goals as goal

pub returns : goal.returns
returns c = λ bytes so.
    let s : InnerView = record { other = c.self.inside.other; held = c.self.inside.held.items; stream = c.self.inside.stream } in
    let used = c.in_ok-take_packets.field-0 in
    let held = c.deref.ensures.value in
    c.end.ensures (packets_in bytes)
    (ended_inner bytes s c.take_packets.new.stream used
    (subst (λ (h : List ℕ). TakesPackets s.other h true s.stream c.take_packets.new.stream used) held c.in_ok-take_packets.ensures.taken)
    (c.in_ok-take_packets.ensures.last refl ∙ ap (length {A = ℕ}) held) (subst (λ (x : InnerView). IsInner bytes x) (sym c.self.view_is) so))
