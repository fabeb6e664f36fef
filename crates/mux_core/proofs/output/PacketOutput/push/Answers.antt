use Rattle.std.proofs.Common.{◌+◌, ◌++◌, ◌∙◌, refl, ap, arith, append-nil}
use Rattle.std.proofs.lemmas.Option.{slice_get_read}
use Rattle.mux_core.specs.Formats.{formatted}
use Rattle.mux_core.proofs.Written.{PartOut, joined, line_waits_inside, lines_alone, out_in_part, out_whole, packet_waits_inside, part_out, rooms_alone}
use Rattle.mux_core.proofs.output.PacketOutput.push.Goals as goal
use Rattle.mux_core.proofs.output.PacketOutput.push.Goals.{then-self+else-len-lt-PART, else-self+else-self-lt-PACKETS}

pub returns-then-self-lt-PACKETS-clause-ok : goal.returns-then-self-lt-PACKETS-clause-ok
returns-then-self-lt-PACKETS-clause-ok g c = λ start all packet next h.
    packet_waits_inside start _ _ _ all packet c.self.view_is c.if-self.false next h

pub returns-in-Ok-clause-ok : goal.returns-in-Ok-clause-ok
returns-in-Ok-clause-ok g c = λ start all packet next h.
    let out : PartOut start (g.W.Write.contents c.args.to.now) (g.W.Write.contents c.if-self.to) (all ++ formatted c.args.self.now.hex packet)
    c.if-self.written =
    elim c.if-self.branch [
      | then-self+else-len-lt-PART w ↦
          let none = c.self.invariant.5 w.if-self.true in
          rw (w.to-is, w.written-is)
          (part_out start _ _ _ _ _ _ w.write_after-written.result
          (line_waits_inside start _ _ _ all packet w.append_line.new.lines.items w.index.result.now c.self.view_is w.if-self.true none next
          (slice_get_read c.self.inside.rooms.items 349 0 w.index.result.now (omega (arith, c.self.invariant.2, c.self.inside.rooms.ok.0)) (omega arith)
          w.index.ensures) w.append_line.ensures.items h)
          (w.deref.ensures.value ∙ lines_alone w.append_line.new.lines.items _ _ none) refl w.write_after-written.ensures.ok w.write_after-written.ensures.bytes
          w.write_after-written.ensures.err)
      | else-self+else-self-lt-PACKETS w ↦
          rw (w.to-is, w.written-is)
          (part_out start _ _ _ _ _ _ w.write_after-written-else-self.result
          (packet_waits_inside start _ _ _ all packet c.self.view_is w.if-self.false next h)
          (w.as_flattened.ensures.value ∙ ap joined w.deref-else-self.ensures.value
          ∙ rooms_alone c.self.inside.lines.items c.self.inside.rooms.items (c.self.inside.count + 1) (c.self.invariant.4 w.if-self.false)
          (omega (arith, w.if-self-lt-PACKETS.false, c.self.invariant.2, c.self.inside.rooms.ok.0)))
          refl w.write_after-written-else-self.ensures.ok w.write_after-written-else-self.ensures.bytes w.write_after-written-else-self.ensures.err)
    ] in
    out_whole start _ _ _ _ c.if-self.written out c.in-Ok.is (append-nil _ ∙ c.clear.ensures.items)

pub returns-in-Err-clause-err : goal.returns-in-Err-clause-err
returns-in-Err-clause-err g c = λ start all packet next h.
    let out : PartOut start (g.W.Write.contents c.args.to.now) (g.W.Write.contents c.if-self.to) (all ++ formatted c.args.self.now.hex packet)
    c.if-self.written =
    elim c.if-self.branch [
      | then-self+else-len-lt-PART w ↦
          let none = c.self.invariant.5 w.if-self.true in
          rw (w.to-is, w.written-is)
          (part_out start _ _ _ _ _ _ w.write_after-written.result
          (line_waits_inside start _ _ _ all packet w.append_line.new.lines.items w.index.result.now c.self.view_is w.if-self.true none next
          (slice_get_read c.self.inside.rooms.items 349 0 w.index.result.now (omega (arith, c.self.invariant.2, c.self.inside.rooms.ok.0)) (omega arith)
          w.index.ensures) w.append_line.ensures.items h)
          (w.deref.ensures.value ∙ lines_alone w.append_line.new.lines.items _ _ none) refl w.write_after-written.ensures.ok w.write_after-written.ensures.bytes
          w.write_after-written.ensures.err)
      | else-self+else-self-lt-PACKETS w ↦
          rw (w.to-is, w.written-is)
          (part_out start _ _ _ _ _ _ w.write_after-written-else-self.result
          (packet_waits_inside start _ _ _ all packet c.self.view_is w.if-self.false next h)
          (w.as_flattened.ensures.value ∙ ap joined w.deref-else-self.ensures.value
          ∙ rooms_alone c.self.inside.lines.items c.self.inside.rooms.items (c.self.inside.count + 1) (c.self.invariant.4 w.if-self.false)
          (omega (arith, w.if-self-lt-PACKETS.false, c.self.invariant.2, c.self.inside.rooms.ok.0)))
          refl w.write_after-written-else-self.ensures.ok w.write_after-written-else-self.ensures.bytes w.write_after-written-else-self.ensures.err)
    ] in
    out_in_part start _ _ _ c.if-self.written _ out c.in-Err.is
