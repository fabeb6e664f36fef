use Rattle.std.proofs.Common.{ap, ◌∙◌, append-nil}
use Rattle.mux_core.specs.Buffer.{Buffered}
use Rattle.mux_core.proofs.Written.{out_in_part, out_whole, part_out}
use Rattle.mux_core.proofs.output.PacketOutput.flush.Goals as goal

pub returns-in-Ok-clause-ok : goal.returns-in-Ok-clause-ok
returns-in-Ok-clause-ok g c = λ start all h.
    out_whole start _ _ _ all c.write_after-written.result
    (part_out start _ _ c.args.self.now all _ _ c.write_after-written.result h c.waiting.ensures (ap (λ (x : Buffered). x.sent) c.self.view_is)
    c.write_after-written.ensures.ok
    c.write_after-written.ensures.bytes c.write_after-written.ensures.err) c.in-Ok.is (append-nil _ ∙ c.clear.ensures.items)

pub returns-in-Err-clause-err : goal.returns-in-Err-clause-err
returns-in-Err-clause-err g c = λ start all h.
    out_in_part start _ _ all c.write_after-written.result _
    (part_out start _ _ c.args.self.now all _ _ c.write_after-written.result h c.waiting.ensures (ap (λ (x : Buffered). x.sent) c.self.view_is)
    c.write_after-written.ensures.ok
    c.write_after-written.ensures.bytes c.write_after-written.ensures.err) c.in-Err.is
