use Rattle.std.proofs.Common.{ap}
use Rattle.mux_core.specs.Buffer.{Buffered}
use Rattle.mux_core.proofs.Written.{out_ends, part_out}
use Rattle.mux_core.proofs.output.PacketOutput.finish.Goals as goal

pub returns-clause-err : goal.returns-clause-err
returns-clause-err g c = λ start all h.
    out_ends start _ _ all c.write_after.result
    (part_out start _ _ c.args.self all _ _ c.write_after.result h c.waiting.ensures (ap (λ (x : Buffered). x.sent) c.self.view_is) c.write_after.ensures.ok
    c.write_after.ensures.bytes
    c.write_after.ensures.err)
