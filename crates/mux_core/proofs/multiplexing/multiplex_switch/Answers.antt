use Rattle.std.proofs.Common.{ℕ, List, subst}
use Rattle.pes_packet.specs.Units.{units_of}
use Rattle.mux_core.specs.Histories.{content_at}
use Rattle.mux_core.specs.WholeJobs.{switch_schedule, Writes}
use Rattle.mux_core.proofs.JobWriting.{output_bytes}
use Rattle.mux_core.proofs.multiplexing.multiplex_switch.Goals as goal

pub returns-clause-written : goal.returns-clause-written
returns-clause-written g c =
    subst (λ (out : List ℕ). Writes out (g.W.Write.contents c.args.to.now) (g.W.Write.contents c.multiplex_switch_as.new.to) c.multiplex_switch_as.result)
    (output_bytes (content_at (switch_schedule c.args.switch c.args.periods) (λ k. units_of k c.args.units.items)) 0 c.args.slots)
    c.multiplex_switch_as.ensures.written
