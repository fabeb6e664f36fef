use Rattle.std.proofs.Common.{ℕ, List, subst}
use Rattle.pes_packet.specs.Units.{units_of}
use Rattle.mux_core.specs.Histories.{content_at}
use Rattle.mux_core.specs.WholeJobs.{plan_schedule, Writes}
use Rattle.mux_core.proofs.JobWriting.{output_bytes}
use Rattle.mux_core.proofs.multiplexing.multiplex.Goals as goal

pub returns-clause-written : goal.returns-clause-written
returns-clause-written g c =
    subst (λ (out : List ℕ). Writes out (g.W.Write.contents c.args.to.now) (g.W.Write.contents c.multiplex_as.new.to) c.multiplex_as.result)
    (output_bytes (content_at (plan_schedule c.args.plan) (λ k. units_of k c.args.units.items)) 0 c.args.slots) c.multiplex_as.ensures.written
