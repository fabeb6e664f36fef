use Rattle.es_view.proofs.Leaks.{none_leaks, some_leaks}
use Rattle.es_view.proofs.counted_buffers.CountedBuffers.leak_under_way.Goals as goal

pub returns-in-None : goal.returns-in-None
returns-in-None c = λ h sizes k. none_leaks c.args.self.now.buffers.video sizes h c.in-None.is k

pub returns-in-Some : goal.returns-in-Some
returns-in-Some c = λ h sizes k.
    some_leaks c.args.self.now.buffers.video c.in-Some.video sizes h c.busy_under_way.result c.in-Some.is k
    (λ s held. c.busy_under_way.ensures s h.rate h.parts held)
