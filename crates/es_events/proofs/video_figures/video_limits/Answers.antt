use Rattle.es_events.proofs.Videos.{none_limits, same_limits, some_limits}
use Rattle.es_events.proofs.video_figures.video_limits.Goals as goal

pub returns-in-None : goal.returns-in-None
returns-in-None c = λ h sizes k. none_limits c.args.buffers.now.video sizes h.rate h.parts c.in-None.is k

pub returns-in-Some : goal.returns-in-Some
returns-in-Some c = λ h sizes k.
    some_limits c.args.buffers.now.video c.in-Some.video sizes h.rate h.parts _ c.in-Some.is k (λ s held. same_limits _ _ _ _ held.size held.main_size)
