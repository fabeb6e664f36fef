use Rattle.es_events.proofs.Videos.{none_figures, same_figures, some_figures}
use Rattle.es_events.proofs.video_figures.video_figures.Goals as goal

pub returns-in-None : goal.returns-in-None
returns-in-None c = λ h sizes k. none_figures c.args.buffers.now.video sizes h c.in-None.is k

pub returns-in-Some : goal.returns-in-Some
returns-in-Some c = λ h sizes k.
    some_figures c.args.buffers.now.video c.in-Some.video sizes h _ c.in-Some.is k (λ s held. same_figures _ _ _ _ _ _ _ _ _ _ _ _ _ _
    held.size held.main_size (c.multiplexing_most.ensures s h.rate h.parts held) (c.elementary_most.ensures s h.rate h.parts held)
    (c.multiplexing_excess.ensures s h.rate h.parts held) (c.elementary_excess.ensures s h.rate h.parts held) (c.unit.ensures s h.rate h.parts held))
