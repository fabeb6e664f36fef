use Rattle.tstd_rows.specs.History.Part.{Carries}
use Rattle.tstd_rows.proofs.VideoIfAny.{none_found, none_taken, some_found, some_taken}
use Rattle.std.proofs.Common.{◌∷◌}
use Rattle.tstd_rows.proofs.video_buffers.take_video.Goals as goal

pub returns-in-Some-clause-held : goal.returns-in-Some-clause-held
returns-in-Some-clause-held c = λ sizes rate parts times k is.
    some_taken c.args.video.now c.in-Some.video c.take.new.self sizes rate parts (Carries times ∷ parts) c.in-Some.is k
    (λ s held. c.take.ensures.held s rate parts times held is)

pub returns-in-Some-clause-entered : goal.returns-in-Some-clause-entered
returns-in-Some-clause-entered c = λ sizes rate parts times k is.
    some_found c.args.video.now c.in-Some.video sizes rate parts times c.take.new.into c.in-Some.is k
    (λ s held. c.take.ensures.entered s rate parts times held is)

pub returns-in-None-clause-held : goal.returns-in-None-clause-held
returns-in-None-clause-held c = λ sizes rate parts times k is.
    none_taken c.args.video.now sizes rate parts (Carries times ∷ parts) c.in-None.is k

pub returns-in-None-clause-entered : goal.returns-in-None-clause-entered
returns-in-None-clause-entered c = λ sizes rate parts times k is.
    none_found c.args.video.now sizes rate parts times c.args.into.now c.in-None.is k c.requires.none c.requires.none_free c.requires.none_elementary
    c.requires.empty c.requires.empty_elementary
