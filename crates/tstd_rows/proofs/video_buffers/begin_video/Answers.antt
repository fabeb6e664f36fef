use Rattle.tstd_rows.proofs.VideoIfAny.{none_unit, some_unit}
use Rattle.tstd_rows.proofs.video_buffers.begin_video.Goals as goal

pub returns-in-None-clause-unit : goal.returns-in-None-clause-unit
returns-in-None-clause-unit c = λ sizes rate parts k.
    none_unit c.args.video.now sizes rate parts c.args.unit.now c.in-None.is k c.requires.none

pub returns-in_ok-unit-in-Some-clause-unit : goal.returns-in_ok-unit-in-Some-clause-unit
returns-in_ok-unit-in-Some-clause-unit c = λ sizes rate parts k.
    some_unit c.args.video.now c.in-Some.video sizes rate parts c.in_ok-unit-in-Some.field-0 c.in-Some.is k
    (λ s held. c.in_ok-unit-in-Some.ensures.unit s rate parts held)
