use Rattle.clock27.proofs.Fullness.{fullness-append, fullness_le, fullness_before, fullness_after, room_law}
use Rattle.clock27.proofs.laws.fullness.Goals as goal

pub returns-clause-appended : goal.returns-clause-appended
returns-clause-appended c = fullness-append

pub returns-clause-bound : goal.returns-clause-bound
returns-clause-bound c = fullness_le

pub returns-clause-before : goal.returns-clause-before
returns-clause-before c = fullness_before

pub returns-clause-after : goal.returns-clause-after
returns-clause-after c = fullness_after

pub returns-clause-room : goal.returns-clause-room
returns-clause-room c = room_law
