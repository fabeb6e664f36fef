use Rattle.std.proofs.Common.{refl, arith}
use Rattle.tstd.specs.BufferedUnits.{all_buffered, all_bytes, all_until}
use Rattle.tstd.proofs.BufferCounts.{none_there}
use Rattle.tstd.proofs.main_buffer.MainBuffer.new.Goals as goal

pub returns-clause-sound : goal.returns-clause-sound
unfolding all_bytes all_until
returns-clause-sound g c = rw c.new.ensures.items (record { all = refl; early = refl })

pub returns-clause-empty : goal.returns-clause-empty
unfolding all_buffered
returns-clause-empty g c = λ x. rw c.new.ensures.items (omega (arith, none_there x 0))
