use Rattle.std.proofs.Common.{◌≡◌, ◌-◌, ◌*◌}
use Rattle.packet_sync.specs.Slips.{new_step}
use Rattle.packet_sync.proofs.sync_bytes.new_step.Given as goal

abbrev pub invariant-loop-size : goal.invariant-loop-size
invariant-loop-size l = new_step l.bytes l.at l.step l.size (4 * l.step - l.size) ≡ new_step l.bytes l.at l.step 1 (4 * l.step - 1)
