-- Bytes that pass the optional multiplexing buffer.
use Rattle.std.proofs.Common.{◌≡◌, ℕ, suc, ◌+◌, ◌-◌, max, Option, Some, None, List, [], ◌∷◌, refl, arith}
use Rattle.clock27.specs.Departure.{departures}
use Rattle.clock27.specs.Peak.{Climbs}
use Rattle.clock27.proofs.Peak.{departures_climb}
use Rattle.tstd.specs.declared.queue.Queue.{Queue}
use Rattle.tstd.specs.Queues.{arrived, greatest_residence}
use Rattle.tstd.specs.MultiplexingQueue.{passed, last_in, IsWithin}

-- The departures from the multiplexing buffer rise.
pub passed_climb : (o : Option Queue) (last moment : ℕ) (ts : List ℕ) → IsWithin o moment → Climbs (suc last) ts → Climbs (suc (last_in o last)) (passed o ts)
unfolding passed last_in
passed_climb None last moment ts within climbs = climbs
passed_climb (Some q) last moment ts within climbs = departures_climb q.step q.last ts (within q refl).0

-- If no byte enters, no byte leaves.
pub passed_none : (o : Option Queue) (ts : List ℕ) → ts ≡ [] → passed o ts ≡ []
unfolding passed departures
passed_none None ts none = none
passed_none (Some q) ts none = rw none refl

-- One byte passes the buffer.
pub byte_passes : (o : Option Queue) (q q' : Queue) (entered left : ℕ) (ts : List ℕ) → o ≡ Some q → left ≡ max entered q.last + q.step →
    q' ≡ arrived q entered →
    passed o (entered ∷ ts) ≡ left ∷ passed (Some q') ts
unfolding passed departures
byte_passes o q q' entered left ts is leaves state = rw (is, leaves, state) refl

-- The residence of one byte in the buffer.
pub byte_resides : (q : Queue) (time : ℕ) (ts : List ℕ) →
    max (max q.longest_residence (max time q.last + q.step - time)) (greatest_residence q.step (max time q.last + q.step) ts)
    ≡ max q.longest_residence (greatest_residence q.step q.last (time ∷ ts))
unfolding greatest_residence
byte_resides q time ts = omega arith
