-- A walk over payload bytes through the optional multiplexing buffer.
use Rattle.std.proofs.Common.{◌≡◌, ℕ, suc, ◌*◌, ◌^◌, ◌≤◌, List, ◌∷◌, arith}
use Rattle.clock27.specs.Peak.{Climbs}
use Rattle.tstd.specs.declared.payload_bytes.PayloadBytes.{PayloadBytes}
use Rattle.tstd.specs.DepartureWalk.{left_ahead}
use Rattle.tstd.specs.PayloadBytes.{bytes_ahead, last_of}
use Rattle.tstd.proofs.RisingTimes.{ahead_climbs}
use Rattle.tstd.proofs.PassedBytes.{passed_climb}

-- The times that a walk gives rise.
pub bytes_climb : (w : PayloadBytes) → Climbs (suc (last_of w)) (bytes_ahead w)
unfolding bytes_ahead
bytes_climb w =
    passed_climb w.multiplexing w.transport.queue.last (w.transport.byte * 2 ^ 58) (left_ahead w.transport) w.within
    (ahead_climbs w.transport w.transport.positive)

-- The next time of a walk is not before its last time.
pub next_climbs : (w : PayloadBytes) (time : ℕ) (rest : List ℕ) → bytes_ahead w ≡ time ∷ rest → last_of w ≤ time
unfolding Climbs
next_climbs w time rest ahead =
    let climbs : Climbs (suc (last_of w)) (time ∷ rest) = rw ahead at (bytes_climb w) in
    omega (arith, climbs.0)
