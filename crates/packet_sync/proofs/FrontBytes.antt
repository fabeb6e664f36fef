-- The first 409 bytes of a stream determine which packets it has.
use Rattle.std.proofs.Common.{◌≡◌, ◌≤◌, ◌<◌, ℕ, ◌&&◌, List, ◌++◌, length, refl, arith}
use Rattle.packet_sync.specs.Slips.{are_apart, is_sync}
use Rattle.packet_sync.specs.OtherPackets.{other_packets}
use Rattle.packet_sync.proofs.Stretches.{at_front}

sync_front : (bs more : List ℕ) (at : ℕ) → at < length bs → is_sync bs at ≡ is_sync (bs ++ more) at
unfolding is_sync
sync_front bs more at within = rw (at_front bs more at within) refl

pub three_front : (bs more : List ℕ) (a b c : ℕ) → a < length bs → b < length bs → c < length bs →
    (is_sync bs a && is_sync bs b && is_sync bs c) ≡ (is_sync (bs ++ more) a && is_sync (bs ++ more) b && is_sync (bs ++ more) c)
three_front bs more a b c x y z = rw (sync_front bs more a x, sync_front bs more b y, sync_front bs more c z) refl

pub other_front : (bs more : List ℕ) → 409 ≤ length bs → other_packets bs ≡ other_packets (bs ++ more)
unfolding other_packets are_apart
other_front bs more long =
    rw (
      three_front bs more 0 188 376 (omega (arith, long)) (omega (arith, long)) (omega (arith, long)),
      three_front bs more 4 196 388 (omega (arith, long)) (omega (arith, long)) (omega (arith, long)),
      three_front bs more 0 204 408 (omega (arith, long)) (omega (arith, long)) (omega (arith, long)),
    ) refl
