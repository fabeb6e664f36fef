-- Buffers that have to be empty at least once a second: transport buffers, and multiplexing buffers by the leak method
-- (ISO/IEC 13818-1, 2.4.2.6). With an output of R bits a second and a buffer whose drain is r, times are in units of 8 / (R *
-- r) seconds, so that R * r of them last eight seconds.
use Rattle.std.specs.Prelude.{◌≡◌, ℕ, ◌-◌, ◌*◌, ◌≤◌, Bool, List}
use Rattle.unit_timing.specs.PesPacket.{PesPacket}
use Rattle.unit_timing.specs.Transport.{slots_of, tb_fullness}
use Rattle.unit_timing.specs.VideoBuffers.{multiplexing_fullness}
use Rattle.unit_timing.specs.Plans.{Declaration, run_packets}
use Rattle.unit_timing.specs.VideoPlans.{Leak}

-- from the moment x on, a second later at the latest, there is a moment at which f is 0
pub record EmptySoon (rate r : ℕ) (f : ℕ → ℕ) (x : ℕ) : Type 0 where
  pub moment : ℕ
  pub from : x ≤ moment
  pub soon : (moment - x) * 8 ≤ rate * r
  pub empty : f moment ≡ 0

-- a buffer with the fullness f is empty at least once in each second
abbrev pub IsEmptyEachSecond : ℕ → ℕ → (ℕ → ℕ) → Type 0
IsEmptyEachSecond rate r f = (x : ℕ) → EmptySoon rate r f x

-- the transport buffer of a stream, in runs of any length
abbrev pub StreamEmptied : (ℕ → Bool) → ℕ → Declaration → List PesPacket → Type 0
StreamEmptied own rate s units = (n : ℕ) → IsEmptyEachSecond rate s.drain (λ x. tb_fullness rate s.drain x (slots_of (run_packets own rate s units n)))

-- the multiplexing buffer of a video stream
abbrev pub VideoEmptied : (ℕ → Bool) → ℕ → Declaration → Leak → List PesPacket → Type 0
VideoEmptied own rate s m units =
    (n : ℕ) → IsEmptyEachSecond rate (s.drain * m.rbx) (λ x. multiplexing_fullness rate s.drain m.rbx x (run_packets own rate s units n))
