-- The greatest fullness of a buffer follows from the longest residence of a byte in it.
use Rattle.std.proofs.Common.{◌≡◌, ◌∙◌, ℕ, ◌*◌, ◌≤◌, ◌<◌, max, Option, Some, None, List, [], ◌∷◌, length, refl, ap, arith}
use Rattle.std.proofs.Math.Nat.{mul-pos}
use Rattle.std.proofs.lemmas.List.{length-append}
use Rattle.clock27.specs.Arrival.{bytes_from, arrivals}
use Rattle.clock27.specs.Departure.{departures}
use Rattle.clock27.specs.Fullness.{fullness}
use Rattle.clock27.specs.Peak.{IsPeak, Climbs}
use Rattle.clock27.proofs.Fullness.{fullness_le}
use Rattle.clock27.proofs.Peak.{peak_law, arrivals_climb, departures_climb}
use Rattle.clock27.proofs.Departures.{length-departures}
use Rattle.tstd.specs.declared.queue.Queue.{Queue}
use Rattle.tstd.specs.declared.fullness.SystemFullness.{SystemFullness}
use Rattle.tstd.specs.Measured.{IsSystemFullness}
use Rattle.tstd.specs.Queues.{all_arrived, greatest_residence, bytes_within}
use Rattle.description_parts.specs.Described.{DescribedStream}
use Rattle.description_parts.specs.Ranges.{IsStream, IsMultiplexingBuffer}
use Rattle.std.proofs.lemmas.List.Elements.{All-head}
use Rattle.unit_timing.specs.declared.multiplexing_buffer.MultiplexingBuffer.{MultiplexingBuffer}
use Rattle.unit_timing.specs.Schedule.{Packet}
use Rattle.unit_timing.specs.VideoBuffers.{multiplexing_entered, multiplexing_fullness}
use Rattle.tstd.specs.MultiplexingQueue.{residence_in, peak_in}
use Rattle.tstd.proofs.RisingTimes.{climbs_low, left_climbs}
use Rattle.tstd.proofs.Residence.{most_residence, longest_arrived}
use Rattle.tstd.proofs.ByteRows.{length-row}

pub residence_peak : (step longest_residence : ℕ) (ts : List ℕ) → 0 < step → Climbs 0 ts → longest_residence ≡ greatest_residence step 0 ts →
    IsPeak (λ x. fullness x ts (departures step 0 ts)) (bytes_within step longest_residence)
residence_peak step longest_residence ts pos climbs is = rw (is, most_residence step 0 ts pos) (peak_law step 0 ts pos climbs)

-- A buffer never has more bytes than arrive.
pub peak_few : (most : ℕ) (ts ds : List ℕ) → IsPeak (λ x. fullness x ts ds) most → most ≤ length ts
peak_few most ts ds peak = omega (arith, peak.reached, fullness_le peak.moment ts ds)

pub length-arrivals : (r : ℕ) (slots : List ℕ) → length (arrivals r slots) ≡ 188 * length slots
unfolding arrivals
length-arrivals r [] = refl
length-arrivals r (s ∷ slots) = length-append (bytes_from r (188 * s) 188) (arrivals r slots)
    ∙ omega (arith, length-row r (188 * s) 188, length-arrivals r slots)

-- The peaks of the buffers of a program's tables.
pub tables_peak : (rate : ℕ) (slots : List ℕ) (q p : Queue) (n m : ℕ) → 0 < rate → Climbs 0 slots → q.step ≡ 2 * rate → p.step ≡ 25 * rate →
    q ≡ all_arrived (record { step = 2 * rate; last = 0; longest_residence = 0 }) (arrivals 2000000 slots) →
    p ≡ all_arrived (record { step = 25 * rate; last = 0; longest_residence = 0 }) (departures (2 * rate) 0 (arrivals 2000000 slots)) →
    n ≡ bytes_within q.step q.longest_residence → m ≡ bytes_within p.step p.longest_residence →
    IsSystemFullness rate slots (record { transport = n; system = m })
tables_peak rate slots q p n m some climbs step step' passed passed' is is' =
    let pos : 0 < 2 * rate = omega (arith, some) in
    let pos' : 0 < 25 * rate = omega (arith, some) in
    let arrive : Climbs 0 (arrivals 2000000 slots) = arrivals_climb 2000000 slots (omega arith) climbs in
    let low : 0 ≤ 1 = omega arith in
    let leave : Climbs 0 (departures (2 * rate) 0 (arrivals 2000000 slots)) =
    climbs_low 0 1 _ low (departures_climb (2 * rate) 0 (arrivals 2000000 slots) pos) in
    record {
      transport = rw (is, step)
          (residence_peak (2 * rate) q.longest_residence (arrivals 2000000 slots) pos arrive (longest_arrived (2 * rate) q (arrivals 2000000 slots) passed));
      system = rw (is', step') (residence_peak (25 * rate) p.longest_residence (departures (2 * rate) 0 (arrivals 2000000 slots)) pos' leave
          (longest_arrived (25 * rate) p (departures (2 * rate) 0 (arrivals 2000000 slots)) passed'));
    }

-- The buffers of a program's tables never have more bytes than arrive.
pub tables_bytes : (rate : ℕ) (slots : List ℕ) (f : SystemFullness) → IsSystemFullness rate slots f →
    (f.transport ≤ 188 * length slots) × (f.system ≤ 188 * length slots)
tables_bytes rate slots f is =
    let all = length-arrivals 2000000 slots in
    let first = peak_few f.transport (arrivals 2000000 slots) (departures (2 * rate) 0 (arrivals 2000000 slots)) is.transport in
    let second = peak_few f.system (departures (2 * rate) 0 (arrivals 2000000 slots))
    (departures (25 * rate) 0 (departures (2 * rate) 0 (arrivals 2000000 slots))) is.system in
    (omega (arith, all, first), omega (arith, all, second, length-departures (2 * rate) 0 (arrivals 2000000 slots)))

-- The peak of the multiplexing buffer that the payload bytes of a PID pass.
pub video_peak : (o : Option Queue) (rate rx rbx n : ℕ) (packets : List Packet) → 0 < rate → 0 < rx → 0 < rbx →
    residence_in o [] ≡ (rx * rate, greatest_residence (rx * rate) 0 (multiplexing_entered rate rx rbx packets)) → n ≡ peak_in o →
    IsPeak (λ x. multiplexing_fullness rate rx rbx x packets) n
unfolding residence_in peak_in greatest_residence
video_peak None rate rx rbx n packets some drain leak is most =
    let none : 0 ≡ rx * rate = ap (λ (both : ℕ × ℕ). both.0) is in
    let pos : 0 < rx * rate = mul-pos drain some in
    absurd (omega (arith, none, pos))
video_peak (Some q) rate rx rbx n packets some drain leak is most =
    let step : q.step ≡ rx * rate = ap (λ (both : ℕ × ℕ). both.0) is in
    let longest : max q.longest_residence 0 ≡ greatest_residence (rx * rate) 0 (multiplexing_entered rate rx rbx packets) = ap (λ (both : ℕ × ℕ). both.1) is in
    let pos : 0 < rx * rate = mul-pos drain some in
    rw (most, step) (residence_peak (rx * rate) q.longest_residence (multiplexing_entered rate rx rbx packets) pos
    (left_climbs (rbx * rate) (rx * rbx) packets (mul-pos leak some)) (omega (arith, longest)))

-- The numbers of a stream's multiplexing buffer are in their ranges.
pub leak_range : (s : DescribedStream) (b : MultiplexingBuffer) → IsStream s → s.multiplexing ≡ Some b → IsMultiplexingBuffer s.rx b
leak_range s b stream is = All-head (IsMultiplexingBuffer s.rx) b [] (rw is at stream.multiplexing)
