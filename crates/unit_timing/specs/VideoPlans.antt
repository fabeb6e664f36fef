-- A video stream whose multiplexing buffer MB and elementary stream buffer EB are known (ISO/IEC 13818-1, 2.4.2.3, the leak
-- method): the conditions on its own slots in one plan and in two plans in turn, and the promise for it.
use Rattle.std.specs.Prelude.{◌≡◌, ℕ, ◌+◌, ◌*◌, ◌<◌, ◌≤◌, Bool, List, length, map, All}
use Rattle.clock27.specs.Departure.{departures}
use Rattle.clock27.specs.Fullness.{fullness}
use Rattle.clock27.specs.Units.{byte_units_at_1bps}
use Rattle.own_slots.specs.Period.{own, per_period}
use Rattle.own_slots.specs.Slots.{Rises}
use Rattle.own_slots.specs.Spread.{spread}
use Rattle.own_slots.specs.Work.{HoldsWork, work_left}
use Rattle.own_slots.specs.Switch.{shift}
use Rattle.unit_timing.specs.Buffers.{tb_size}
use Rattle.unit_timing.specs.PesPacket.{PesPacket}
use Rattle.unit_timing.specs.Allowances.{allowance_rows}
use Rattle.unit_timing.specs.Schedule.{Packet}
use Rattle.unit_timing.specs.Transport.{slots_of, tb_fullness}
use Rattle.unit_timing.specs.Arrived.{AllLeft}
use Rattle.unit_timing.specs.VideoBuffers.{multiplexing_entered, multiplexing_left, multiplexing_fullness, elementary_fullness, video_fullness}
use Rattle.unit_timing.specs.LeakMethod.{transfers, rooms_of, removed_at}
use Rattle.unit_timing.specs.Plans.{Declaration, KeepsDeclaration, run_packets}
use Rattle.unit_timing.specs.Conditions.{IsProper, StreamClaim, Share, share_of, rate_needed, rate_given, lead_needed, lead_across, time_given, bytes_waiting}
use Rattle.unit_timing.specs.Conditions.{bytes_across}
use Rattle.unit_timing.specs.PlanLaws.{in_turn}

-- the declaration of MB: the rate of the leak in bits a second, Rbx, and its size in bytes. The size of EB is the `main` of the
-- stream's declaration, and Rx its `drain`
pub record Leak : Type 0 where
  pub rbx : ℕ
  pub mb : ℕ

-- a plan's claim for MB, as for a transport buffer: the work with which a period begins, and the greatest work after an own slot
pub record LeakClaim : Type 0 where
  pub start : ℕ
  pub peak : ℕ

-- MB leaks, and no faster than TB is drained
pub record IsProperLeak (s : Declaration) (m : Leak) : Type 0 where
  pub some_leak : 0 < m.rbx
  pub no_faster : m.rbx ≤ s.drain

-- the declaration of the stream with another drain of its transport buffer
abbrev pub drained : Declaration → ℕ → Declaration
drained s r = record s { drain = r }

-- the stream's own slots, as the lead has to pay for them: after the last own slot a unit's last byte waits for the work of MB
-- and for one byte to leave TB
abbrev pub leak_share : ℕ → StreamClaim → LeakClaim → List Bool → Share
leak_share rate claim leak marks = record { count = per_period marks; period = length marks; spread = claim.spread; peak = leak.peak + rate }

-- ---- the conditions

-- on a video stream's own slots in one plan: the conditions on each stream, except that the lead pays for the way through MB; MB
-- has room for its work at the drain Rbx; and the bytes that wait for their stamp, in MB or EB, fit EB
pub record VideoConditions (rate : ℕ) (s : Declaration) (m : Leak) (claim : StreamClaim) (leak : LeakClaim) (marks : List Bool) : Type 0 where
  pub owned : 0 < per_period marks
  pub spread_claimed : spread marks ≤ claim.spread
  pub rate_serves : rate_needed s (share_of claim marks) ≤ rate_given rate s (share_of claim marks)
  pub transport : HoldsWork rate s.drain tb_size claim.start claim.peak marks
  pub multiplexing : HoldsWork rate m.rbx m.mb leak.start leak.peak marks
  pub lead_serves : (k : ℕ) → 0 < k → k ≤ allowance_rows s.allowance →
      lead_needed (drained s m.rbx) (leak_share rate claim leak marks) k ≤ time_given rate (drained s m.rbx) (per_period marks) k
  pub elementary_fits : bytes_waiting rate s (share_of claim marks) ≤ s.main

-- the further conditions on two plans in turn
pub record VideoSwitchConditions (rate : ℕ) (s : Declaration) (m : Leak) (claim : StreamClaim) (leak : LeakClaim) (first : List Bool)
    (next : StreamClaim) (next_leak : LeakClaim) (second : List Bool) : Type 0 where
  pub transport : work_left rate s.drain claim.start first ≤ next.start
  pub multiplexing : work_left rate m.rbx leak.start first ≤ next_leak.start
  pub lead_serves : (k : ℕ) → 0 < k → k ≤ allowance_rows s.allowance →
      lead_across (drained s m.rbx) (leak_share rate claim leak first) (leak_share rate next next_leak second) (shift first second) k
      ≤ time_given rate (drained s m.rbx) (per_period first * per_period second) k
  pub elementary_fits : bytes_across rate s (share_of claim first) (share_of next second) ≤ s.main

-- ---- the promise

-- when the bytes of a run's packets go from MB to EB if EB may be full, on a scale 720,000 times as fine, on which stamps
-- are whole
abbrev pub video_transfers : ℕ → Declaration → Leak → List PesPacket → List Packet → List ℕ
video_transfers rate s m units packets =
    transfers (byte_units_at_1bps * (s.drain * rate)) 0 (map (λ t. byte_units_at_1bps * t) (multiplexing_entered rate s.drain m.rbx packets))
    (rooms_of s.main (removed_at rate (s.drain * m.rbx) units))

-- a video stream in runs of any length: at each moment TB holds at most 512 bytes, MB at most its size, EB at most its size, and
-- both together at most EB's size, so that EB is never full, and bytes enter it as from a queue alone; each unit that is due is
-- whole in EB by its stamp. MB also keeps to its size with any packets in the stream's own slots (for example the run's packets
-- from some packet on), and if it leaks a little slower (`SlowLeakLaw`)
pub record VideoServed (own : ℕ → Bool) (rate : ℕ) (s : Declaration) (m : Leak) (units : List PesPacket) : Type 0 where
  pub transport : (n x : ℕ) → tb_fullness rate s.drain x (slots_of (run_packets own rate s units n)) ≤ tb_size
  pub multiplexing : (n x : ℕ) → multiplexing_fullness rate s.drain m.rbx x (run_packets own rate s units n) ≤ m.mb
  pub some_multiplexing : (slow : ℕ) (packets : List Packet) (x : ℕ) → 184 ≤ rate → s.drain * rate ≤ slow → slow ≤ s.drain * rate + m.rbx →
      All (λ p. p.size ≤ 184) packets → Rises own 0 (slots_of packets) →
      fullness x (multiplexing_entered rate s.drain m.rbx packets) (departures slow 0 (multiplexing_entered rate s.drain m.rbx packets)) ≤ m.mb
  pub elementary : (n x : ℕ) → elementary_fullness rate s.drain m.rbx x units (run_packets own rate s units n) ≤ s.main
  pub together : (n x : ℕ) → video_fullness rate s.drain m.rbx x units (run_packets own rate s units n) ≤ s.main
  pub never_full : (n : ℕ) → video_transfers rate s m units (run_packets own rate s units n)
      ≡ map (λ d. byte_units_at_1bps * d) (multiplexing_left rate s.drain m.rbx (run_packets own rate s units n))
  pub whole : (n : ℕ) → AllLeft rate (s.drain * m.rbx) n units (multiplexing_left rate s.drain m.rbx (run_packets own rate s units n))

-- from the conditions on one plan
abbrev pub VideoLaw : Type 0
VideoLaw = (rate : ℕ) (s : Declaration) (m : Leak) (claim : StreamClaim) (leak : LeakClaim) (marks : List Bool) (units : List PesPacket) →
    IsProper rate s → IsProperLeak s m → VideoConditions rate s m claim leak marks → KeepsDeclaration s units →
    VideoServed (own marks) rate s m units

-- and on two plans in turn, the first for any number of its periods
abbrev pub VideoSwitchLaw : Type 0
VideoSwitchLaw = (rate : ℕ) (s : Declaration) (m : Leak) (claim : StreamClaim) (leak : LeakClaim) (first : List Bool)
    (next : StreamClaim) (next_leak : LeakClaim) (second : List Bool) (periods : ℕ) (units : List PesPacket) →
    IsProper rate s → IsProperLeak s m → VideoConditions rate s m claim leak first → VideoConditions rate s m next next_leak second →
    VideoSwitchConditions rate s m claim leak first next next_leak second → KeepsDeclaration s units →
    VideoServed (in_turn first periods second) rate s m units
