-- Over one plan, and over two plans in turn, the buffers of streams are empty at least once a second.
use Rattle.std.proofs.Common.{ℕ, max, Bool, List, arith}
use Rattle.own_slots.specs.Period.{own}
use Rattle.own_slots.specs.Work.{BoundsWork}
use Rattle.own_slots.proofs.PositionLemmas.{per_period_le}
use Rattle.own_slots.proofs.WorkLemmas.{work_law, switch_work_law}
use Rattle.unit_timing.specs.PesPacket.{PesPacket}
use Rattle.unit_timing.specs.Transport.{slots_of}
use Rattle.unit_timing.specs.Plans.{Declaration, run_packets}
use Rattle.unit_timing.specs.Conditions.{IsProper, StreamClaim, StreamConditions, StreamSwitchConditions}
use Rattle.unit_timing.specs.PlanLaws.{in_turn}
use Rattle.unit_timing.specs.VideoPlans.{Leak, LeakClaim, IsProperLeak, VideoConditions, VideoSwitchConditions}
use Rattle.unit_timing.specs.EmptyBuffers.{StreamEmptied, VideoEmptied}
use Rattle.unit_timing.proofs.PacketsInSlots.{rising_run}
use Rattle.slot_plan.specs.EmptySlots.{EmptiesEachSecond, EmptiesAcross}
use Rattle.slot_plan.proofs.EmptySlots.{EmptiesOften, one_plan, two_plans}
use Rattle.slot_plan.proofs.EmptyQueues.{transport_empties, multiplexing_empties}

-- Buffers with bounded work

stream_emptied : (rate : ℕ) (s : Declaration) (own : ℕ → Bool) (peak : ℕ) (W : ℕ → ℕ) (units : List PesPacket) → IsProper rate s →
    BoundsWork own rate s.drain 512 peak W → EmptiesOften own rate s.drain W → StreamEmptied own rate s units
stream_emptied rate s own peak W units proper work often n =
    transport_empties own rate s.drain 512 peak W (slots_of (run_packets own rate s units n)) proper.some_drain work often
    (rising_run own rate s.lead n units)

video_emptied : (rate : ℕ) (s : Declaration) (m : Leak) (own : ℕ → Bool) (peak : ℕ) (W : ℕ → ℕ) (units : List PesPacket) → IsProper rate s →
    IsProperLeak s m → BoundsWork own rate m.rbx m.mb peak W → EmptiesOften own rate m.rbx W → VideoEmptied own rate s m units
video_emptied rate s m own peak W units proper leaks work often n =
    multiplexing_empties own rate s.drain m.rbx m.mb peak W (run_packets own rate s units n) proper.some_drain leaks.some_leak leaks.no_faster
    work often (rising_run own rate s.lead n units)

-- One plan

pub stream_empties : (rate : ℕ) (s : Declaration) (claim : StreamClaim) (marks : List Bool) (units : List PesPacket) → IsProper rate s →
    StreamConditions rate s claim marks → EmptiesEachSecond rate s.drain claim.start marks → StreamEmptied (own marks) rate s units
stream_empties rate s claim marks units proper holds empties = stream_emptied rate s (own marks) claim.peak _ units proper
    (work_law rate s.drain 512 claim.start claim.peak marks (omega (arith, holds.owned, per_period_le marks)) holds.work)
    (one_plan rate s.drain claim.start marks empties)

pub video_empties : (rate : ℕ) (s : Declaration) (m : Leak) (claim : StreamClaim) (leak : LeakClaim) (marks : List Bool) (units : List PesPacket) →
    IsProper rate s → IsProperLeak s m → VideoConditions rate s m claim leak marks → EmptiesEachSecond rate m.rbx leak.start marks →
    VideoEmptied (own marks) rate s m units
video_empties rate s m claim leak marks units proper leaks holds empties = video_emptied rate s m (own marks) leak.peak _ units proper leaks
    (work_law rate m.rbx m.mb leak.start leak.peak marks (omega (arith, holds.owned, per_period_le marks)) holds.multiplexing)
    (one_plan rate m.rbx leak.start marks empties)

-- Two plans in turn

pub stream_switch_empties : (rate : ℕ) (s : Declaration) (claim : StreamClaim) (first : List Bool) (next : StreamClaim) (second : List Bool) (periods : ℕ)
    (units : List PesPacket) → IsProper rate s → StreamConditions rate s claim first → StreamConditions rate s next second →
    StreamSwitchConditions rate s claim first next second → EmptiesEachSecond rate s.drain claim.start first →
    EmptiesEachSecond rate s.drain next.start second →
    EmptiesAcross rate s.drain claim.start first next.start second → StreamEmptied (in_turn first periods second) rate s units
stream_switch_empties rate s claim first next second periods units proper one two joins empties empties' across =
    stream_emptied rate s (in_turn first periods second) (max claim.peak next.peak) _ units proper
    (switch_work_law rate s.drain 512 claim.start claim.peak first next.start next.peak second periods (omega (arith, one.owned, per_period_le first))
    (omega (arith, two.owned, per_period_le second)) one.work two.work joins.work)
    (two_plans rate s.drain claim.start first next.start second periods empties empties' across)

pub video_switch_empties : (rate : ℕ) (s : Declaration) (m : Leak) (claim : StreamClaim) (leak : LeakClaim) (first : List Bool) (next : StreamClaim)
    (next_leak : LeakClaim) (second : List Bool) (periods : ℕ) (units : List PesPacket) → IsProper rate s → IsProperLeak s m →
    VideoConditions rate s m claim leak first → VideoConditions rate s m next next_leak second →
    VideoSwitchConditions rate s m claim leak first next next_leak second → EmptiesEachSecond rate m.rbx leak.start first →
    EmptiesEachSecond rate m.rbx next_leak.start second → EmptiesAcross rate m.rbx leak.start first next_leak.start second →
    VideoEmptied (in_turn first periods second) rate s m units
video_switch_empties rate s m claim leak first next next_leak second periods units proper leaks one two joins empties empties' across =
    video_emptied rate s m (in_turn first periods second) (max leak.peak next_leak.peak) _ units proper leaks
    (switch_work_law rate m.rbx m.mb leak.start leak.peak first next_leak.start next_leak.peak second periods
    (omega (arith, one.owned, per_period_le first)) (omega (arith, two.owned, per_period_le second)) one.multiplexing two.multiplexing joins.multiplexing)
    (two_plans rate m.rbx leak.start first next_leak.start second periods empties empties' across)
