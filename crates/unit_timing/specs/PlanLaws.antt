-- From the conditions on one plan, or on two plans in turn, to the promises.
use Rattle.std.specs.Prelude.{ℕ, ◌*◌, ◌<◌, ◌≤◌, max, Bool, List, length}
use Rattle.own_slots.specs.Period.{own, per_period}
use Rattle.own_slots.specs.Spread.{spread}
use Rattle.own_slots.specs.Switch.{joined, shift}
use Rattle.unit_timing.specs.PesPacket.{PesPacket}
use Rattle.unit_timing.specs.Allowances.{allowance_rows}
use Rattle.unit_timing.specs.Transport.{NoneLeavesEarly}
use Rattle.unit_timing.specs.Deadline.{InTime}
use Rattle.unit_timing.specs.MainBuffer.{mb_fullness}
use Rattle.unit_timing.specs.Plans.{Declaration, KeepsDeclaration, run_packets, StreamServed, ProgramServed}
use Rattle.unit_timing.specs.Conditions.{IsProper, StreamClaim, ProgramClaim, share_of, rate_needed, rate_given, lead_across, time_given, bytes_across}
use Rattle.unit_timing.specs.Conditions.{StreamConditions, StreamSwitchConditions, ProgramConditions, ProgramSwitchConditions}

-- the own slots of two plans, the first for a number of its periods
abbrev pub in_turn : List Bool → ℕ → List Bool → ℕ → Bool
in_turn first periods second = joined (own first) (own second) (periods * length first)

abbrev pub StreamLaw : Type 0
StreamLaw = (rate : ℕ) (s : Declaration) (claim : StreamClaim) (marks : List Bool) (units : List PesPacket) →
    IsProper rate s → StreamConditions rate s claim marks → KeepsDeclaration s units → StreamServed (own marks) rate s units

abbrev pub StreamSwitchLaw : Type 0
StreamSwitchLaw = (rate : ℕ) (s : Declaration) (claim : StreamClaim) (first : List Bool) (next : StreamClaim) (second : List Bool)
    (periods : ℕ) (units : List PesPacket) → IsProper rate s → StreamConditions rate s claim first → StreamConditions rate s next second →
    StreamSwitchConditions rate s claim first next second → KeepsDeclaration s units → StreamServed (in_turn first periods second) rate s units

-- the deadlines alone: both plans have slots enough in the long run, and the lead covers both spreads and the shift
abbrev pub DeadlineSwitchLaw : Type 0
DeadlineSwitchLaw = (rate : ℕ) (s : Declaration) (claim : StreamClaim) (first : List Bool) (next : StreamClaim) (second : List Bool)
    (periods : ℕ) (units : List PesPacket) → 0 < allowance_rows s.allowance → 0 < s.interval → 0 < per_period first → 0 < per_period second →
    spread first ≤ claim.spread → spread second ≤ next.spread →
    rate_needed s (share_of claim first) ≤ rate_given rate s (share_of claim first) →
    rate_needed s (share_of next second) ≤ rate_given rate s (share_of next second) →
    ((m : ℕ) → 0 < m → m ≤ allowance_rows s.allowance →
    lead_across s (share_of claim first) (share_of next second) (shift first second) m ≤ time_given rate s (per_period first * per_period second) m) →
    KeepsDeclaration s units → InTime (in_turn first periods second) rate s.lead s.drain (max claim.peak next.peak) 0 units

-- the main buffer alone
abbrev pub MainSwitchLaw : Type 0
MainSwitchLaw = (rate : ℕ) (s : Declaration) (claim : StreamClaim) (first : List Bool) (next : StreamClaim) (second : List Bool)
    (periods : ℕ) (units : List PesPacket) (n x : ℕ) (left : List ℕ) → IsProper rate s → 0 < per_period first → 0 < per_period second →
    spread first ≤ claim.spread → spread second ≤ next.spread →
    bytes_across rate s (share_of claim first) (share_of next second) ≤ s.main → KeepsDeclaration s units →
    NoneLeavesEarly s.drain (run_packets (in_turn first periods second) rate s units n) left → mb_fullness rate s.drain x units left ≤ s.main

abbrev pub ProgramLaw : Type 0
ProgramLaw = (rate : ℕ) (claim : ProgramClaim) (marks : List Bool) → 0 < rate → 0 < length marks →
    ProgramConditions rate claim marks → ProgramServed (own marks) rate

abbrev pub ProgramSwitchLaw : Type 0
ProgramSwitchLaw = (rate : ℕ) (claim : ProgramClaim) (first : List Bool) (next : ProgramClaim) (second : List Bool) (periods : ℕ) →
    0 < rate → 0 < length first → 0 < length second → ProgramConditions rate claim first → ProgramConditions rate next second →
    ProgramSwitchConditions rate claim first next → ProgramServed (in_turn first periods second) rate
