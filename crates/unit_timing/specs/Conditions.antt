-- The conditions on a stream's own slots, and on the own slots of a program's tables, in one plan and in two plans in turn. Each
-- compares two whole numbers, which are defined here: numbers of the declaration and numbers of the own slots.
use Rattle.std.specs.Prelude.{ℕ, ◌+◌, ◌-◌, ◌*◌, ◌/◌, ◌<◌, ◌≤◌, max, min, Bool, List, length}
use Rattle.clock27.specs.Units.{slot_units_at_1bps}
use Rattle.clock27.specs.Units.{byte_units_at_1bps}
use Rattle.own_slots.specs.Period.{per_period}
use Rattle.own_slots.specs.Spread.{spread, most_within}
use Rattle.own_slots.specs.Work.{HoldsWork, work_left}
use Rattle.own_slots.specs.Switch.{shift}
use Rattle.unit_timing.specs.Buffers.{tb_size, system_tb_drain, bsys_size, bsys_drain}
use Rattle.unit_timing.specs.Allowances.{allowance_rows, packets_at_once, steady_packets, steady_time, packets_within}
use Rattle.unit_timing.specs.Plans.{Declaration}

-- numbers that are not 0
pub record IsProper (rate : ℕ) (s : Declaration) : Type 0 where
  pub some_rate : 0 < rate
  pub some_interval : 0 < s.interval
  pub some_lead : 0 < s.lead
  pub some_drain : 0 < s.drain
  pub some_rows : 0 < allowance_rows s.allowance

-- ---- the claims of a plan

-- a plan's claim for a stream's own slots: their spread, the work with which a period begins, the greatest work after an own slot
pub record StreamClaim : Type 0 where
  pub spread : ℕ
  pub start : ℕ
  pub peak : ℕ

-- a plan's claim for the slots of a program's tables: the works of the transport buffer, and the works of the system buffer
pub record ProgramClaim : Type 0 where
  pub transport_start : ℕ
  pub transport_peak : ℕ
  pub system_start : ℕ
  pub system_peak : ℕ

-- a stream's own slots in numbers: how many slots of a period they are, and what the plan claims for them
pub record Share : Type 0 where
  pub count : ℕ
  pub period : ℕ
  pub spread : ℕ
  pub peak : ℕ

abbrev pub share_of : StreamClaim → List Bool → Share
share_of claim marks = record { count = per_period marks; period = length marks; spread = claim.spread; peak = claim.peak }

-- ---- in the long run there are slots enough

-- needed: the slots that the packets of a group (or of the pace) take; given: the own slots in the time of a group (or in one unit
-- of 90 kHz)
abbrev pub rate_needed : Declaration → Share → ℕ
rate_needed s own = steady_packets s.allowance * own.period

abbrev pub rate_given : ℕ → Declaration → Share → ℕ
rate_given rate s own = own.count * steady_time s.allowance s.interval * rate

-- ---- the last of m units on end has left the transport buffer by its stamp

-- the most packets of m units in a row, at most a group of them; by pace the burst
abbrev pub packets_in_row : Declaration → ℕ → ℕ
packets_in_row s m = packets_at_once s.allowance s.unit_packets m

-- when it has left at the latest, times the number of own slots: its slots, and the work after the last
abbrev pub time_needed : Declaration → ℕ → ℕ → ℕ → ℕ
time_needed s count slots peak = slots * slot_units_at_1bps * s.drain + count * peak * byte_units_at_1bps

-- its stamp
abbrev pub time_given : ℕ → Declaration → ℕ → ℕ → ℕ
time_given rate s count m = count * (s.lead + (m - 1) * s.interval) * rate * s.drain

-- the slots of m units in one plan, times its own slots
abbrev pub slots_needed : Declaration → Share → ℕ → ℕ
slots_needed s own m = own.spread + packets_in_row s m * own.period + own.count

-- and over two plans, times the own slots of both: both spreads, the slower of the two paces, and the shift of the
-- second's own slots
abbrev pub slots_across : Share → Share → ℕ → ℕ → ℕ
slots_across first second late packets = first.spread * second.count + second.spread * first.count
    + packets * max (first.period * second.count) (second.period * first.count)
    + first.count * second.count * (late + 1)

abbrev pub lead_needed : Declaration → Share → ℕ → ℕ
lead_needed s own m = time_needed s own.count (slots_needed s own m) own.peak

abbrev pub lead_across : Declaration → Share → Share → ℕ → ℕ → ℕ
lead_across s first second late m =
    time_needed s (first.count * second.count) (slots_across first second late (packets_in_row s m)) (max first.peak second.peak)

-- ---- the bytes that wait for their stamp find room in the main buffer

-- the units that can wait at once, rounded up, and the slots in which their packets arrive
abbrev pub waiting_units : Declaration → ℕ
waiting_units s = (s.lead + (s.interval - 1)) / s.interval

abbrev pub waiting_slots : ℕ → Declaration → ℕ
waiting_slots rate s = (s.lead * rate + (slot_units_at_1bps - 1)) / slot_units_at_1bps

-- their packets at most
abbrev pub waiting_packets : Declaration → ℕ
waiting_packets s = packets_within s.allowance s.unit_packets (waiting_units s) s.lead

-- the bytes that can wait at once: by the sizes of the units or by their packets, and by the slots of one plan
abbrev pub bytes_by_units : Declaration → ℕ
bytes_by_units s = min (waiting_units s * s.largest) (184 * waiting_packets s)

abbrev pub bytes_by_slots : ℕ → Declaration → Share → ℕ
bytes_by_slots rate s own = 184 * most_within own.count own.period own.spread (waiting_slots rate s)

abbrev pub bytes_waiting : ℕ → Declaration → Share → ℕ
bytes_waiting rate s own = min (bytes_by_units s) (bytes_by_slots rate s own)

abbrev pub bytes_across : ℕ → Declaration → Share → Share → ℕ
bytes_across rate s first second = min (bytes_by_units s) (bytes_by_slots rate s first + bytes_by_slots rate s second)

-- ---- the conditions

-- on a stream's own slots in one plan
pub record StreamConditions (rate : ℕ) (s : Declaration) (claim : StreamClaim) (marks : List Bool) : Type 0 where
  pub owned : 0 < per_period marks
  pub spread_claimed : spread marks ≤ claim.spread
  pub rate_serves : rate_needed s (share_of claim marks) ≤ rate_given rate s (share_of claim marks)
  pub work : HoldsWork rate s.drain tb_size claim.start claim.peak marks
  pub lead_serves : (m : ℕ) → 0 < m → m ≤ allowance_rows s.allowance → lead_needed s (share_of claim marks) m ≤ time_given rate s (per_period marks) m
  pub main_fits : bytes_waiting rate s (share_of claim marks) ≤ s.main

-- the further conditions on two plans in turn
pub record StreamSwitchConditions (rate : ℕ) (s : Declaration) (claim : StreamClaim) (first : List Bool) (next : StreamClaim) (second : List Bool) : Type 0
  where
    pub work : work_left rate s.drain claim.start first ≤ next.start
    pub lead_serves : (m : ℕ) → 0 < m → m ≤ allowance_rows s.allowance →
        lead_across s (share_of claim first) (share_of next second) (shift first second) m ≤ time_given rate s (per_period first * per_period second) m
    pub main_fits : bytes_across rate s (share_of claim first) (share_of next second) ≤ s.main

-- on the slots of a program's tables in one plan
pub record ProgramConditions (rate : ℕ) (claim : ProgramClaim) (marks : List Bool) : Type 0 where
  pub transport : HoldsWork rate system_tb_drain tb_size claim.transport_start claim.transport_peak marks
  pub system : HoldsWork rate bsys_drain bsys_size claim.system_start claim.system_peak marks

-- the conditions on two plans in turn
pub record ProgramSwitchConditions (rate : ℕ) (claim : ProgramClaim) (first : List Bool) (next : ProgramClaim) : Type 0 where
  pub transport : work_left rate system_tb_drain claim.transport_start first ≤ next.transport_start
  pub system : work_left rate bsys_drain claim.system_start first ≤ next.system_start
