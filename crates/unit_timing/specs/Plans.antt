-- The declaration of a stream, and the promises for its units and for the buffers of a program's tables, in runs of any length.
use Rattle.std.specs.Prelude.{ℕ, ◌≤◌, Bool, List}
use Rattle.own_slots.specs.Slots.{Rises, own_slots}
use Rattle.unit_timing.specs.Buffers.{tb_size, bsys_size}
use Rattle.unit_timing.specs.declared.allowance.Allowance.{Allowance}
use Rattle.unit_timing.specs.PesPacket.{PesPacket, Spaced, Sized}
use Rattle.unit_timing.specs.Allowances.{KeepsAllowance}
use Rattle.unit_timing.specs.Schedule.{Packet, packets_in_slots}
use Rattle.unit_timing.specs.Transport.{slots_of, tb_fullness, pes_left, NoneLeavesEarly}
use Rattle.unit_timing.specs.Arrived.{AllLeft}
use Rattle.unit_timing.specs.MainBuffer.{mb_fullness}
use Rattle.unit_timing.specs.SystemBuffer.{system_tb_fullness, bsys_fullness}

-- the declaration of a stream: times in units of 90 kHz, rates in bits a second, sizes in bytes
pub record Declaration : Type 0 where
  pub interval : ℕ  -- the least time between two stamps
  pub lead : ℕ  -- how long before its stamp a unit may be sent
  pub drain : ℕ  -- the rate of the transport buffer
  pub main : ℕ  -- the size of the main buffer
  pub largest : ℕ  -- the size of the greatest unit, header and all
  pub unit_packets : ℕ  -- its number of packets
  pub allowance : Allowance  -- the most packets of units in a row

-- units within the declaration
pub record KeepsDeclaration (s : Declaration) (units : List PesPacket) : Type 0 where
  pub spaced : Spaced s.interval s.lead units
  pub sized : Sized s.largest units
  pub allowed : KeepsAllowance s.allowance s.unit_packets units

-- the packets of these units in a run of n slots
abbrev pub run_packets : (ℕ → Bool) → ℕ → Declaration → List PesPacket → ℕ → List Packet
run_packets own rate s units n = packets_in_slots own rate s.lead 0 units (own_slots own 0 n)

-- the promise for a stream in runs of any length: at each moment the transport buffer holds at most 512 bytes, and each unit that
-- is due has left it whole by its stamp; and at each moment the main buffer holds at most its size, even if bytes leave the
-- transport buffer at other times, as from a buffer that begins empty after some of the packets
pub record StreamServed (own : ℕ → Bool) (rate : ℕ) (s : Declaration) (units : List PesPacket) : Type 0 where
  pub transport : (n x : ℕ) → tb_fullness rate s.drain x (slots_of (run_packets own rate s units n)) ≤ tb_size
  pub arrived : (n : ℕ) → AllLeft rate s.drain n units (pes_left rate s.drain 0 (run_packets own rate s units n))
  pub main : (n x : ℕ) (left : List ℕ) → NoneLeavesEarly s.drain (run_packets own rate s units n) left → mb_fullness rate s.drain x units left ≤ s.main

-- the promise for the buffers of a program's tables at each moment, whichever slots of the program are used
pub record ProgramServed (own : ℕ → Bool) (rate : ℕ) : Type 0 where
  pub transport : (slots : List ℕ) (x : ℕ) → Rises own 0 slots → system_tb_fullness rate x slots ≤ tb_size
  pub system : (slots : List ℕ) (x : ℕ) → Rises own 0 slots → bsys_fullness rate x slots ≤ bsys_size
