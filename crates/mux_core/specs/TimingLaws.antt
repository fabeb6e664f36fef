-- The promises over all time of a schedule that keeps the conditions on its periods.
use Rattle.std.specs.Prelude.{◌≡◌, ℕ, ◌*◌, ◌+◌, ◌<◌, ◌≤◌, List, Some, length, map, slice_get}
use Rattle.clock27.specs.Recurrence.{Recur}
use Rattle.own_slots.specs.Slots.{Rises, own_slots}
use Rattle.unit_timing.specs.PesPacket.{PesPacket}
use Rattle.unit_timing.specs.Plans.{KeepsDeclaration, run_packets}
use Rattle.unit_timing.specs.Transport.{slots_of, tb_fullness, pes_left}
use Rattle.unit_timing.specs.Arrived.{AllLeft}
use Rattle.unit_timing.specs.MainBuffer.{mb_fullness}
use Rattle.unit_timing.specs.SystemBuffer.{system_tb_fullness, bsys_fullness}
use Rattle.description_parts.specs.Described.{Described, DescribedProgram, DescribedStream}
use Rattle.description_parts.specs.Ranges.{IsInRange}
use Rattle.description_parts.specs.Tables.{clock_of, table_count, table_limit, section_count}
use Rattle.slot_plan.specs.declared.slot.Item.TheVariants.{Stream, Pcr, System}
use Rattle.slot_plan.specs.Planned.{Planned}
use Rattle.slot_plan.specs.Conditions.{IsServing}
use Rattle.slot_plan.specs.SwitchConditions.{IsSwitchable}
use Rattle.slot_plan.specs.Schedule.{Schedule, single, switched, owned}
use Rattle.slot_plan.specs.TableRounds.{section_starts}
use Rattle.slot_plan.specs.Promised.{declaration}

-- units of a stream within its declaration that are due in a run of n slots have left its transport buffer whole by their
-- decoding times
abbrev pub UnitsArrive : Described → Schedule → Type 0
UnitsArrive d schedule = (i n : ℕ) (s : DescribedStream) (pes : List PesPacket) → slice_get d.streams i ≡ Some s → KeepsDeclaration (declaration s) pes →
    AllLeft d.rate s.rx n pes (pes_left d.rate s.rx 0 (run_packets (owned schedule (Stream i)) d.rate (declaration s) pes n))

-- a stream's transport buffer never holds more than 512 bytes (ISO/IEC 13818-1, 2.4.2.3)
abbrev pub TransportFits : Described → Schedule → Type 0
TransportFits d schedule = (i n x : ℕ) (s : DescribedStream) (pes : List PesPacket) → slice_get d.streams i ≡ Some s → KeepsDeclaration (declaration s) pes →
    tb_fullness d.rate s.rx x (slots_of (run_packets (owned schedule (Stream i)) d.rate (declaration s) pes n)) ≤ 512

-- the main buffer of a stream never holds more than its size
abbrev pub MainFits : Described → Schedule → Type 0
MainFits d schedule = (i n x : ℕ) (s : DescribedStream) (pes : List PesPacket) → slice_get d.streams i ≡ Some s → KeepsDeclaration (declaration s) pes →
    mb_fullness d.rate s.rx x pes (pes_left d.rate s.rx 0 (run_packets (owned schedule (Stream i)) d.rate (declaration s) pes n)) ≤ s.main

-- the transport buffer of the tables of a program never holds more than 512 bytes, nor the system buffer more than 1,536, whichever slots of the PAT and of
-- the PMT are used
abbrev pub SystemFits : Described → Schedule → Type 0
SystemFits d schedule = (i x : ℕ) (slots : List ℕ) → i < length d.programs → Rises (owned schedule (System i)) 0 slots →
    (system_tb_fullness d.rate x slots ≤ 512) × (bsys_fullness d.rate x slots ≤ 1536)

-- the PCRs of a program recur within its limit, and each section of a table within the table's limit, from the begin to the end of the run (ISO/IEC 13818-1,
-- 2.7.2; ETSI TR 101 290, 5.2)
abbrev pub PcrsRecur : Described → Schedule → Type 0
PcrsRecur d schedule = (i n : ℕ) (p : DescribedProgram) → slice_get d.programs i ≡ Some p →
    Recur d.rate p.pcr_limit 0 (map (λ s. 188 * s + 10) (own_slots (owned schedule (Pcr (clock_of d i))) 0 n)) (188 * n)

abbrev pub SectionsRecur : Described → Schedule → Type 0
SectionsRecur d schedule = (t j n : ℕ) → t < table_count d → j < section_count d t →
    Recur d.rate (table_limit d t) 0 (map (λ s. 188 * s) (own_slots (section_starts d schedule t j) 0 n)) (188 * n)

-- a promise for one plan whose conditions hold
abbrev pub OfPlan : (Described → Schedule → Type 0) → Type 0
OfPlan promise = (d : Described) (p : Planned) → IsInRange d → IsServing d p → promise d (single p.slots)

-- a promise for two plans, the first for any number of its periods
abbrev pub OfSwitch : (Described → Schedule → Type 0) → Type 0
OfSwitch promise = (d : Described) (first second : Planned) (periods : ℕ) → IsInRange d → IsServing d first → IsSwitchable d first second →
    promise d (switched first.slots periods second.slots)
