-- A plan of good shape.
use Rattle.std.specs.Prelude.{◌≡◌, ℕ, ◌<◌, ◌≤◌, length}
use Rattle.own_slots.specs.Period.{per_period}
use Rattle.description_parts.specs.Described.{Described}
use Rattle.description_parts.specs.Tables.{table_count, clock_of}
use Rattle.slot_plan.specs.declared.slot.Item.TheVariants.{Stream, Pcr, Table}
use Rattle.slot_plan.specs.Planned.{Planned}
use Rattle.slot_plan.specs.Items.{marks}

-- the period has slots, but not too many; each stream, each program's clock and each table has a slot; the certificate has an entry
-- for each stream and each program
pub record IsShaped (d : Described) (p : Planned) : Type 0 where
  pub some_slots : 1 ≤ length p.slots
  pub slot_bound : length p.slots ≤ 65536
  pub streams_own : (i : ℕ) → i < length d.streams → 0 < per_period (marks (Stream i) p.slots)
  pub programs_own : (i : ℕ) → i < length d.programs → 0 < per_period (marks (Pcr (clock_of d i)) p.slots)
  pub tables_own : (t : ℕ) → t < table_count d → 0 < per_period (marks (Table t) p.slots)
  pub stream_claims : length p.certificate.streams ≡ length d.streams
  pub program_claims : length p.certificate.programs ≡ length d.programs
