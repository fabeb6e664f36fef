-- The findings of sections that are sent on one PID, each from the begin of a payload on, after pointer_field 0.
use Rattle.std.specs.Prelude.{◌≡◌, ℕ, ◌+◌, ◌-◌, ◌*◌, ◌==◌, Bool, false, nat_le, if◌then◌else◌, List, ◌∷◌, ◌++◌, length, take, replicate, slice_index, Some, Ok}
use Rattle.pes_packet.specs.Payloads.{piece_count}
use Rattle.psi_tables.specs.Views.{SectionView}
use Rattle.psi_tables.specs.Reading.{section_at}
use Rattle.psi_tables.specs.Encoding.{IsWritable, section_bytes}
use Rattle.ts_packet.specs.declared.start.Start.TheVariants.{Begins}
use Rattle.slot_contents.specs.Contents.{Piece}
use Rattle.pid_findings.specs.declared.finding.Kind.TheVariants.{Table}
use Rattle.pid_findings.specs.Views.{WhatView, IsSection, IsTruncated, Found, PidFinding}
use Rattle.pid_findings.specs.OpenUnits.{is_stuffing}
use Rattle.pid_findings.specs.Roles.{may_begin_pes}
use Rattle.laws_run.specs.Sent.{first_pieces, Ending, last_of, is_none}

-- pointer_field 0, the section, and the greatest number of bytes 0xFF that a packet can need (ISO/IEC 13818-1, 2.4.4.1)
unfoldable pub filled_section : List ℕ → List ℕ
filled_section section = 0 ∷ (section ++ replicate 184 0xFF)

-- the packets that a section takes, and its payloads
abbrev pub section_packets : List ℕ → ℕ
section_packets section = piece_count (1 + length section)

abbrev pub section_pieces : List ℕ → List Piece
section_pieces section = first_pieces Begins (section_packets section) (filled_section section)

-- a section that begins in packet i
abbrev pub begun_table : ℕ → List ℕ → WhatView → Bool → Found
begun_table i section what within = record { begun = Some (i, Table (slice_index section 0)); what = what; within = within }

-- the finding of a section that has packets i and `is`: it is whole in its last packet, or cut short where the next section begins
unfoldable pub section_found : Ending → List ℕ → ℕ → List ℕ → PidFinding
section_found e section i is =
    if nat_le (1 + length section) (184 * length (i ∷ is))
    then record { packet = last_of i is; found = begun_table i section (IsSection section) (is_none is) }
    else record { packet = e.packet; found = begun_table i section (IsTruncated (take (184 * length (i ∷ is) - 1) section)) false }

-- these bytes are one whole section, which is taken neither for stuffing (table_id 0xFF) nor, after pointer_field 0, for a PES packet (it begins
-- 00 01)
pub record IsRecognized (bytes : List ℕ) : Type 0 where
  pub view : SectionView
  pub read : section_at bytes ≡ Ok (view, length bytes)
  pub no_fill : is_stuffing bytes ≡ false
  pub no_pes : may_begin_pes (0 ∷ bytes) ≡ false

-- a section that is written is one, unless its table_id is 0xFF: the reserved bits of its second byte are 1
abbrev pub WrittenAreRecognized : Type 0
WrittenAreRecognized = (s : SectionView) → IsWritable s → (s.header.table_id == 0xFF) ≡ false → IsRecognized (section_bytes s)
