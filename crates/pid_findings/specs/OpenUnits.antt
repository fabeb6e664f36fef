-- A section or a PES packet from its first byte on: what its bytes decide, once they are enough.
use Rattle.std.specs.Prelude.{◌≡◌, ⊤, ◌<◌, ◌≤◌, ℕ, zero, suc, ◌+◌, ◌-◌, ◌*◌, ◌%◌, ◌==◌, nat_lt, Bool, true, false, if◌then◌else◌, List, [], ◌∷◌, ◌++◌, length}
use Rattle.std.specs.Prelude.{take, drop, slice_index, Option, Some, None, Result, Ok, Err}
use Rattle.pes_packet.specs.Reading.{header_at}
use Rattle.pes_packet.specs.declared.reading.PesHeader.{PesHeader}
use Rattle.pes_packet.specs.declared.refusal.PesError.{PesError}
use Rattle.pes_packet.specs.declared.refusal.PesError.TheVariants as pes_errors
use Rattle.pes_packet.specs.declared.time_stamps.Stamps.{Stamps}
use Rattle.pes_packet.specs.declared.time_stamps.Stamps.TheVariants.{Absent}
use Rattle.psi_tables.specs.Reading.{section_at}
use Rattle.psi_tables.specs.Views.{SectionView}
use Rattle.psi_tables.specs.declared.error.SectionError.{SectionError}
use Rattle.psi_tables.specs.declared.error.SectionError.TheVariants as section_errors
use Rattle.pid_findings.specs.declared.finding.Kind.{Kind}
use Rattle.pid_findings.specs.declared.finding.Kind.TheVariants.{Table, Pes}
pub use Rattle.pid_findings.specs.declared.open_unit.UnitKind.{UnitKind}
use Rattle.pid_findings.specs.declared.open_unit.UnitKind.TheVariants as unit_kinds
use Rattle.pid_findings.specs.Views.{WhatView, IsTruncated, IsSection, IsBadSection, IsPes, IsBadPes, is_whole, Found}

-- from its first byte on, as far as it has come: the packet of that byte, whether that packet has the random_access_indicator if it is a PES
-- packet, and the bytes
pub record OpenUnit : Type 0 where
  pub packet : ℕ
  pub kind : UnitKind
  pub access : Bool
  pub bytes : List ℕ

-- the most bytes that a PES packet without a length may have
abbrev pub max_unbounded_pes : ℕ
max_unbounded_pes = 8388608

-- a PES packet with its header and the header's size; without a length it ends only where a later one begins, unless it is too long
unfoldable pub of_header : List ℕ → PesHeader × ℕ → Option WhatView
of_header bytes h =
    if h.0.len == 0 then (if nat_lt max_unbounded_pes (length bytes) then Some (IsTruncated bytes) else None)
    else (if nat_lt (length bytes) (6 + h.0.len) then None else Some (IsPes h.0 false (take (6 + h.0.len - h.1) (drop h.1 bytes))))

unfoldable pub of_pes : List ℕ → Result (PesHeader × ℕ) PesError → Option WhatView
of_pes bytes (Ok h) = of_header bytes h
of_pes bytes (Err pes_errors.Short) = None
of_pes bytes (Err e) = Some (IsBadPes e)

unfoldable pub of_section : List ℕ → Result (SectionView × ℕ) SectionError → Option WhatView
of_section bytes (Ok s) = Some (IsSection (take s.1 bytes))
of_section bytes (Err section_errors.Short) = None
of_section bytes (Err e) = Some (IsBadSection e)

-- the verdict of the bytes so far; none while they are too few
unfoldable pub decided : UnitKind → List ℕ → Option WhatView
decided unit_kinds.Pes bytes = of_pes bytes (header_at bytes)
decided unit_kinds.Section bytes = of_section bytes (section_at bytes)

-- with further bytes they decide nothing, as long as there are fewer than `least` in all
abbrev pub IsUndecidedBelow : UnitKind → List ℕ → ℕ → Type 0
IsUndecidedBelow kind bytes least = (more : List ℕ) → length (bytes ++ more) < least → decided kind (bytes ++ more) ≡ None

-- the front of an open unit has the bytes of its header, if it is a PES packet whose header was read, and none otherwise
abbrev pub IsFront : Option PesHeader → UnitKind → List ℕ → List ℕ → Type 0
IsFront None kind front bytes = front ≡ []
IsFront (Some header) kind front bytes = (kind ≡ unit_kinds.Pes) × (header_at bytes ≡ Ok (header, length front))

-- bytes are left out only after a header that was read
abbrev pub FollowsHeader : Option PesHeader → ℕ → Type 0
FollowsHeader None left_out = left_out ≡ 0
FollowsHeader (Some header) left_out = ⊤

-- the parts of an open unit: the header and the front, all bytes, and the least size at which they may decide it
abbrev pub IsOpen : Option PesHeader → UnitKind → List ℕ → List ℕ → ℕ → Type 0
IsOpen header kind front bytes least = (length bytes ≤ max_unbounded_pes) × ((least ≤ max_unbounded_pes + 1)
    × (IsUndecidedBelow kind bytes least × IsFront header kind front bytes))

abbrev pub is_stamped : Stamps → Bool
is_stamped Absent = false
is_stamped _ = true

abbrev pub has_pts : Result (PesHeader × ℕ) PesError → Bool
has_pts (Err e) = false
has_pts (Ok h) = is_stamped h.0.stamps

-- the kind of a unit that begins: a section of a table_id, or a PES packet, whose header has a PTS if it could be read, and whose first packet has the
-- random_access_indicator or not
unfoldable pub begun_kind : UnitKind → Bool → List ℕ → Kind
begun_kind unit_kinds.Pes access bytes = Pes (has_pts (header_at bytes)) access
begun_kind unit_kinds.Section access bytes = Table (slice_index bytes 0)

-- a finding about a unit
abbrev pub about : OpenUnit → WhatView → Found
about unit what = record { begun = Some (unit.packet, begun_kind unit.kind unit.access unit.bytes); what = what; within = false }

-- a finding about a unit in the packet where it begins
abbrev pub about_within : OpenUnit → WhatView → Found
about_within unit what = record { begun = Some (unit.packet, begun_kind unit.kind unit.access unit.bytes); what = what; within = is_whole what }

-- the finding for a PES packet with this header and body, at the packet where it begins
abbrev pub whole_pes : ℕ → Bool → PesHeader → List ℕ → Found
whole_pes packet access header body = record { begun = Some (packet, Pes (is_stamped header.stamps) access); what = IsPes header false body; within = false }

abbrev pub plain : WhatView → Found
plain what = record { begun = None; what = what; within = false }

-- an open unit with further bytes
abbrev pub appended : OpenUnit → List ℕ → OpenUnit
appended unit more = record unit { bytes = unit.bytes ++ more }

-- Sections one after another, up to a byte FF in the place of a table_id (ISO/IEC 13818-1, 2.4.4).

abbrev pub section : ℕ → List ℕ → OpenUnit
section packet bytes = record { packet = packet; kind = unit_kinds.Section; access = false; bytes = bytes }

-- stuffing, or nothing, is at the front
abbrev pub is_stuffing : List ℕ → Bool
is_stuffing [] = true
is_stuffing (table_id ∷ bytes) = table_id == 0xFF

-- the number of bytes of a section by its section_length: three more
abbrev pub declared_size : List ℕ → ℕ
declared_size bytes = 3 + (slice_index bytes 1 % 16 * 256 + slice_index bytes 2)

-- the bytes that a section takes once it is decided; one whose length is refused takes all
unfoldable pub taken_by : List ℕ → WhatView → ℕ
taken_by bytes (IsBadSection section_errors.Length) = length bytes
taken_by bytes what = declared_size bytes

-- the sections that are decided, among the bytes after the first k
unfoldable pub sections_in : ℕ → ℕ → List ℕ → List Found
sections_in packet k [] = []
sections_in packet (suc k) (b ∷ bytes) = sections_in packet k bytes
sections_in packet zero (b ∷ bytes) = if b == 0xFF then [] else elim (decided unit_kinds.Section (b ∷ bytes)) [
  | None ↦ []
  | Some what ↦ about_within (section packet (b ∷ bytes)) what ∷ sections_in packet (taken_by (b ∷ bytes) what - 1) bytes
]

-- the bytes of the last section, if it is not decided yet
unfoldable pub last_in : ℕ → List ℕ → Option (List ℕ)
last_in k [] = None
last_in (suc k) (b ∷ bytes) = last_in k bytes
last_in zero (b ∷ bytes) = if b == 0xFF then None else elim (decided unit_kinds.Section (b ∷ bytes)) [
  | None ↦ Some (b ∷ bytes)
  | Some what ↦ last_in (taken_by (b ∷ bytes) what - 1) bytes
]
