-- The units that the findings of a PID carry.
use Rattle.std.specs.Prelude.{ℕ, ◌==◌, ◌&&◌, not, Bool, true, false, if◌then◌else◌, Option, Some, None, unwrap_or, List, [], ◌∷◌, ◌++◌, length, map}
use Rattle.std.specs.List.{list_any}
use Rattle.std.specs.Option.{option_or}
use Rattle.pes_packet.specs.AccessUnits.{AccessUnit}
use Rattle.pes_packet.specs.HeaderMarks.{header_marks}
use Rattle.pes_packet.specs.declared.marks.Marks.{Marks}
use Rattle.pes_packet.specs.declared.time_stamps.Stamps.{Stamps}
use Rattle.pes_packet.specs.declared.time_stamps.Stamps.TheVariants.{Absent, Pts, PtsDts}
use Rattle.pid_findings.specs.declared.finding.Kind.{Kind}
use Rattle.pid_findings.specs.declared.finding.Kind.TheVariants as kinds
use Rattle.pid_findings.specs.Views.{WhatView, IsDuplicate, IsTruncated, IsPes, IsBadPacket, IsErrored, IsStray, FindingView}
use Rattle.demux.specs.Laws.{has_pid}
use Rattle.es_moments.specs.ApartUnits.{apart_units}
use Rattle.es_moments.specs.WireUnits.{CarriedUnit, unit_with}

-- 1. Roles

-- the role of a finding among the units of a PID: none (a duplicate packet, stray payload, padding_stream, a finding of no PID or of another one);
-- the start of a unit (a PES packet with a PTS); more bytes of one, with the stream_id that they have (a PES packet without a PTS);
-- or an interruption (anything else), and whether a PES packet without a PTS is cut short there
pub data RoleView : Type 0 where
  Ignored : RoleView
  Start : CarriedUnit → RoleView
  Continuation : ℕ → List ℕ → RoleView
  Interruption : Bool → RoleView

-- the bytes of padding_stream, 0xBE, are thrown away (ISO/IEC 13818-1, 2.4.3.7)
unfoldable pub pes_role : ℕ → ℕ → Marks → Stamps → List ℕ → RoleView
pes_role packet stream_id marks Absent body = if stream_id == 0xBE then Ignored else Continuation stream_id body
pes_role packet stream_id marks (Pts pts) body = Start (unit_with packet stream_id pts pts marks body)
pes_role packet stream_id marks (PtsDts pts dts) body = Start (unit_with packet stream_id dts pts marks body)

-- whether a PES packet begins from which no PTS was read
unfoldable pub is_unstamped : Option (ℕ × Kind) → Bool
is_unstamped None = false
is_unstamped (Some (packet, kinds.Table table_id)) = false
is_unstamped (Some (packet, kinds.Pes stamped access)) = not stamped

-- what begins is a PES packet whose first packet has the random_access_indicator (ISO/IEC 13818-1, 2.4.3.5)
unfoldable pub is_access_point : Option (ℕ × Kind) → Bool
is_access_point None = false
is_access_point (Some (packet, kinds.Table table_id)) = false
is_access_point (Some (packet, kinds.Pes stamped access)) = access

unfoldable pub role_of_what : ℕ → Bool → Bool → WhatView → RoleView
role_of_what packet unstamped access IsDuplicate = Ignored
role_of_what packet unstamped access (IsBadPacket error) = Ignored
role_of_what packet unstamped access IsErrored = Ignored
role_of_what packet unstamped access (IsStray size) = Ignored
role_of_what packet unstamped access (IsPes header unended body) = pes_role packet header.id (header_marks access header) header.stamps body
role_of_what packet unstamped access (IsTruncated bytes) = Interruption unstamped
role_of_what packet unstamped access _ = Interruption false

-- the packet of the first byte
unfoldable pub first_packet : ℕ → Option (ℕ × Kind) → ℕ
first_packet packet None = packet
first_packet packet (Some begun) = begun.0

unfoldable pub role_of : ℕ → FindingView → RoleView
role_of pid finding =
    if has_pid pid finding.pid
    then role_of_what (first_packet finding.packet finding.begun) (is_unstamped finding.begun) (is_access_point finding.begun) finding.what
    else Ignored

-- 2. Units of several PES packets

-- the bytes that a finding has for a unit of this stream_id; none where it ends the unit
unfoldable pub more_bytes : ℕ → RoleView → Option (List ℕ)
more_bytes id Ignored = Some []
more_bytes id (Start u) = None
more_bytes id (Continuation other body) = if other == id then Some body else None
more_bytes id (Interruption unstamped) = None

unfoldable pub continued_by : Option (List ℕ) → List ℕ → List ℕ
continued_by None later = []
continued_by (Some body) later = body ++ later

-- the bytes that follow the first PES packet of a unit of this stream_id
unfoldable pub continuation : ℕ → ℕ → List FindingView → List ℕ
continuation id pid [] = []
continuation id pid (finding ∷ findings) = continued_by (more_bytes id (role_of pid finding)) (continuation id pid findings)

-- how a role ends a unit of this stream_id, if it does: whether by something else than the start of the next one
unfoldable pub end_of : ℕ → RoleView → Option Bool
end_of id Ignored = None
end_of id (Start u) = Some false
end_of id (Continuation other body) = if other == id then None else Some true
end_of id (Interruption unstamped) = Some true

-- what follows ends it by something else than the start of the next one, or the end of the input
unfoldable pub is_cut : ℕ → ℕ → List FindingView → Bool
is_cut id pid [] = false
is_cut id pid (finding ∷ findings) = unwrap_or (end_of id (role_of pid finding)) (is_cut id pid findings)

-- the stream_id of a unit that starts
unfoldable pub start_id : RoleView → Option ℕ
start_id (Start u) = Some u.stream_id
start_id _ = None

-- the stream_id of the first unit
unfoldable pub first_id : ℕ → List FindingView → Option ℕ
first_id pid [] = None
first_id pid (finding ∷ findings) = option_or (start_id (role_of pid finding)) (first_id pid findings)

-- whether a finding is a PES packet that continues a unit, whole or cut short
unfoldable pub is_part : Option ℕ → RoleView → Bool
is_part first Ignored = false
is_part first (Start u) = false
is_part None (Continuation other body) = false
is_part (Some id) (Continuation other body) = other == id
is_part first (Interruption unstamped) = unstamped

-- whether units of the PID have several PES packets: a loss after a unit may then be a loss of its part
unfoldable pub is_split : ℕ → List FindingView → Bool
is_split pid findings = list_any (λ finding. is_part (first_id pid findings) (role_of pid finding)) findings

-- 3. Units

abbrev pub with_more : CarriedUnit → List ℕ → CarriedUnit
with_more u more = unit_with u.packet u.stream_id u.unit.dts u.unit.pts u.unit.marks (u.unit.bytes ++ more)

-- a unit, if it has bytes and no part of it is lost, before the later units
abbrev pub whole_unit : Bool → CarriedUnit → List CarriedUnit → List CarriedUnit
whole_unit lost u later = if lost then later else (if length u.unit.bytes == 0 then later else u ∷ later)

-- the unit that starts with a finding, before the later units
unfoldable pub units_from : Bool → ℕ → RoleView → List FindingView → List CarriedUnit → List CarriedUnit
units_from split pid (Start u) findings later =
    whole_unit (split && is_cut u.stream_id pid findings) (with_more u (continuation u.stream_id pid findings)) later
units_from split pid _ findings later = later

unfoldable pub units_in : Bool → ℕ → List FindingView → List CarriedUnit
units_in split pid [] = []
units_in split pid (finding ∷ findings) = units_from split pid (role_of pid finding) findings (units_in split pid findings)

-- the units of a PID: each PES packet with a PTS, and the PES packets without a PTS that follow it directly with its stream_id; a unit
-- with a lost part is left out
abbrev pub carried_units : ℕ → List FindingView → List CarriedUnit
carried_units pid findings = units_in (is_split pid findings) pid findings

-- their bytes, and their stamps on the wire
abbrev pub wire_units : ℕ → List FindingView → List AccessUnit
wire_units pid findings = map (λ u. u.unit) (carried_units pid findings)

-- the units of a PID, as on the wire
abbrev pub apart_wire_units : ℕ → List FindingView → List AccessUnit
apart_wire_units pid findings = map (λ u. u.unit) (apart_units (carried_units pid findings))
