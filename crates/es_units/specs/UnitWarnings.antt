-- Warnings: findings on a PID that are in no carried unit, and a PES packet whose end is not known.
use Rattle.std.specs.Prelude.{ℕ, ◌==◌, ◌&&◌, Bool, false, nat_le, if◌then◌else◌, Option, Some, None, List, [], ◌∷◌, ◌++◌, length}
use Rattle.pes_packet.specs.declared.time_stamps.Stamps.{Stamps}
use Rattle.pes_packet.specs.declared.time_stamps.Stamps.TheVariants.{Absent, Pts, PtsDts}
use Rattle.pid_findings.specs.Views.{WhatView, IsDuplicate, BreaksCounter, IsScrambled, IsTruncated, IsSection, IsBadSection, IsPes, IsBadPes, IsBadPacket}
use Rattle.pid_findings.specs.Views.{IsErrored}
use Rattle.pid_findings.specs.Views.{IsStray}
use Rattle.pid_findings.specs.Views.{FindingView}
use Rattle.demux.specs.Laws.{has_pid}
use Rattle.es_units.specs.CarriedUnits.{RoleView, Ignored, Start, Continuation, Interruption, role_of, first_packet, continuation, is_cut, is_split}
use Rattle.es_units.specs.declared.unit_warning.UnitWarningCause.{UnitWarningCause}
use Rattle.es_units.specs.declared.unit_warning.UnitWarningCause.TheVariants as causes
use Rattle.es_units.specs.declared.unit_warning.UnitWarning.{UnitWarning}

-- 1. One finding

-- the stream_id of the unit that the next PES packet without a PTS continues, if it has the same stream_id
unfoldable pub current_after : Option ℕ → RoleView → Option ℕ
current_after current Ignored = current
current_after current (Start u) = Some u.stream_id
current_after None (Continuation id body) = None
current_after (Some current) (Continuation id body) = if id == current then Some current else None
current_after current (Interruption unstamped) = None

-- the warning for a PES packet that is in a unit
abbrev pub open_ended_cause : Bool → Option UnitWarningCause
open_ended_cause unended = if unended then Some causes.OpenEnded else None

-- the warning for a PES packet without a PTS: it continues the current unit, or is padding_stream, or is in no unit
unfoldable pub unstamped_cause : Option ℕ → ℕ → Bool → ℕ → Option UnitWarningCause
unstamped_cause None id unended size = Some (causes.NoUnitBefore size)
unstamped_cause (Some current) id unended size = if id == current then open_ended_cause unended else Some (causes.OtherStreamId id size)

-- the warning for the first PES packet of a unit
unfoldable pub first_cause : Bool → Bool → Bool → ℕ → Option UnitWarningCause
first_cause lost alone unended size =
    if lost then Some causes.PartLost else (if size == 0 && alone then Some causes.EmptyUnit else open_ended_cause unended)

unfoldable pub pes_cause : Option ℕ → Bool → Bool → Bool → ℕ → Stamps → ℕ → Option UnitWarningCause
pes_cause current lost alone unended id Absent size = if id == 0xBE then None else unstamped_cause current id unended size
pes_cause current lost alone unended id (Pts pts) size = first_cause lost alone unended size
pes_cause current lost alone unended id (PtsDts pts dts) size = first_cause lost alone unended size

-- cut short in a packet, or by the end of a stream of `count` whole packets
abbrev pub truncation_cause : ℕ → ℕ → ℕ → UnitWarningCause
truncation_cause count packet size = if nat_le count packet then causes.TruncatedByEnd size else causes.Truncated size

unfoldable pub cause_of_what : ℕ → ℕ → Option ℕ → Bool → Bool → WhatView → Option UnitWarningCause
cause_of_what count packet current lost alone IsDuplicate = None
cause_of_what count packet current lost alone (BreaksCounter expected found) = Some (causes.Counter expected found)
cause_of_what count packet current lost alone IsScrambled = Some causes.Scrambled
cause_of_what count packet current lost alone (IsTruncated bytes) = Some (truncation_cause count packet (length bytes))
cause_of_what count packet current lost alone (IsSection bytes) = Some causes.Section
cause_of_what count packet current lost alone (IsBadSection error) = Some (causes.BadSection error)
cause_of_what count packet current lost alone (IsPes header unended body) = pes_cause current lost alone unended header.id header.stamps (length body)
cause_of_what count packet current lost alone (IsBadPes error) = Some (causes.BadPes error)
cause_of_what count packet current lost alone (IsBadPacket error) = None
cause_of_what count packet current lost alone IsErrored = None
cause_of_what count packet current lost alone (IsStray size) = Some causes.Stray

-- the warning for a finding, by the findings after it
unfoldable pub id_of : WhatView → ℕ
id_of (IsPes header unended body) = header.id
id_of _ = 0

-- a PES packet without bytes
unfoldable pub is_empty : WhatView → Bool
is_empty (IsPes header unended body) = length body == 0
is_empty _ = false

unfoldable pub cause_of : Bool → ℕ → ℕ → Option ℕ → FindingView → List FindingView → Option UnitWarningCause
cause_of split pid count current finding later =
    if has_pid pid finding.pid then cause_of_what count finding.packet current (split && is_cut (id_of finding.what) pid later)
    (length (continuation (id_of finding.what) pid later) == 0) finding.what else None

-- 2. All findings in order, each with the packet of its first byte

unfoldable pub warning_list : ℕ → Option UnitWarningCause → List UnitWarning
warning_list packet None = []
warning_list packet (Some cause) = record { packet = packet; cause = cause } ∷ []

unfoldable pub warnings_from : Bool → ℕ → ℕ → Option ℕ → List FindingView → List UnitWarning
warnings_from split pid count current [] = []
warnings_from split pid count current (finding ∷ later) =
    warning_list (first_packet finding.packet finding.begun) (cause_of split pid count current finding later)
    ++ warnings_from split pid count (current_after current (role_of pid finding)) later

-- in a stream of `count` whole packets
abbrev pub unit_warnings : ℕ → ℕ → List FindingView → List UnitWarning
unit_warnings pid count findings = warnings_from (is_split pid findings) pid count None findings
