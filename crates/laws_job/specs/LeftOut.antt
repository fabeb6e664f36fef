-- Nothing that is found of a stream is left out in silence: it is in a unit of the job, or a line names its packet.
use Rattle.std.specs.Prelude.{◌≡◌, ◌⊎◌, ⊤, ℕ, true, List, [], ◌∷◌, ◌++◌, length, Contains}
use Rattle.pes_packet.specs.declared.reading.PesHeader.{PesHeader}
use Rattle.pid_findings.specs.Views.{WhatView, IsDuplicate, BreaksCounter, IsScrambled, IsTruncated, IsSection, IsBadSection, IsPes, IsBadPes, IsBadPacket}
use Rattle.pid_findings.specs.Views.{IsErrored}
use Rattle.pid_findings.specs.Views.{IsStray}
use Rattle.pid_findings.specs.Views.{FindingView}
use Rattle.demux.specs.Laws.{has_pid}
use Rattle.es_moments.specs.WireUnits.{CarriedUnit}
use Rattle.es_units.specs.CarriedUnits.{Start, role_of, first_packet, continuation, with_more, carried_units}
use Rattle.es_units.specs.UnitWarnings.{truncation_cause, unit_warnings}
use Rattle.es_units.specs.declared.unit_warning.UnitWarningCause.{UnitWarningCause}
use Rattle.es_units.specs.declared.unit_warning.UnitWarningCause.TheVariants as causes

-- ---- lines and units

-- a line of the PID names this packet and this cause; the stream has `count` whole packets
abbrev pub HasLine : ℕ → ℕ → List FindingView → ℕ → UnitWarningCause → Type 0
HasLine pid count findings packet cause = Contains (unit_warnings pid count findings) (record { packet = packet; cause = cause })

-- a line with the first packet of a unit says that a part of it is lost, or that it has no bytes
abbrev pub IsNamedUnit : ℕ → ℕ → List FindingView → CarriedUnit → Type 0
IsNamedUnit pid count findings u = HasLine pid count findings u.packet causes.PartLost ⊎ HasLine pid count findings u.packet causes.EmptyUnit

-- a unit is among the units that the findings carry, or a warning names it
abbrev pub IsCarriedOrNamed : ℕ → ℕ → List FindingView → CarriedUnit → Type 0
IsCarriedOrNamed pid count findings u = Contains (carried_units pid findings) u ⊎ IsNamedUnit pid count findings u

-- ---- a PES packet

-- a PES packet with these bytes is in a unit for which `IsSo` holds, and which this PES packet or an earlier one begins. The unit has the bytes
-- of the earlier PES packets, these bytes, and the bytes of the PES packets that follow
pub record IsInUnit (pid : ℕ) (before : List FindingView) (f : FindingView) (later : List FindingView) (body : List ℕ) (IsSo : CarriedUnit → Type 0) :
    Type 0 where
  pub earlier : List FindingView
  pub first : FindingView
  pub between : List FindingView
  pub found : before ++ f ∷ [] ≡ earlier ++ first ∷ between
  pub start : CarriedUnit
  pub begins : role_of pid first ≡ Start start
  pub ahead : List ℕ
  pub bytes : start.unit.bytes ++ continuation start.stream_id pid (between ++ later) ≡ ahead ++ (body ++ continuation start.stream_id pid later)
  pub is_so : IsSo (with_more start (continuation start.stream_id pid (between ++ later)))

-- a PES packet is padding_stream, whose bytes are thrown away (ISO/IEC 13818-1, 2.4.3.7), or in such a unit, or a line with its first packet says that
-- it has no PTS and no unit is before it, or another stream_id than the unit before it
abbrev pub PesAccounted : ℕ → ℕ → List FindingView → FindingView → List FindingView → PesHeader → List ℕ → (CarriedUnit → Type 0) → Type 0
PesAccounted pid count before f later header body IsSo =
    (header.id ≡ 0xBE) ⊎ (IsInUnit pid before f later body IsSo
    ⊎ (HasLine pid count (before ++ f ∷ later) (first_packet f.packet f.begun) (causes.NoUnitBefore (length body))
    ⊎ HasLine pid count (before ++ f ∷ later) (first_packet f.packet f.begun) (causes.OtherStreamId header.id (length body))))

-- ---- a finding

-- the finding after `before` is accounted for. A duplicate packet repeats the packet before it (2.4.3.3). A damaged packet is found on no PID:
-- `JobLines` has its line
unfoldable pub Accounted : ℕ → ℕ → List FindingView → FindingView → List FindingView → WhatView → Type 0
Accounted pid count before f later IsDuplicate = ⊤
Accounted pid count before f later (BreaksCounter expected found) =
    HasLine pid count (before ++ f ∷ later) (first_packet f.packet f.begun) (causes.Counter expected found)
Accounted pid count before f later IsScrambled = HasLine pid count (before ++ f ∷ later) (first_packet f.packet f.begun) causes.Scrambled
Accounted pid count before f later (IsTruncated bytes) =
    HasLine pid count (before ++ f ∷ later) (first_packet f.packet f.begun) (truncation_cause count f.packet (length bytes))
Accounted pid count before f later (IsSection bytes) = HasLine pid count (before ++ f ∷ later) (first_packet f.packet f.begun) causes.Section
Accounted pid count before f later (IsBadSection error) =
    HasLine pid count (before ++ f ∷ later) (first_packet f.packet f.begun) (causes.BadSection error)
Accounted pid count before f later (IsPes header unended body) =
    PesAccounted pid count before f later header body (IsCarriedOrNamed pid count (before ++ f ∷ later))
Accounted pid count before f later (IsBadPes error) = HasLine pid count (before ++ f ∷ later) (first_packet f.packet f.begun) (causes.BadPes error)
Accounted pid count before f later (IsBadPacket error) = ⊤
Accounted pid count before f later IsErrored = ⊤
Accounted pid count before f later (IsStray size) = HasLine pid count (before ++ f ∷ later) (first_packet f.packet f.begun) causes.Stray

-- each finding of a PID is accounted for, with the findings before and after it
abbrev pub NothingIsSilent : Type 0
NothingIsSilent = (pid count : ℕ) (before : List FindingView) (f : FindingView) (later : List FindingView) → has_pid pid f.pid ≡ true →
    Accounted pid count before f later f.what
