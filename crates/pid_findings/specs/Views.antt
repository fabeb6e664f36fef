-- Findings without where their bytes lie in memory.
use Rattle.std.specs.Prelude.{ℕ, Bool, true, false, List, Option}
use Rattle.pes_packet.specs.declared.reading.PesHeader.{PesHeader}
use Rattle.pes_packet.specs.declared.refusal.PesError.{PesError}
use Rattle.ts_packet.specs.declared.packet.PacketError.{PacketError}
use Rattle.pid_findings.specs.declared.finding.Kind.{Kind}
use Rattle.psi_tables.specs.declared.error.SectionError.{SectionError}

-- the content of a finding
pub data WhatView : Type 0 where
  IsDuplicate : WhatView
  BreaksCounter : ℕ → ℕ → WhatView
  IsScrambled : WhatView
  IsTruncated : List ℕ → WhatView
  IsSection : List ℕ → WhatView
  IsBadSection : SectionError → WhatView
  IsPes : PesHeader → Bool → List ℕ → WhatView
  IsBadPes : PesError → WhatView
  IsBadPacket : PacketError → WhatView
  IsErrored : WhatView
  IsStray : ℕ → WhatView

-- a section or a PES packet that came whole
abbrev pub is_whole : WhatView → Bool
is_whole (IsSection bytes) = true
is_whole (IsPes header unended body) = true
is_whole IsDuplicate = false
is_whole (BreaksCounter expected found) = false
is_whole IsScrambled = false
is_whole (IsTruncated bytes) = false
is_whole (IsBadSection error) = false
is_whole (IsBadPes error) = false
is_whole (IsBadPacket error) = false
is_whole IsErrored = false
is_whole (IsStray size) = false

-- a finding about a section or a PES packet has the packet of its first byte and what begins there; `within` if the unit is whole and lies in the packet
-- at which it is found
pub record Found : Type 0 where
  pub begun : Option (ℕ × Kind)
  pub what : WhatView
  pub within : Bool

-- a finding of a PID, at a packet
pub record PidFinding : Type 0 where
  pub packet : ℕ
  pub found : Found

-- a finding of a stream
pub record FindingView : Type 0 where
  pub packet : ℕ
  pub pid : Option ℕ
  pub begun : Option (ℕ × Kind)
  pub what : WhatView
