-- Payload that is in no PES packet and in no section: it is found as stray. The packets of a PID have the last one first.
use Rattle.std.specs.Prelude.{◌≡◌, ◌⊎◌, ℕ, List, ◌∷◌, ◌++◌, Some, None}
use Rattle.pid_findings.specs.Views.{WhatView, BreaksCounter}
use Rattle.pid_findings.specs.Marks.{Marked}
use Rattle.pid_findings.specs.Roles.{ScrambledPayload, SectionStart, PointerPastEnd, Continuation, role}
use Rattle.pid_findings.specs.OpenUnits.{OpenUnit, decided, appended, plain}
use Rattle.pid_findings.specs.Findings.{cut_short, divider, found_at, open_after, stray, stretch}

-- the payload of the next packet continues a PES packet or a section that is not whole
pub record GoesOn (before : List Marked) (m : Marked) (payload : List ℕ) : Type 0 where
  pub unit : OpenUnit
  pub open_is : open_after before ≡ Some unit
  pub longer : stretch (m ∷ before) ≡ Some (appended unit payload)

-- the last packet in which a PES packet could begin has a finding of its own: its counter breaks (ISO/IEC 13818-1, 2.4.3.3), it is scrambled, its
-- pointer_field points past its end (2.4.4.1), or a section begins there
pub record FollowsLoss (before : List Marked) : Type 0 where
  pub packet : Marked
  pub last : divider before ≡ Some packet
  pub why : ((b : ℕ × ℕ) × (packet.broken ≡ Some b)) ⊎ ((role packet ≡ ScrambledPayload) ⊎ ((role packet ≡ PointerPastEnd)
      ⊎ ((front : List ℕ) × (rest : List ℕ) × (role packet ≡ SectionStart front rest))))

-- what began last is decided by its own bytes: it is whole, so that its length is reached (2.4.3.7), or wrong, and that is found
pub record FollowsEnd (before : List Marked) : Type 0 where
  pub unit : OpenUnit
  pub began : stretch before ≡ Some unit
  pub what : WhatView
  pub ends : decided unit.kind unit.bytes ≡ Some what

-- nothing has begun on the PID, or what follows a loss or an end waits for the next beginning
abbrev pub Waits : List Marked → Type 0
Waits before = (divider before ≡ None) ⊎ (FollowsLoss before ⊎ FollowsEnd before)

-- nothing is open, and the payload is found as stray, if it has a byte
pub record IsFoundStray (before : List Marked) (m : Marked) (payload : List ℕ) : Type 0 where
  pub none : open_after before ≡ None
  pub found : found_at m (open_after before) ≡ stray payload

-- payload that begins nothing, is not scrambled and no repetition, and whose counter follows: it continues the open unit, or it is found as stray
abbrev pub StrayPayloadLaw : Type 0
StrayPayloadLaw = (before : List Marked) (m : Marked) (payload : List ℕ) → role m ≡ Continuation payload → m.broken ≡ None →
    GoesOn before m payload ⊎ (IsFoundStray before m payload × Waits before)

-- such payload of a packet whose counter breaks is found as stray, after the loss and what that cuts short
abbrev pub LostPayloadLaw : Type 0
LostPayloadLaw = (before : List Marked) (m : Marked) (payload : List ℕ) (b : ℕ × ℕ) → role m ≡ Continuation payload → m.broken ≡ Some b →
    found_at m (open_after before) ≡ plain (BreaksCounter b.0 b.1) ∷ cut_short (open_after before) ++ stray payload
