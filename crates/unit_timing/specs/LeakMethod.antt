-- The leak method (ISO/IEC 13818-1, 2.4.2.3): while the multiplexing buffer MB holds bytes and the elementary stream buffer
-- EB is not full, bytes go from MB to EB at the rate Rbx. While EB is full, no byte does.
use Rattle.std.specs.Prelude.{◌≡◌, ℕ, ◌+◌, ◌*◌, ◌≤◌, max, List, [], ◌∷◌, ◌++◌, length, replicate}
use Rattle.clock27.specs.Departure.{departures}
use Rattle.clock27.specs.Fullness.{fullness}
use Rattle.unit_timing.specs.PesPacket.{PesPacket}

-- when bytes go that enter MB at the times `ts`, and for which EB has room from the times `rooms` on: each `step` after it
-- entered, EB has room for it, or the byte before it went, whichever is latest; `prev` is when the byte before the first
-- went, 0 for the first
unfoldable pub transfers : ℕ → ℕ → List ℕ → List ℕ → List ℕ
transfers step prev [] rooms = []
transfers step prev (t ∷ ts) [] = []
transfers step prev (t ∷ ts) (room ∷ rooms) = (max (max t room) prev + step) ∷ transfers step (max (max t room) prev + step) ts rooms

-- when an EB of `size` bytes has room for each byte, if its first bytes are removed at the times `removed`: for the first `size`
-- bytes from the start on, for each further byte when the byte `size` before it is removed
abbrev pub rooms_of : ℕ → List ℕ → List ℕ
rooms_of size removed = replicate size 0 ++ removed

-- when the bytes of these units are removed from EB: each unit whole at its stamp. A stamp of `due` units of 90 kHz is at
-- due * R * r, on a scale 720,000 times as fine as the scale of a buffer that is drained at r bits a second
unfoldable pub removed_at : ℕ → ℕ → List PesPacket → List ℕ
removed_at rate r [] = []
removed_at rate r (unit ∷ units) = replicate unit.size (unit.dts * rate * r) ++ removed_at rate r units

-- the later of two times, byte by byte
unfoldable pub latest : List ℕ → List ℕ → List ℕ
latest [] us = []
latest (t ∷ ts) [] = []
latest (t ∷ ts) (u ∷ us) = max t u ∷ latest ts us

-- times that never fall, and begin no earlier than `from`
unfoldable pub NeverFalls : ℕ → List ℕ → Type 0
NeverFalls from [] = Unit {0}
NeverFalls from (t ∷ ts) = (from ≤ t) × NeverFalls t ts

-- each byte goes at the later of two times: when it would leave MB were EB never full, which is the multiplex's part, and
-- when it would go were it always in MB in time, which is the stream's own part
abbrev pub TransfersLaw : Type 0
TransfersLaw = (step p q : ℕ) (ts rooms : List ℕ) →
    transfers step (max p q) ts rooms ≡ latest (departures step p ts) (departures step q rooms)

-- if MB and EB together never hold more than EB's size, EB never holds a byte back: bytes leave MB as from a queue
abbrev pub NeverFullLaw : Type 0
NeverFullLaw = (step size : ℕ) (ts removed : List ℕ) → NeverFalls 0 ts → NeverFalls 0 removed → length ts ≤ length removed →
    ((x : ℕ) → fullness x ts removed ≤ size) → transfers step 0 ts (rooms_of size removed) ≡ departures step 0 ts
