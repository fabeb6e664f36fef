-- The counts, defined by the packets alone.
use Rattle.std.specs.Prelude.{◌≡◌, ℕ, ◌^◌, ◌<◌, ◌≤◌, ◌==◌, ◌&&◌, Bool, List, [], ◌∷◌, length, filter}
use Rattle.tr101290.specs.Windows.{WindowView, no_packet, taken, counts_of}

-- a packet: its window, its PID, and whether it has a program_clock_reference
pub record Placed : Type 0 where
  pub window : ℕ
  pub pid : ℕ
  pub pcr : Bool

-- the state after these packets, the last packet first
abbrev pub state_of : List Placed → WindowView
state_of [] = no_packet
state_of (packet ∷ earlier) = taken (state_of earlier) packet.window packet.pid packet.pcr

-- windows in order: no window is before the window of an earlier packet; the last packet is first
unfoldable pub InOrder : ℕ → List Placed → Type 0
InOrder last [] = Unit {0}
InOrder last (packet ∷ earlier) = (packet.window ≤ last) × InOrder packet.window earlier

-- a packet is in a window and on a PID, and the same with a program_clock_reference
abbrev pub is_in : ℕ → ℕ → Placed → Bool
is_in window pid packet = (packet.window == window) && (packet.pid == pid)

abbrev pub has_clock_in : ℕ → ℕ → Placed → Bool
has_clock_in window pid packet = is_in window pid packet && packet.pcr

-- the packets of a PID in the last packet's window are counted
abbrev pub CountLaw : Type 0
CountLaw = (packet : Placed) (earlier : List Placed) (pid : ℕ) → InOrder packet.window (packet ∷ earlier) → length (packet ∷ earlier) < 2 ^ 64 →
    (counts_of pid (state_of (packet ∷ earlier)).counts).packets ≡ length (filter (is_in packet.window pid) (packet ∷ earlier))

-- the packets of this PID and window with a clock reference are counted
abbrev pub ClockLaw : Type 0
ClockLaw = (packet : Placed) (earlier : List Placed) (pid : ℕ) → InOrder packet.window (packet ∷ earlier) → length (packet ∷ earlier) < 2 ^ 64 →
    (counts_of pid (state_of (packet ∷ earlier)).counts).pcrs ≡ length (filter (has_clock_in packet.window pid) (packet ∷ earlier))
