-- What the laws of this crate say.
use Rattle.std.specs.Prelude.{◌≡◌, ◌≤◌, ℕ, ◌+◌, ⊤, if◌then◌else◌, List, [], ◌∷◌, flat_map, length}
use Rattle.demux.specs.Laws.{has_pid}
use Rattle.pid_findings.specs.Views.{FindingView}
use Rattle.sound_frames.specs.declared.frame_headers.FrameKind.{FrameKind}
use Rattle.sound_packets.specs.CutPackets.{body_of, cut_packets}
use Rattle.sound_packets.specs.Pieces.{later_frames, pieces}
use Rattle.sound_packets.specs.declared.known_frames.SoundPid.{SoundPid}

-- 1. The bytes of a PID's PES packets are the same, one after another

abbrev pub bytes_on : ℕ → FindingView → List ℕ
bytes_on pid f = if has_pid pid f.pid then body_of f.what else []

abbrev pub SameBytes : Type 0
SameBytes = (n : ℕ) (sounds : List SoundPid) (findings : List FindingView) (pid : ℕ) →
    flat_map (bytes_on pid) (cut_packets n sounds findings) ≡ flat_map (bytes_on pid) findings

-- 2. Few frames begin in a piece: its first frame is n frames at most before the first one of the next piece, or before the end

unfoldable pub AreFew : ℕ → ℕ → List (ℕ × List ℕ) → Type 0
AreFew n all [] = ⊤
AreFew n all (p ∷ []) = all ≤ p.0 + n
AreFew n all (p ∷ q ∷ more) = (q.0 ≤ p.0 + n) × AreFew n all (q ∷ more)

abbrev pub FewFrames : Type 0
FewFrames = (n : ℕ) (kind : FrameKind) (unit : List ℕ) → 1 ≤ n → AreFew n (length (later_frames kind unit) + 1) (pieces n kind unit)
