-- A stream whose bytes arrive piece by piece: the bytes that are carried, as far as the bytes so far decide it.
use Rattle.std.specs.Prelude.{◌≡◌, ◌⊎◌, ◌≤◌, ◌<◌, ℕ, ◌+◌, ◌*◌, ◌++◌, Bool, true, List, [], length, take, drop, None, Some}
use Rattle.packet_sync.specs.Slips.{carried, slip_size}
use Rattle.packet_sync.specs.declared.stretch.Stretch.{Stretch}

-- a stretch of bytes is carried and the bytes of a slip after it are left out, whatever bytes follow: the stream's carried bytes
-- are that stretch and the carried bytes of the rest
abbrev pub IsNextOf : List ℕ → List ℕ → Stretch → Type 0
IsNextOf bytes more s = carried (bytes ++ more) ≡ take s.in_step bytes ++ carried (drop (s.in_step + s.slipped) bytes ++ more)

-- if the stream has ended, no more bytes follow
abbrev pub IsStretch : List ℕ → Bool → Stretch → Type 0
IsStretch bytes ended s = (more : List ℕ) → (ended ≡ true → more ≡ []) → IsNextOf bytes more s

-- the stretch is of whole packets, or of all bytes of a stream that has ended
abbrev pub IsOfPackets : ℕ → Bool → Stretch → Type 0
IsOfPackets size ended s = ((n : ℕ) × (s.in_step ≡ 188 * n)) ⊎ ((ended ≡ true) × (s.in_step ≡ size) × (s.slipped ≡ 0))

-- the step continues after each packet of the stretch, and is lost after the stretch if bytes are left out
pub record IsStepped (bytes : List ℕ) (s : Stretch) : Type 0 where
  pub steady : (k : ℕ) → 188 * k + 188 ≤ s.in_step → slip_size bytes (188 * k) ≡ None
  pub lost : 0 < s.slipped → (slip_size bytes s.in_step ≡ Some s.slipped) × (s.in_step + 188 ≤ length bytes)

-- whatever bytes follow
abbrev pub IsSteppedSoFar : List ℕ → Bool → Stretch → Type 0
IsSteppedSoFar bytes ended s = (more : List ℕ) → (ended ≡ true → more ≡ []) → IsStepped (bytes ++ more) s
