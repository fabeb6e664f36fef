-- The units of several streams in one list, by their decoding times.
use Rattle.std.specs.Prelude.{◌≡◌, ◌<◌, ℕ, ◌+◌, ◌++◌, List, [], ◌∷◌, length, slice_get, slice_set, get_or, drop, Option, Some, None, option_map, All, nat_lt}
use Rattle.std.specs.Prelude.{if◌then◌else◌}
use Rattle.pes_packet.specs.AccessUnits.{AccessUnit}
use Rattle.pes_packet.specs.Units.{units_of}

-- when the first of units is due
unfoldable pub head_dts : List AccessUnit → Option ℕ
head_dts [] = None
head_dts (u ∷ us) = Some u.dts

-- the earlier of two streams by the times when they are due next, the first stream if the times are equal
unfoldable pub earlier : Option (ℕ × ℕ) → ℕ → Option ℕ → Option (ℕ × ℕ)
earlier best k None = best
earlier None k (Some dts) = Some (k, dts)
earlier (Some best) k (Some dts) = if nat_lt dts best.1 then Some (k, dts) else Some best

-- the stream that is due next, and when; the first stream has the number k
unfoldable pub next_of : ℕ → Option (ℕ × ℕ) → List (List AccessUnit) → Option (ℕ × ℕ)
next_of k best [] = best
next_of k best (us ∷ rest) = next_of (k + 1) (earlier best k (head_dts us)) rest

-- the same by the times when the streams are due next
unfoldable pub next_head : ℕ → Option (ℕ × ℕ) → List (Option ℕ) → Option (ℕ × ℕ)
next_head k best [] = best
next_head k best (dts ∷ rest) = next_head (k + 1) (earlier best k dts) rest

-- the number of the stream that is due next, none if no stream has a unit left
abbrev pub due : List (List AccessUnit) → Option ℕ
due streams = option_map (λ b. b.0) (next_of 0 None streams)

-- units taken one after another, each from the stream that is due next after the units before it, and the units that remain of the streams
unfoldable pub AreTaken : List (List AccessUnit) → List (ℕ × AccessUnit) → List (List AccessUnit) → Type 0
AreTaken streams [] left = left ≡ streams
AreTaken streams (e ∷ es) left = (due streams ≡ Some e.0) × AreTaken (slice_set streams e.0 (drop 1 (get_or streams e.0 []))) es left

-- the units of each stream in their order, each with the stream's number, and each when its stream is due next
pub record AreMerged (streams : List (List AccessUnit)) (units : List (ℕ × AccessUnit)) : Type 0 where
  pub each : (k : ℕ) (us : List AccessUnit) → slice_get streams k ≡ Some us → units_of k units ≡ us
  pub numbered : All (λ e. e.0 < length streams) units
  pub order : (left : List (List AccessUnit)) × AreTaken streams units left

-- the next unit of stream k is taken from the streams
pub record TakesNext (before after : List (List AccessUnit)) (k : ℕ) (u : AccessUnit) : Type 0 where
  pub rest : List AccessUnit
  pub first : slice_get before k ≡ Some (u ∷ rest)
  pub left : after ≡ slice_set before k rest

-- units that are merged already, and the units that remain of the streams
pub record AreLeft (streams left : List (List AccessUnit)) (units : List (ℕ × AccessUnit)) : Type 0 where
  pub each : (k : ℕ) (us : List AccessUnit) → slice_get streams k ≡ Some us →
      (rest : List AccessUnit) × (slice_get left k ≡ Some rest) × (units_of k units ++ rest ≡ us)
  pub numbered : All (λ e. e.0 < length streams) units
  pub same : length left ≡ length streams
  pub order : AreTaken streams units left
