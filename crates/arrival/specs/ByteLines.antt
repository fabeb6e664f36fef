-- The line on which each byte lies, by all references of a program (ISO/IEC 13818-1, 2.4.2.2).
--
-- If the clock continues between two references, it is the line through both. If the clock restarts, the packet that carries the reference is the first
-- packet of its part, and the line before continues up to it. The first line also extends to the bytes before the first reference, and the last line to the
-- bytes after the last reference. A byte has no time if its part of the stream has only a single reference.
use Rattle.std.specs.Prelude.{ℕ, ◌+◌, ◌-◌, ◌≤◌, nat_le, is_some, List, [], ◌∷◌, Option, None, if◌then◌else◌}
use Rattle.std.specs.Option.{option_or}
use Rattle.arrival.specs.Clock.{last_of, step_after, line_in}
use Rattle.arrival.specs.declared.clock.PcrSample.{PcrSample}
use Rattle.arrival.specs.declared.line.Line.{Line}

-- the line that ends at a reference after these references (the last of them first)
abbrev pub line_to : List PcrSample → PcrSample → Option Line
line_to earlier sample = line_in (step_after (last_of earlier) sample)

-- the first byte that does not lie before a reference after these: the byte after its own byte if a line ends there, otherwise the first byte of its packet
abbrev pub first_after : List PcrSample → PcrSample → ℕ
first_after earlier sample = if is_some (line_to earlier sample) then sample.byte + 1 else sample.byte - 10

-- the line of byte i by these references (the last reference first), if `next` is the line that begins at the last reference
unfoldable pub line_by : Option Line → List PcrSample → ℕ → Option Line
line_by next [] i = next
line_by next (sample ∷ []) i = next
line_by next (sample ∷ before ∷ earlier) i =
    if nat_le (first_after (before ∷ earlier) sample) i then option_or next (line_to (before ∷ earlier) sample)
    else line_by (line_to (before ∷ earlier) sample) (before ∷ earlier) i

abbrev pub line_of : List PcrSample → ℕ → Option Line
line_of samples i = line_by None samples i

-- byte i lies after the reference `sample`, which follows these references; every byte does if `sample` is the first reference
unfoldable pub LiesAfter : List PcrSample → PcrSample → ℕ → Type 0
LiesAfter [] sample i = Unit {0}
LiesAfter (before ∷ earlier) sample i = first_after (before ∷ earlier) sample ≤ i

-- each of these references is in a later packet than the references before it, and the first of them in a later packet than `byte`
unfoldable pub AreLater : ℕ → List PcrSample → Type 0
AreLater byte [] = Unit {0}
AreLater byte (sample ∷ samples) = (byte + 188 ≤ sample.byte) × AreLater byte samples
