-- PES_private_data has 16 bytes.
use Rattle.std.proofs.Common.{◌≡◌, ℕ, ◌+◌, ◌≤◌, Option, Some, None, option_map, IfSome, List, [], ◌∷◌, ◌++◌, length, take, replicate, refl, sym, ap, ◌∙◌, arith}
use Rattle.std.proofs.lemmas.List.{length-append, length-take-le, take_at}
use Rattle.pes_packet.specs.Marks.{sixteen}
use Rattle.pes_packet.specs.HeaderMarks.{header_marks}
use Rattle.pes_packet.specs.Laws.{HasSixteen, MarksHaveSixteen}
use Rattle.pes_packet.specs.declared.reading.PesHeader.{PesHeader}

pub sixteen_size : (bytes : List ℕ) → length (sixteen bytes) ≡ 16
sixteen_size bytes = length-take-le 16 (bytes ++ replicate 16 0) (omega (arith, length-append bytes (replicate 16 0)))

-- A list of 16 bytes is its own first 16 bytes.
pub sixteen_is : (bytes : List ℕ) → length bytes ≡ 16 → sixteen bytes ≡ bytes
sixteen_is bytes e = take_at bytes (replicate 16 0) 16 e

-- PES_private_data of 16 bytes does not change.
pub same_private : (o : Option (List ℕ)) → IfSome o (λ bytes. length bytes ≡ 16) → option_map sixteen o ≡ o
same_private None h = refl
same_private (Some bytes) h = ap Some (sixteen_is bytes h)

pub has_sixteen : (o : Option (List ℕ)) → IfSome (option_map sixteen o) (λ bytes. length bytes ≡ 16)
has_sixteen None = tt
has_sixteen (Some bytes) = sixteen_size bytes

pub marks_have_sixteen : MarksHaveSixteen
marks_have_sixteen access header = has_sixteen header.private_data
