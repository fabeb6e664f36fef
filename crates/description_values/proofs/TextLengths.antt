-- A text of up to `most` bytes is one of up to 255 bytes that has no more than `most`.
use Rattle.std.proofs.Common.{◌≡◌, ℕ, ◌≤◌, ◌&&◌, nat_le, Bool, true, false, List, length, Option, None, Some, arith, if◌then◌else◌, is_none, refl}
use Rattle.std.proofs.lemmas.Bool.Decides.{nat_tests}
use Rattle.std.specs.List.{list_all}
use Rattle.toml.specs.Data.{Data, as_str}
use Rattle.dvb_tables.specs.CharacterCoding.{text_bytes}
use Rattle.description_values.specs.Values.{are_octets, is_beyond, is_octet, text_in}

-- a text of octets, or of others, whose length is at most 255, at most `most`, both or none
of_tests : (bytes : List ℕ) (most : ℕ) (octets wide narrow : Bool) → most ≤ 255 → nat_le (length bytes) 255 ≡ wide → nat_le (length bytes) most ≡ narrow
    → is_beyond most (if wide && octets then Some bytes else None) ≡ is_none (if narrow && octets then Some bytes else None)
of_tests bytes most true true true h w n = grind (arith, nat_tests, n)
of_tests bytes most true true false h w n = grind (arith, nat_tests, n)
of_tests bytes most true false true h w n = absurd (grind (arith, nat_tests, h, w, n))
of_tests bytes most true false false h w n = refl
of_tests bytes most false true true h w n = refl
of_tests bytes most false true false h w n = refl
of_tests bytes most false false true h w n = refl
of_tests bytes most false false false h w n = refl

of_bytes : (bytes : List ℕ) (most : ℕ) → most ≤ 255
    → is_beyond most (if are_octets 255 bytes then Some bytes else None) ≡ is_none (if are_octets most bytes then Some bytes else None)
of_bytes bytes most h = of_tests bytes most (list_all is_octet bytes) (nat_le (length bytes) 255) (nat_le (length bytes) most) h refl refl

of_text : (most : ℕ) (o : Option (List ℕ)) → most ≤ 255
    → is_beyond most (elim o [ None ↦ None | Some text ↦ if are_octets 255 (text_bytes text) then Some (text_bytes text) else None ])
    ≡ is_none (elim o [ None ↦ None | Some text ↦ if are_octets most (text_bytes text) then Some (text_bytes text) else None ])
of_text most None h = refl
of_text most (Some text) h = of_bytes (text_bytes text) most h

pub no_text : (most : ℕ) (d : Data) → most ≤ 255 → is_beyond most (text_in 255 d) ≡ is_none (text_in most d)
no_text most d h = of_text most (as_str d) h
