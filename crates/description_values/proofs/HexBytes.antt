-- If a text has more digits than twice the most bytes, it writes too many bytes.
use Rattle.std.proofs.Common.{◌≡◌, ℕ, ◌<◌, ◌/◌, List, length, Option, None, Some, Result, Ok, Err, refl, arith, nat_le, if◌then◌else◌}
use Rattle.std.proofs.lemmas.Bool.{lt-leb}
use Rattle.hex.specs.Hex.{decode_of}
use Rattle.hex.specs.declared.error.FromHexError.{FromHexError}
use Rattle.hex.proofs.HexLemmas.{decode_of-ok}
use Rattle.description_values.specs.Values.{hex_bytes}

too_long : (most : ℕ) (text : List ℕ) (r : Result (List ℕ) FromHexError) → decode_of text ≡ r → most < length text / 2
    → None ≡ elim r as (λ _. Option (List ℕ)) [ Ok bytes ↦ if nat_le (length bytes) most then Some bytes else None | Err e ↦ None ]
too_long most text (Err e) is h = refl
too_long most text (Ok bytes) is h =
    let facts = decode_of-ok text bytes is in
    let long : most < length bytes = omega (arith, facts.2) in
    rw (lt-leb (length bytes) most long) refl

pub hex_bytes-long : (most : ℕ) (text : List ℕ) → most < length text / 2 → None ≡ hex_bytes most text
hex_bytes-long most text h = too_long most text (decode_of text) refl h
