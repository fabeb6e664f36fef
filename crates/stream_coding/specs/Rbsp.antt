-- The bits of a raw byte sequence payload, and the elements of its syntax.
use Rattle.std.specs.Prelude.{ℕ, zero, suc, ◌+◌, ◌-◌, ◌*◌, ◌/◌, ◌%◌, ◌^◌, ◌==◌, nat_lt, Bool, false, if◌then◌else◌, Option, None, Some, List, [], ◌∷◌, find}
use Rattle.std.specs.Prelude.{option_map, option_and_then}
use Rattle.std.specs.List.{slice_get, range_with_len}
use Rattle.std.specs.Option.{option_map_or}
use Rattle.std.specs.Str.{bytes_eq}
use Rattle.stream_coding.specs.declared.rbsp.Element.{Element}
use Rattle.stream_coding.specs.declared.rbsp.Element.TheVariants.{U, Ue}

-- 1. Bits

-- the bytes of a NAL unit without its emulation prevention bytes, each the 3 of a 00 00 03 (ISO/IEC 14496-10, 7.3.1; ISO/IEC
-- 23008-2, 7.3.1.1)
unfoldable pub rbsp_bytes : List ℕ → List ℕ
rbsp_bytes [] = []
rbsp_bytes (a ∷ []) = a ∷ []
rbsp_bytes (a ∷ b ∷ []) = a ∷ b ∷ []
rbsp_bytes (a ∷ b ∷ c ∷ rest) =
    if bytes_eq (a ∷ b ∷ c ∷ []) (0 ∷ 0 ∷ 3 ∷ []) then a ∷ b ∷ rbsp_bytes rest else a ∷ rbsp_bytes (b ∷ c ∷ rest)

-- the bit at a place, the highest of a byte first; of a payload of more than 131,072 bytes no more is read than these
unfoldable pub bit_at : List ℕ → ℕ → Option ℕ
bit_at bytes at = if nat_lt at 1048576 then option_map (λ b. b / 2 ^ (7 - at % 8) % 2) (slice_get (rbsp_bytes bytes) (at / 8)) else None

-- 2. The elements of the syntax (ISO/IEC 14496-10, 7.2 and 9.1): each from a place on, with the place after it; none if the bits end before

-- u(n), the number of n bits; of more than 32 the last 32
unfoldable pub number_from : List ℕ → ℕ → ℕ → ℕ → Option (ℕ × ℕ)
number_from bytes number at zero = Some (number, at)
number_from bytes number at (suc n) =
    option_map_or (λ bit. number_from bytes (number * 2 % 2 ^ 32 + bit) (at + 1) n) (bit_at bytes at) None

abbrev pub u : ℕ → List ℕ → ℕ → Option (ℕ × ℕ)
u n bytes at = number_from bytes 0 at n

-- leadingZeroBits: the number of zeros before the first one, fewer than 32
unfoldable pub is_one : List ℕ → ℕ → Bool
is_one bytes at = option_map_or (λ bit. bit == 1) (bit_at bytes at) false

unfoldable pub leading_zero_bits : List ℕ → ℕ → Option ℕ
leading_zero_bits bytes at = find (λ n. is_one bytes (at + n)) (range_with_len 0 32)

-- ue(v): codeNum, 2^leadingZeroBits - 1 and the number of as many bits after the one
unfoldable pub ue_after : ℕ → List ℕ → ℕ → Option (ℕ × ℕ)
ue_after zeros bytes at = option_map (λ suffix. (2 ^ zeros - 1 + suffix.0, suffix.1)) (u zeros bytes (at + zeros + 1))

unfoldable pub ue : List ℕ → ℕ → Option (ℕ × ℕ)
ue bytes at = option_and_then (λ zeros. ue_after zeros bytes at) (leading_zero_bits bytes at)

-- 3. The place after elements

-- after an element; se(v) has the bits of ue(v)
unfoldable pub after_element : Element → List ℕ → ℕ → Option ℕ
after_element (U n) bytes at = option_map (λ read. read.1) (u n bytes at)
after_element Ue bytes at = option_map (λ read. read.1) (ue bytes at)

-- after several elements in a row
unfoldable pub after : List Element → List ℕ → ℕ → Option ℕ
after [] bytes at = Some at
after (e ∷ es) bytes at = option_map_or (λ next. after es bytes next) (after_element e bytes at) None

-- after several elements, repeated n times
unfoldable pub after_times : ℕ → List Element → List ℕ → ℕ → Option ℕ
after_times zero es bytes at = Some at
after_times (suc n) es bytes at = option_map_or (λ next. after_times n es bytes next) (after es bytes at) None

-- after a flag, and the elements that follow it if it is 1
unfoldable pub after_flagged : List Element → List ℕ → ℕ → Option ℕ
after_flagged es bytes at = option_and_then (λ flag. if flag.0 == 1 then after es bytes flag.1 else Some flag.1) (u 1 bytes at)
