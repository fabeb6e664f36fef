-- Numbers of bytes and tables of fields (ISO/IEC 13818-1, 2.2.6: uimsbf and bslbf, the highest bit first).
use Rattle.std.specs.Prelude.{ℕ, ◌+◌, ◌*◌, ◌^◌, ◌<◌, ◌/◌, ◌%◌, ◌==◌, Bool, true, false, List, [], ◌∷◌, get_or}

-- the number that bytes make after the bytes that made n, the highest byte first
abbrev pub number_from : ℕ → List ℕ → ℕ
number_from n [] = n
number_from n (b ∷ bytes) = number_from (n * 256 + b) bytes

-- the number that bytes make, the highest byte first
abbrev pub number : List ℕ → ℕ
number bytes = number_from 0 bytes

-- the number that fields make after the fields that made n
abbrev pub fields_from : ℕ → List (ℕ × ℕ) → ℕ
fields_from n [] = n
fields_from n (f ∷ fs) = fields_from (n * 2 ^ f.0 + f.1) fs

-- the number that fields make, each a width in bits and a value, the first field in the highest bits
abbrev pub fields : List (ℕ × ℕ) → ℕ
fields fs = fields_from 0 fs

-- the width in bits of a table of fields
abbrev pub width : List (ℕ × ℕ) → ℕ
width [] = 0
width (f ∷ fs) = f.0 + width fs

-- a flag as a field of one bit
abbrev pub bit : Bool → ℕ
bit true = 1
bit false = 0

-- the flag at a value, a power of two, in a byte
abbrev pub flag : ℕ → ℕ → Bool
flag byte value = byte / value % 2 == 1

-- each element is a byte
abbrev pub IsBytes : List ℕ → Type 0
IsBytes bytes = (i : ℕ) → get_or bytes i 0 < 256
