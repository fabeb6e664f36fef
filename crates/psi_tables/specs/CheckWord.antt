-- The check word CRC_32 of a section, one bit of the message at a time (ISO/IEC 13818-1, Annex A).
use Rattle.std.specs.Prelude.{ℕ, ◌*◌, ◌/◌, ◌%◌, ◌^◌, ◌==◌, if◌then◌else◌, bit_xor, List, [], ◌∷◌}

-- the register after one bit: shifted left by one, and exclusive or with the polynomial if the bit shifted out differs from the message's
unfoldable pub after_bit : ℕ → ℕ → ℕ
after_bit register bit =
    if register / 2 ^ 31 == bit then register * 2 % 2 ^ 32 else bit_xor (register * 2 % 2 ^ 32) 0x04C11DB7

-- the register after several bits
unfoldable pub after_bits : ℕ → List ℕ → ℕ
after_bits register [] = register
after_bits register (bit ∷ bits) = after_bits (after_bit register bit) bits

-- the bits of a byte, the highest first
unfoldable pub bits_of : ℕ → List ℕ
bits_of byte = (byte / 128 % 2) ∷ (byte / 64 % 2) ∷ (byte / 32 % 2) ∷ (byte / 16 % 2) ∷ (byte / 8 % 2) ∷ (byte / 4 % 2) ∷ (byte / 2 % 2) ∷ (byte % 2) ∷ []

-- the register after the eight bits of a byte
unfoldable pub after_byte : ℕ → ℕ → ℕ
after_byte register byte = after_bits register (bits_of byte)

-- the register after several bytes
unfoldable pub after_bytes : ℕ → List ℕ → ℕ
after_bytes register [] = register
after_bytes register (byte ∷ bytes) = after_bytes (after_byte register byte) bytes

-- the check word of a message: the register begins with all bits 1
unfoldable pub check_word : List ℕ → ℕ
check_word bytes = after_bytes 0xFFFFFFFF bytes
