-- Entry n of the table is the register after byte n, that is after eight one-bit steps from 0.
use Rattle.std.proofs.Common.{◌≡◌, ℕ, zero, suc, ◌+◌, ◌<◌, ◌==◌, ◌&&◌, Bool, true, false, refl, sym, ap, ◌∙◌, arith, List, [], ◌∷◌, get_or, eqb-true, length}
use Rattle.psi_tables.specs.CheckWord.{after_bit, after_bits, bits_of, after_byte}
use Rattle.psi_tables.specs.declared.crc.crc_table.TheConstants.{CRC_TABLE}

-- Returns whether the entries are the table's entries for the bytes from n on.
pub are_entries : ℕ → List ℕ → Bool
are_entries n [] = true
are_entries n (w ∷ ws) = (after_byte 0 n == w) && are_entries (n + 1) ws

all_entries : are_entries 0 CRC_TABLE ≡ true
unfolding are_entries after_byte after_bits bits_of after_bit
all_entries = refl

and-left : (a b : Bool) → (a && b) ≡ true → a ≡ true
and-left true b h = refl
and-left false b h = h

and-right : (a b : Bool) → (a && b) ≡ true → b ≡ true
and-right true b h = h
and-right false b h = absurd (cc)

entry_at_byte : (n : ℕ) (ws : List ℕ) (i : ℕ) → are_entries n ws ≡ true → i < length ws → get_or ws i 0 ≡ after_byte 0 (n + i)
unfolding are_entries
entry_at_byte n [] i h k = absurd (omega arith)
entry_at_byte n (w ∷ ws) zero h k = sym (eqb-true (after_byte 0 n) w (and-left _ _ h)) ∙ ap (λ (x : ℕ). after_byte 0 x) (omega arith)
entry_at_byte n (w ∷ ws) (suc i) h k = entry_at_byte (n + 1) ws i (and-right _ _ h) (omega arith) ∙ ap (λ (x : ℕ). after_byte 0 x) (omega arith)

pub entry_is : (i : ℕ) → i < 256 → get_or CRC_TABLE i 0 ≡ after_byte 0 i
entry_is i h = entry_at_byte 0 CRC_TABLE i all_entries h ∙ ap (λ (x : ℕ). after_byte 0 x) (omega arith)
