-- Loops of entries with descriptors, as PMT, NIT, SDT and EIT have them: each entry is a head of a fixed number of bytes, whose
-- last 12 bits are the number of the bytes of its descriptors, and the descriptor bytes (ISO/IEC 13818-1, 2.4.4.8; EN 300 468,
-- 5.2).
use Rattle.std.specs.Prelude.{◌≡◌, ℕ, zero, suc, ◌+◌, ◌-◌, ◌*◌, ◌%◌, nat_lt, if◌then◌else◌, List, [], ◌∷◌, ◌++◌, length, take, drop, slice_index, Option, None}
use Rattle.std.specs.Prelude.{Some, option_map, option_and_then, unwrap_or}
use Rattle.psi_tables.specs.declared.entries.Entry.{Entry}

-- an entry: its head and its descriptors, lists of bytes
pub record EntryView : Type 0 where
  pub head : List ℕ
  pub descriptors : List ℕ

-- the number that the last 12 bits of a head make
unfoldable pub descriptors_length : List ℕ → ℕ
descriptors_length head = slice_index head (length head - 2) % 16 * 256 + slice_index head (length head - 1)

-- an entry with a head of k bytes, which says how many bytes its descriptors have
pub record IsEntry (k : ℕ) (e : EntryView) : Type 0 where
  pub head_length : length e.head ≡ k
  pub named : descriptors_length e.head ≡ length e.descriptors

-- the bytes of an entry
unfoldable pub entry_bytes : EntryView → List ℕ
entry_bytes e = e.head ++ e.descriptors

-- the bytes are these entries, in order
abbrev pub AreEntries : ℕ → List ℕ → List EntryView → Type 0
AreEntries k bytes [] = bytes ≡ []
AreEntries k bytes (e ∷ es) = (rest : List ℕ) × (bytes ≡ entry_bytes e ++ rest) × IsEntry k e × AreEntries k rest es

-- the entry with this head, and what follows it
unfoldable pub entry_after : List ℕ → List ℕ → Option (EntryView × List ℕ)
entry_after head rest =
    if nat_lt (length rest) (descriptors_length head) then None
    else Some (record { head = head; descriptors = take (descriptors_length head) rest }, drop (descriptors_length head) rest)

-- the entry at the front, and what follows it; none if it does not fit
unfoldable pub entry_at : ℕ → List ℕ → Option (EntryView × List ℕ)
entry_at k bytes = if nat_lt (length bytes) k then None else entry_after (take k bytes) (drop k bytes)

-- at most n entries, up to the end of the bytes
unfoldable pub loop_from : ℕ → List ℕ → ℕ → Option (List EntryView)
loop_from k [] n = Some []
loop_from k (b ∷ bytes) zero = None
loop_from k (b ∷ bytes) (suc n) = option_and_then (λ p. option_map (λ es. p.0 ∷ es) (loop_from k p.1 n)) (entry_at k (b ∷ bytes))

-- the entries of a loop; none if it ends within an entry
unfoldable pub loop_at : ℕ → List ℕ → Option (List EntryView)
loop_at k bytes = loop_from k bytes (length bytes)

-- the entries of a whole loop
abbrev pub entries_in : ℕ → List ℕ → List EntryView
entries_in k bytes = unwrap_or (loop_at k bytes) []

-- the content of an entry
abbrev pub entry_view : Entry → EntryView
entry_view e = record { head = e.head.now; descriptors = e.descriptors.now }
