-- The marks that the packets of a unit carry in addition to its stamps (ISO/IEC 13818-1, 2.4.3.6 and 2.4.3.7).
use Rattle.std.specs.Prelude.{ℕ, ◌+◌, ◌-◌, ◌*◌, nat_lt, Bool, false, if◌then◌else◌, Option, Some, None, is_some, List, [], ◌∷◌, ◌++◌, length, take, replicate}
use Rattle.bit_fields.specs.Fields.{bit, flag}
use Rattle.pes_packet.specs.declared.marks.PesFlags.{PesFlags}
use Rattle.pes_packet.specs.declared.marks.Marks.{Marks}

-- none of the flags
abbrev pub no_flags : PesFlags
no_flags = record { priority = false; aligned = false; copyright = false; original = false }

-- no marks: the stamps alone
abbrev pub no_marks : Marks
no_marks = record { random_access = false; flags = no_flags; long = false; private_data = None }

-- the flags in the lowest four bits of the first flag byte: PES_priority, data_alignment_indicator, copyright, original_or_copy
abbrev pub flags_in : ℕ → PesFlags
flags_in byte = record { priority = flag byte 8; aligned = flag byte 4; copyright = flag byte 2; original = flag byte 1 }

-- the same flags as the number that their bits make
abbrev pub flag_bits : PesFlags → ℕ
flag_bits flags = bit flags.priority * 8 + bit flags.aligned * 4 + bit flags.copyright * 2 + bit flags.original

-- the 16 bytes of PES_private_data (2.4.3.7): of more bytes the first 16, fewer are filled with 0
abbrev pub sixteen : List ℕ → List ℕ
sixteen bytes = take 16 (bytes ++ replicate 16 0)

-- the first 16 bytes, if there are at least 16
unfoldable pub first_sixteen : List ℕ → Option (List ℕ)
first_sixteen bytes = if nat_lt (length bytes) 16 then None else Some (take 16 bytes)

-- a PES extension of PES_private_data alone: its flags, the first being PES_private_data_flag, and the 16 bytes (2.4.3.6)
abbrev pub extension : Option (List ℕ) → List ℕ
extension None = []
extension (Some private_data) = 0x8E ∷ sixteen private_data

-- the number of its bytes
abbrev pub extension_size : Marks → ℕ
extension_size marks = if is_some marks.private_data then 17 else 0

-- PES_header_data_length after n bytes of stamps: 36 in a header of 45 bytes (EN 300 472, 4.2: 0x24)
abbrev pub data_length : Marks → ℕ → ℕ
data_length marks n = if marks.long then 36 else n + extension_size marks

-- the stuffing bytes after n bytes of stamps and the PES extension
abbrev pub stuffing : Marks → ℕ → List ℕ
stuffing marks n = if marks.long then replicate (36 - (n + extension_size marks)) 0xFF else []

-- the bytes in front of a PES packet: of an adaptation field with the random_access_indicator, its length and its flags (2.4.3.4)
abbrev pub field_size : Bool → ℕ
field_size access = if access then 2 else 0

-- the bytes that marks take beyond the 19 of the greatest header without them: of the header, and of the field
abbrev pub marks_size : Marks → ℕ
marks_size marks = (if marks.long then 26 else extension_size marks) + field_size marks.random_access
