-- The channel numbers of the services of a network, as descriptors of its transport stream.
use Rattle.std.specs.Prelude.{ℕ, ◌+◌, ◌/◌, ◌%◌, nat_le, List, [], ◌∷◌, ◌++◌, length, take, drop, None, Some, unwrap_or, if◌then◌else◌}
use Rattle.std.specs.List.{flat_map}
use Rattle.toml.specs.Data.{Data}
use Rattle.description_keys.specs.ProgramKeys.{channel_of, program_number}

-- an entry of the logical_channel_descriptor (IEC 62216): service_id, 16 bits; visible_service_flag, 1; five reserved bits of 1;
-- logical_channel_number, 10 bits
abbrev pub channel_entry : ℕ → ℕ → List ℕ
channel_entry number channel = (number / 256) ∷ (number % 256) ∷ (252 + channel / 256) ∷ (channel % 256) ∷ []

abbrev pub entry_of : Data → List ℕ
entry_of program = elim (channel_of program) [ None ↦ [] | Some channel ↦ channel_entry (unwrap_or (program_number program) 1) channel ]

abbrev pub channel_entries : List Data → List ℕ
channel_entries programs = flat_map entry_of programs

-- the logical_channel_descriptor, tag 0x83, of entries; no descriptor if there is no entry
abbrev pub channel_descriptor : List ℕ → List ℕ
channel_descriptor [] = []
channel_descriptor (b ∷ entries) = (0x83 ∷ length (b ∷ entries) ∷ []) ++ (b ∷ entries)

-- the private_data_specifier_descriptor (EN 300 468, 6.2.31) of EACEM, 0x00000028 (ETSI TS 101 162), and the channels: 63 entries fit in a
-- descriptor of 255 bytes, and a second descriptor has those after them
abbrev pub channel_descriptors : List ℕ → List ℕ
channel_descriptors [] = []
channel_descriptors (b ∷ entries) = (0x5F ∷ 4 ∷ 0 ∷ 0 ∷ 0 ∷ 0x28 ∷ [])
    ++ (channel_descriptor (take 252 (b ∷ entries)) ++ channel_descriptor (drop 252 (b ∷ entries)))

-- of at most 64 programs: a document with more is refused
abbrev pub described_channels : List Data → List ℕ
described_channels programs = if nat_le (length programs) 64 then channel_descriptors (channel_entries programs) else []
