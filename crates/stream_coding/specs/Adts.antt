-- How many channels an ADTS header has (ISO/IEC 13818-7); its bytes from protection_absent on.
use Rattle.std.specs.Prelude.{ℕ, ◌+◌, ◌*◌, ◌/◌, ◌%◌, ◌==◌, if◌then◌else◌, List, ◌∷◌, drop}

-- the channels of a channel_configuration (table 42)
unfoldable pub channel_count : ℕ → ℕ
channel_count configuration = if configuration == 7 then 8 else configuration

-- the elements, with a channel or two each, of a program_config_element (8.5) that comes first in a raw_data_block, id_syn_ele 5: after 4 bits of
-- element_instance_tag, 2 of profile and 4 of sampling_frequency_index 4 bits of front, 4 of side and 4 of back elements, and 2 of low frequency ones
unfoldable pub element_count : List ℕ → ℕ
element_count (a ∷ b ∷ c ∷ d ∷ rest) = if a / 32 == 5 then b % 8 * 2 + c / 128 + c / 8 % 16 + (c % 8 * 2 + d / 128) + d / 32 % 4 else 0
element_count _ = 0

-- the channels of a channel_configuration, with the bytes after it: three bytes of the header, and a check word unless protection is absent
unfoldable pub channels_by : ℕ → ℕ → List ℕ → ℕ
channels_by absent configuration rest =
    if configuration == 0 then element_count (drop (if absent == 1 then 3 else 5) rest) else channel_count configuration

-- the channels by a header (6.2): protection_absent; 2 bits of profile, 4 of sampling_frequency_index, private_bit, and channel_configuration in 3 bits
unfoldable pub channels : List ℕ → ℕ
channels (b ∷ c ∷ d ∷ rest) = channels_by (b % 2) (c % 2 * 4 + d / 64) rest
channels _ = 0
