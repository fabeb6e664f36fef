-- What begins with the first byte of a payload, and how a packet signals it (ISO/IEC 13818-1, 2.4.3.3 and 2.4.3.5).
use Rattle.std.specs.Prelude.{ℕ, Bool, true, false, Option, Some, None, if◌then◌else◌}
use Rattle.ts_packet.specs.declared.start.Start.{Start}
use Rattle.ts_packet.specs.declared.start.Start.TheVariants.{Continues, Begins, Access}
use Rattle.ts_packet.specs.Views.{AdaptationView, NoFlags, WithFlags, PacketView}

-- the payload_unit_start_indicator
abbrev pub is_start : Start → Bool
is_start Continues = false
is_start Begins = true
is_start Access = true

-- the random_access_indicator
abbrev pub is_access : Start → Bool
is_access Continues = false
is_access Begins = false
is_access Access = true

-- the greatest payload in bytes: an adaptation field with the random_access_indicator has two bytes or more
abbrev pub room_of : Start → ℕ
room_of Continues = 184
room_of Begins = 184
room_of Access = 182

-- what begins, by both indicators
abbrev pub start_by : Bool → Bool → Start
start_by false access = Continues
start_by true false = Begins
start_by true true = Access

-- the random_access_indicator of an adaptation field that may be there
abbrev pub has_access : Option AdaptationView → Bool
has_access None = false
has_access (Some NoFlags) = false
has_access (Some (WithFlags parts)) = parts.random_access_indicator

-- what begins with the payload of a packet
abbrev pub start_in : PacketView → Start
start_in packet = start_by packet.header.payload_unit_start_indicator (has_access packet.adaptation)
