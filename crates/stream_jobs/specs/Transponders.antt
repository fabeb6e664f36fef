-- Which jobs need the numbers of a whole transponder: more than a description has without the key `transponder`.
use Rattle.std.specs.Prelude.{ℕ, ◌+◌, ◌-◌, ◌||◌, ◌&&◌, nat_le, nat_lt, not, Bool, false, List, length, sum_by, Option, None, Some}
use Rattle.std.specs.List.{list_any}
use Rattle.dvb_tables.specs.CharacterCoding.{text_bytes}
use Rattle.dvb_tables.specs.TransportStreams.{TransportStreamView}
use Rattle.job_text.specs.DescriptionParts.{NetworkPartView}
use Rattle.job_programs.specs.Information.{JobInformationView, NamedServiceView}
use Rattle.job_programs.specs.JobStreams.{TimedStreamView}
use Rattle.job_inputs.specs.JobInput.{JobInputView}

-- the bytes of a service in a service description section (EN 300 468, 5.2.3 and 6.2.33)
unfoldable pub loop_size : Option (List ℕ) → NamedServiceView → ℕ
loop_size None s = 5 + (length (text_bytes s.provider) + length (text_bytes s.name))
loop_size (Some descriptors) s = length descriptors

abbrev pub service_size : NamedServiceView → ℕ
service_size s = 5 + loop_size s.descriptors s

-- one service description section has room for 1,009 bytes of services
unfoldable pub has_many_services : JobInformationView → Bool
has_many_services i = i.sdt && nat_lt 1009 (sum_by service_size i.services)

-- the bytes of a transport stream in a network information section, and of the network: its descriptors and its transport streams (5.2.1)
abbrev pub network_stream_size : TransportStreamView → ℕ
network_stream_size t = 6 + length t.descriptors

unfoldable pub network_loop_size : Option (List ℕ) → NetworkPartView → ℕ
network_loop_size None n = 2 + length (text_bytes n.name)
network_loop_size (Some descriptors) n = length descriptors

abbrev pub network_size : NetworkPartView → ℕ
network_size n = network_loop_size n.network_descriptors n + (6 + length n.descriptors)

-- one network information section has room for 1,008 bytes of these
unfoldable pub has_long_network : Option NetworkPartView → Bool
has_long_network None = false
has_long_network (Some n) = not (nat_le (network_size n) 1008 && nat_le (sum_by network_stream_size n.streams) (1008 - network_size n))

-- a stream is shared by more than 15 further programs
unfoldable pub has_many_sharers : TimedStreamView → Bool
has_many_sharers s = nat_lt 15 (length s.shared_with)

unfoldable pub is_transponder : JobInputView → Bool
is_transponder input =
    nat_lt 16 (length input.programs)
    || (nat_lt 32 (length input.streams)
    || (nat_lt 256 (length input.information.events)
    || (nat_lt 16 (length input.tables)
    || (list_any has_many_sharers input.streams || (has_many_services input.information || has_long_network input.information.network)))))
