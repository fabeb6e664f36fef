-- The keys of a table of the array `program`.
use Rattle.std.specs.Prelude.{ℕ, pos, ◌==◌, ◌&&◌, ◌||◌, not, Bool, true, false, List, [], ◌∷◌, Option, Some, None, codes, is_none, is_some, unwrap_or}
use Rattle.std.specs.List.{list_any}
use Rattle.std.specs.Option.{option_or}
use Rattle.toml.specs.Data.{Data, get}
use Rattle.description_values.specs.Values.{boolean_or, integer_at, integer_or, optional_integer, text_or, descriptors_or_none, elements}
use Rattle.description_keys.specs.Rules.{Rule, needs, rule}
use Rattle.description_keys.specs.TopKeys.{clock_pid_of, has_own_clock}
use Rattle.description_keys.specs.declared.key_row.KeyPart.TheVariants as part

-- program_number, a program's and therefore not 0 (ISO/IEC 13818-1, 2.4.4.5)
abbrev pub program_number : Data → Option ℕ
program_number = integer_at (codes "number") (pos 1) (pos 65535)

-- a program has that number
abbrev pub has_number : ℕ → Data → Bool
has_number number program = elim (program_number program) [ None ↦ false | Some n ↦ n == number ]

abbrev pub program_pmt_pid : Data → Option ℕ
program_pmt_pid = integer_at (codes "pmt_pid") (pos 32) (pos 8190)

-- the PID of its own clock references
abbrev pub program_pcr_pid : Data → Option ℕ
program_pcr_pid = integer_at (codes "pcr_pid") (pos 32) (pos 8190)

-- PCR_PID (ISO/IEC 13818-1, 2.4.4.9): its own PID, or the shared PID of the document; the least PID if both are refused
abbrev pub clock_pid_in : Data → Data → ℕ
clock_pid_in document program = unwrap_or (option_or (program_pcr_pid program) (clock_pid_of document)) 32

-- the key may be absent if the document has a shared PID
abbrev pub refuses_pcr_pid : Data → Data → Bool
refuses_pcr_pid document program = is_none (program_pcr_pid program) && (has_own_clock program || is_none (clock_pid_of document))

-- the greatest time between two PCRs, in ms (ISO/IEC 13818-1, 2.7.2; TR 101 290, 5.2.2)
abbrev pub program_pcr_limit : Data → Option ℕ
program_pcr_limit = integer_or 40 (codes "pcr_limit") (pos 1) (pos 100)

abbrev pub program_descriptors : Data → Option (List ℕ)
program_descriptors = descriptors_or_none 700 (codes "descriptors")

-- service_type (EN 300 468, 6.2.33): 1 is digital television
abbrev pub program_service_type : Data → Option ℕ
program_service_type = integer_or 1 (codes "service_type") (pos 0) (pos 255)

abbrev pub program_provider : Data → Option (List ℕ)
program_provider = text_or 100 (codes "provider")

abbrev pub program_name : Data → Option (List ℕ)
program_name = text_or 100 (codes "name")

-- the whole loop of its service in the SDT, in place of these three keys: refused beside one of them
abbrev pub has_service_loop : Data → Bool
has_service_loop program = is_some (get (codes "service_descriptors") program)

abbrev pub has_service_texts : Data → Bool
has_service_texts program =
    is_some (get (codes "service_type") program) || is_some (get (codes "provider") program) || is_some (get (codes "name") program)

abbrev pub program_service_descriptors : Data → Option (List ℕ)
program_service_descriptors = descriptors_or_none 1004 (codes "service_descriptors")

abbrev pub refuses_service_descriptors : Data → Bool
refuses_service_descriptors program =
    is_none (program_service_descriptors program) || (has_service_loop program && has_service_texts program)

-- running_status of its service (EN 300 468, table 6): 4 is running
abbrev pub program_running_status : Data → Option ℕ
program_running_status = integer_or 4 (codes "running_status") (pos 0) (pos 7)

-- free_CA_mode and EIT_schedule_flag of its service
abbrev pub program_free_ca : Data → Option Bool
program_free_ca = boolean_or false (codes "free_ca")

abbrev pub program_eit_schedule : Data → Option Bool
program_eit_schedule = boolean_or false (codes "eit_schedule")

-- logical_channel_number of a service in its network (IEC 62216), if the program has one: 10 bits, and 0 is none
abbrev pub program_channel : Data → Option (Option ℕ)
program_channel = optional_integer (codes "lcn") (pos 1) (pos 1023)

-- none if the key is refused
abbrev pub channel_of : Data → Option ℕ
channel_of program = unwrap_or (program_channel program) None

abbrev pub has_channel : ℕ → Data → Bool
has_channel channel program = elim (channel_of program) [ None ↦ false | Some n ↦ n == channel ]

-- a program of another number has that channel
abbrev pub is_other : Data → Data → Bool
is_other program other = elim (program_number program) [ None ↦ true | Some number ↦ not (has_number number other) ]

abbrev pub takes_channel : Data → ℕ → Data → Bool
takes_channel program channel other = has_channel channel other && is_other program other

abbrev pub is_taken : Data → Data → ℕ → Bool
is_taken document program channel = list_any (takes_channel program channel) (elements (codes "program") document)

-- a channel is refused without a network, and if another program has it
abbrev pub refuses_number : Data → Data → Option ℕ → Bool
refuses_number document program None = false
refuses_number document program (Some channel) = is_none (get (codes "network") document) || is_taken document program channel

abbrev pub refuses_channel : Data → Data → Bool
refuses_channel document program = elim (program_channel program) [ None ↦ true | Some channel ↦ refuses_number document program channel ]

-- the least number of packets of a section of its PMT
abbrev pub program_pmt_packets : Data → Option ℕ
program_pmt_packets = integer_or 1 (codes "pmt_packets") (pos 1) (pos 6)

-- whether its streams are in its PMT, and its service runs
abbrev pub program_on_air : Data → Option Bool
program_on_air = boolean_or true (codes "on_air")

-- the rules of the keys, in the order of their refusals
abbrev pub program_rules : List Rule
program_rules = needs part.Program 31 (codes "number") program_number
    ∷ needs part.Program 32 (codes "pmt_pid") program_pmt_pid
    ∷ rule part.Program 33 (codes "pcr_pid") (λ document program. refuses_pcr_pid document program)
    ∷ needs part.Program 34 (codes "pcr_limit") program_pcr_limit
    ∷ needs part.Program 35 (codes "descriptors") program_descriptors
    ∷ needs part.Program 36 (codes "service_type") program_service_type
    ∷ needs part.Program 37 (codes "provider") program_provider ∷ needs part.Program 38 (codes "name") program_name
    ∷ rule part.Program 88 (codes "service_descriptors") (λ document program. refuses_service_descriptors program)
    ∷ needs part.Program 89 (codes "running_status") program_running_status
    ∷ needs part.Program 90 (codes "free_ca") program_free_ca ∷ needs part.Program 91 (codes "eit_schedule") program_eit_schedule
    ∷ rule part.Program 93 (codes "lcn") (λ document program. refuses_channel document program)
    ∷ needs part.Program 94 (codes "pmt_packets") program_pmt_packets
    ∷ needs part.Program 104 (codes "on_air") program_on_air ∷ []
