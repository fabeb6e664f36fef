-- Whether the texts of a description may take the place of others on air: all that is not a text is alike, each section has its place, and no private
-- section changes under its version.
use Rattle.std.specs.Prelude.{◌≡◌, ℕ, ◌%◌, ◌==◌, ◌&&◌, ◌≤◌, nat_le, not, Bool, List, [], Option, None, Some, is_none, length, map, find}
use Rattle.std.specs.Prelude.{option_map, slice_get, slice_index, bytes_eq, if◌then◌else◌}
use Rattle.std.specs.Bool.{beq}
use Rattle.std.specs.List.{list_any, list_all, zip, range_with_len}
use Rattle.std.specs.Option.{option_or}
use Rattle.description_parts.specs.Described.{Described}
use Rattle.description_parts.specs.Tables.{has_events_table, table_kinds, table_kind, table_count, table_pid, table_limit, section_count, section_packets}
use Rattle.description_parts.specs.Tables.{section_lengths, packets_of_section}
use Rattle.description_parts.specs.declared.table_kind.TableKind.{TableKind}
use Rattle.description_parts.specs.declared.table_kind.TableKind.TheVariants.{Private}
use Rattle.changed_texts.specs.Fixed.{fixed_program, fixed_stream, fixed_table, is_same_option, is_same_program, is_same_stream, is_same_table}
use Rattle.changed_texts.specs.Fixed.{first_difference}
use Rattle.changed_texts.specs.declared.fault.TextFault.{TextFault}
use Rattle.changed_texts.specs.declared.fault.TextFault.TheVariants as fault

-- the whole: the rate, the clock of the output, and the names of the transport stream
abbrev pub whole_fault : Described → Described → Option TextFault
whole_fault frame e =
    if not (frame.rate == e.rate) then Some fault.Rate
    else (if not (frame.base0 == e.base0) then Some fault.Clock
    else (if not (frame.transport_stream_id == e.transport_stream_id && frame.original_network_id == e.original_network_id)
    then Some fault.Stream else None))

abbrev pub program_fault : Described → Described → Option TextFault
program_fault frame e = option_map fault.Program (first_difference is_same_program frame.programs e.programs)

abbrev pub stream_fault : Described → Described → Option TextFault
stream_fault frame e = option_map fault.Elementary (first_difference is_same_stream frame.streams e.streams)

-- the same tables, on the same PIDs
abbrev pub network_number : Described → Option ℕ
network_number d = option_map (λ n. n.id) d.network

abbrev pub has_same_services : Described → Described → Bool
has_same_services frame e = is_same_option (λ a b. a == b) (network_number frame) (network_number e) && beq frame.has_sdt e.has_sdt
    && beq (has_events_table frame) (has_events_table e) && beq frame.has_tdt e.has_tdt

abbrev pub has_same_tables : Described → Described → Bool
has_same_tables frame e = has_same_services frame e && beq frame.is_transponder e.is_transponder
    && is_same_option (λ a b. a == b) frame.clock_pid e.clock_pid && is_none (first_difference is_same_table frame.tables e.tables)

abbrev pub tables_fault : Described → Described → Option TextFault
tables_fault frame e = if has_same_tables frame e then None else Some fault.Tables

-- as many sections, each of which takes no more packets than the frame's
abbrev pub has_place : List ℕ → List ℕ → Bool
has_place places lengths = length places == length lengths
    && list_all (λ p. nat_le (packets_of_section p.1) (packets_of_section p.0)) (zip places lengths)

abbrev pub keeps_shape : Described → Described → ℕ → Bool
keeps_shape frame e t = has_place (section_lengths frame t) (section_lengths e t)

-- the numbers of a description's tables
abbrev pub tables_of : Described → List ℕ
tables_of d = range_with_len 0 (table_count d)

abbrev pub shape_fault : Described → Described → Option TextFault
shape_fault frame e = option_map fault.Shape (find (λ t. not (keeps_shape frame e t)) (tables_of frame))

-- a section in the long form, which has a version (ISO/IEC 13818-1, 2.4.4.11: section_syntax_indicator)
abbrev pub is_long : List ℕ → Bool
is_long s = nat_le 8 (length s) && nat_le 128 (slice_index s 1)

-- two sections have one table_id, table_id_extension, version_number, current_next_indicator and section_number: a receiver takes them for one
abbrev pub is_same_name : List ℕ → List ℕ → Bool
is_same_name s t = slice_index s 0 == slice_index t 0 && slice_index s 3 == slice_index t 3 && slice_index s 4 == slice_index t 4
    && slice_index s 5 % 64 == slice_index t 5 % 64 && slice_index s 6 == slice_index t 6

-- and they differ
abbrev pub contradicts : List ℕ → List ℕ → Bool
contradicts s t = is_long s && is_long t && is_same_name s t && not (bytes_eq s t)

-- some new section differs from an old one of its name
abbrev pub has_contradiction : List (List ℕ) → List (List ℕ) → Bool
has_contradiction olds news = list_any (λ s. list_any (contradicts s) olds) news

-- the sections of a table, if it is a private one
abbrev pub sections_of : Described → TableKind → List (List ℕ)
sections_of d (Private i) = elim (slice_get d.tables i) [ None ↦ [] | Some table ↦ table.sections ]
sections_of d _ = []

abbrev pub private_sections : Described → ℕ → List (List ℕ)
private_sections d t = elim (table_kind d t) [ None ↦ [] | Some kind ↦ sections_of d kind ]

-- the texts in force and the new ones contradict each other in a table
abbrev pub breaks_version : Described → Described → ℕ → Bool
breaks_version now e t = has_contradiction (private_sections now t) (private_sections e t)

abbrev pub version_fault : Described → Described → Option TextFault
version_fault now e = option_map fault.Private (find (λ t. breaks_version now e t) (tables_of e))

-- why a description is not texts that may follow those in force: of a multiplexer that runs by a first description, the frame
abbrev pub frame_fault : Described → Described → Option TextFault
frame_fault frame e = option_or (option_or (whole_fault frame e) (program_fault frame e)) (option_or (stream_fault frame e) (tables_fault frame e))

abbrev pub text_fault : Described → Described → Described → Option TextFault
text_fault frame now e = option_or (frame_fault frame e) (option_or (shape_fault frame e) (version_fault now e))

-- a description that has other texts than the frame, and else is the frame
pub record IsTextOf (frame e : Described) : Type 0 where
  pub rate : e.rate ≡ frame.rate
  pub base0 : e.base0 ≡ frame.base0
  pub transport_stream_id : e.transport_stream_id ≡ frame.transport_stream_id
  pub original_network_id : e.original_network_id ≡ frame.original_network_id
  pub is_transponder : e.is_transponder ≡ frame.is_transponder
  pub clock_pid : e.clock_pid ≡ frame.clock_pid
  pub programs : map fixed_program e.programs ≡ map fixed_program frame.programs
  pub streams : map fixed_stream e.streams ≡ map fixed_stream frame.streams
  pub tables : map fixed_table e.tables ≡ map fixed_table frame.tables
  pub kinds : table_kinds e ≡ table_kinds frame
  pub pids : (t : ℕ) → table_pid e t ≡ table_pid frame t
  pub limits : (t : ℕ) → table_limit e t ≡ table_limit frame t
  pub counts : (t : ℕ) → section_count e t ≡ section_count frame t
  pub packets : (t j : ℕ) → section_packets e t j ≤ section_packets frame t j

abbrev pub TextLaw : Type 0
TextLaw = (frame now e : Described) → text_fault frame now e ≡ None → IsTextOf frame e
