-- What the parts of a document are refused for together, once each key is in its range: PIDs and program numbers that
-- are equal, events out of order, sections that would be too long.
use Rattle.std.specs.Prelude.{ℕ, ◌+◌, ◌==◌, ◌&&◌, nat_lt, Bool, false, List, [], ◌∷◌, ◌++◌, Option, None, Some, option_map, unwrap_or, if◌then◌else◌}
use Rattle.std.specs.List.{list_any}
use Rattle.std.specs.Option.{option_or}
use Rattle.toml.specs.Data.{Data}
use Rattle.description_parts.specs.Described.{Described}
use Rattle.description_values.specs.Values.{is_distinct}
use Rattle.description_keys.specs.StreamKeys.{owner_number}
use Rattle.description_keys.specs.EventKeys.{event_start, event_duration}
use Rattle.description_keys.specs.Refusals.{events_of}
use Rattle.description_parts.specs.Tables.{kind_lengths, table_kinds}
use Rattle.description_parts.specs.Ranges.{named_pids, program_numbers, longest_section}
use Rattle.description_parts.specs.declared.table_kind.TableKind.{TableKind}
use Rattle.description_parts.specs.declared.table_kind.TableKind.TheVariants.{Pmt, Nit, Sdt}
use Rattle.description_keys.specs.declared.fault.DescFault.{DescFault}
use Rattle.description_keys.specs.declared.fault.DescFault.TheVariants.{EqualPids, EqualNumbers, EventOrder, TooLong}

abbrev pub equal_pids_fault : Described → Option DescFault
equal_pids_fault d = if is_distinct (named_pids d) then None else Some EqualPids

abbrev pub equal_numbers_fault : Described → Option DescFault
equal_numbers_fault d = if is_distinct (program_numbers d) then None else Some EqualNumbers

-- when an event begins and when it ends, in seconds since 1970
abbrev pub event_begin : Data → ℕ
event_begin event = unwrap_or (event_start event) 0

abbrev pub event_end : Data → ℕ
event_end event = event_begin event + unwrap_or (event_duration event) 1

-- an event begins before an earlier event of its program ends
abbrev pub overlaps : Data → Data → Bool
overlaps event earlier = unwrap_or (owner_number earlier) 1 == unwrap_or (owner_number event) 1 && nat_lt (event_begin event) (event_end earlier)

-- the place of the first of the events, numbered from n on after the earlier ones, that overlaps one before it
abbrev pub first_overlap : ℕ → List Data → List Data → Option ℕ
first_overlap n earlier [] = None
first_overlap n earlier (event ∷ events) =
    if list_any (overlaps event) earlier then Some n else first_overlap (n + 1) (earlier ++ event ∷ []) events

abbrev pub event_order_fault : Data → Option DescFault
event_order_fault document = option_map EventOrder (first_overlap 0 [] (events_of document))

-- a PMT, the NIT or the SDT whose section_length would pass 1,021 (ISO/IEC 13818-1, 2.4.4; EN 300 468, 5.2)
abbrev pub is_too_long : Described → TableKind → Bool
is_too_long d (Pmt p) = list_any (nat_lt longest_section) (kind_lengths d (Pmt p))
is_too_long d Nit = list_any (nat_lt longest_section) (kind_lengths d Nit)
is_too_long d Sdt = list_any (nat_lt longest_section) (kind_lengths d Sdt)
is_too_long d _ = false

-- the place of the first element that passes, of elements numbered from n on
abbrev pub first_place : {X : Type 0} → (X → Bool) → ℕ → List X → Option ℕ
first_place passes n [] = None
first_place passes n (x ∷ xs) = if passes x then Some n else first_place passes (n + 1) xs

abbrev pub too_long_fault : Described → Option DescFault
too_long_fault d = option_map TooLong (first_place (is_too_long d) 0 (table_kinds d))

-- the first of these refusals
abbrev pub joint_fault : Described → Data → Option DescFault
joint_fault d document = option_or (option_or (option_or (equal_pids_fault d) (equal_numbers_fault d)) (event_order_fault document)) (too_long_fault d)
