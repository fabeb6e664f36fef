-- The sections of a PID that do not change in a stream: private sections, as they are carried.
use Rattle.std.specs.Prelude.{ℕ, ◌+◌, ◌-◌, ◌*◌, ◌==◌, ◌&&◌, ◌||◌, not, max, nat_le, nat_lt, Bool, true, if◌then◌else◌, List, [], ◌∷◌, ◌++◌, length, map}
use Rattle.std.specs.Prelude.{slice_index, Option, Some, None, option_and_then}
use Rattle.std.specs.List.{list_any, list_all}
use Rattle.std.specs.Str.{bytes_eq}
use Rattle.pid_findings.specs.declared.finding.Kind.{Kind}
use Rattle.pid_findings.specs.Views.{WhatView, IsDuplicate, IsSection, IsTruncated, IsStray, FindingView}
use Rattle.demux.specs.Laws.{has_pid}
use Rattle.other_tables.specs.declared.steady.FoundSection.{FoundSection}

-- 1. The findings on the PID

-- a section, and the packet where it begins
pub record PidSection : Type 0 where
  pub begun : ℕ
  pub bytes : List ℕ

-- the section of the code
abbrev pub section_view : FoundSection → PidSection
section_view s = record { begun = s.begun; bytes = s.bytes.now }

unfoldable pub begun_by : ℕ → Option (ℕ × Kind) → ℕ
begun_by packet None = packet
begun_by packet (Some b) = b.0

abbrev pub begun_at : FindingView → ℕ
begun_at f = begun_by f.packet f.begun

-- a splice command (ANSI/SCTE 35, splice_info_section: table_id 0xFC, splice_command_type in byte 13), which has its own time; not a splice_null
-- (type 0, no bytes, so the next two are descriptor_loop_length) without descriptors, which says the same at any time
unfoldable pub is_splice_command : List ℕ → Bool
is_splice_command bytes =
    slice_index bytes 0 == 0xFC && not (slice_index bytes 13 == 0 && (slice_index bytes 14 == 0 && slice_index bytes 15 == 0))

-- a section at a time: of DSM-CC stream descriptors (ISO/IEC 13818-6, DSMCC_section with table_id 0x3D: events, references of normal play time), or
-- a splice command
unfoldable pub is_timed : List ℕ → Bool
is_timed bytes = slice_index bytes 0 == 0x3D || is_splice_command bytes

-- a section that may be repeated
unfoldable pub section_of : ℕ → List ℕ → Option (List PidSection)
section_of begun bytes = if is_timed bytes then None else Some (record { begun = begun; bytes = bytes } ∷ [])

-- what a finding adds to the sections of its PID: a section that may be repeated; nothing where a packet comes twice or its payload is stray, or
-- where the end of a stream of `count` whole packets cuts a section short; anything else is not of a PID of such whole sections alone
unfoldable pub section_by : ℕ → ℕ → ℕ → WhatView → Option (List PidSection)
section_by count packet begun (IsSection bytes) = section_of begun bytes
section_by count packet begun IsDuplicate = Some []
section_by count packet begun (IsTruncated bytes) = if nat_le count packet then Some [] else None
section_by count packet begun (IsStray size) = Some []
section_by count packet begun _ = None

abbrev pub section_at : ℕ → FindingView → Option (List PidSection)
section_at count f = section_by count f.packet (begun_at f) f.what

unfoldable pub section_on : ℕ → ℕ → FindingView → Option (List PidSection)
section_on count pid f = if has_pid pid f.pid then section_at count f else Some []

-- the sections found before, and the sections of all further findings, in order
unfoldable pub sections_on : ℕ → ℕ → List PidSection → List FindingView → Option (List PidSection)
sections_on count pid found [] = Some found
sections_on count pid found (f ∷ fs) = option_and_then (λ one. sections_on count pid (found ++ one) fs) (section_on count pid f)

-- 2. The sections, each once, in the order of their first findings: at most nine, which are too many

-- a section has the same bytes as a known section
unfoldable pub is_known : List PidSection → PidSection → Bool
is_known known s = list_any (λ k. bytes_eq k.bytes s.bytes) known

unfoldable pub with_new : List PidSection → PidSection → List PidSection
with_new known s = if nat_le 9 (length known) || is_known known s then known else known ++ s ∷ []

unfoldable pub distinct_sections : List PidSection → List PidSection → List PidSection
distinct_sections known [] = known
distinct_sections known (s ∷ ss) = distinct_sections (with_new known s) ss

-- 3. Which section of a table it is (ISO/IEC 13818-1, 2.4.4.11): table_id, and of the long form table_id_extension and section_number

abbrev pub is_long : List ℕ → Bool
is_long bytes = nat_le 128 (slice_index bytes 1)

unfoldable pub extension_of : List ℕ → ℕ
extension_of bytes = if is_long bytes then slice_index bytes 3 * 256 + slice_index bytes 4 else 0

unfoldable pub number_of : List ℕ → ℕ
number_of bytes = if is_long bytes then slice_index bytes 6 else 0

unfoldable pub is_same_section : PidSection → PidSection → Bool
is_same_section one other =
    slice_index one.bytes 0 == slice_index other.bytes 0
    && (extension_of one.bytes == extension_of other.bytes && number_of one.bytes == number_of other.bytes)

-- two that are one section of one table are a section that changes
unfoldable pub none_changes : List PidSection → Bool
none_changes [] = true
none_changes (s ∷ ss) = not (list_any (is_same_section s) ss) && none_changes ss

-- 4. How far apart they come, in packets

unfoldable pub distance_from : Option ℕ → ℕ → ℕ
distance_from None begun = 0
distance_from (Some last) begun = begun - last

-- the greatest distance from one start of a section to the next, 0 if it comes once
unfoldable pub greatest_gap : List ℕ → Option ℕ → List PidSection → ℕ
greatest_gap bytes last [] = 0
greatest_gap bytes last (s ∷ ss) =
    if bytes_eq bytes s.bytes then max (distance_from last s.begun) (greatest_gap bytes (Some s.begun) ss) else greatest_gap bytes last ss

abbrev pub gap_in : List PidSection → PidSection → ℕ
gap_in all s = greatest_gap s.bytes None all

unfoldable pub comes_again : List PidSection → PidSection → Bool
comes_again all s = nat_lt 0 (gap_in all s)

-- the greatest of all
unfoldable pub widest_gap : List PidSection → List PidSection → ℕ
widest_gap all [] = 0
widest_gap all (s ∷ ss) = max (gap_in all s) (widest_gap all ss)

-- 5. Sections that can be ready-made ones of a description: 1 to 8, each comes again, none changes

pub record SteadySectionsView : Type 0 where
  pub sections : List (List ℕ)
  pub gap : ℕ

unfoldable pub are_steady : List PidSection → List PidSection → Bool
are_steady all known = nat_le 1 (length known) && (nat_le (length known) 8 && (list_all (comes_again all) known && none_changes known))

unfoldable pub steady_if : List PidSection → List PidSection → Option SteadySectionsView
steady_if all known = if are_steady all known then Some (record { sections = map (λ s. s.bytes) known; gap = widest_gap all known }) else None

unfoldable pub steady_sections : ℕ → ℕ → List FindingView → Option SteadySectionsView
steady_sections count pid findings = option_and_then (λ all. steady_if all (distinct_sections [] all)) (sections_on count pid [] findings)
