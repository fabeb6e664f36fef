-- Where sections begin, by the findings in a stream: in the packet that has their table_id, whether or not they become whole. The part of its
-- table that a section is becomes known when the section is whole.
use Rattle.std.specs.Prelude.{ℕ, ◌+◌, ◌*◌, nat_lt, if◌then◌else◌, List, slice_index, Option, Some, None}
use Rattle.pid_findings.specs.declared.finding.Kind.{Kind}
use Rattle.pid_findings.specs.declared.finding.Kind.TheVariants.{Table, Pes}
use Rattle.pid_findings.specs.Views.{FindingView, WhatView, IsSection}
use Rattle.tr101290.specs.Parts.{part_of}
use Rattle.tr101290.specs.declared.distances.WholeSection.{WholeSection}
use Rattle.tr101290.specs.declared.intervals.SectionBegin.{SectionBegin}

unfoldable pub begin_of : ℕ → ℕ → Kind → WhatView → Option SectionBegin
begin_of pid packet (Table table_id) what = Some (record { pid = pid; table_id = table_id; part = part_of pid table_id what; packet = packet; place = packet })
begin_of pid packet (Pes stamped access) what = None

unfoldable pub section_by : Option ℕ → Option (ℕ × Kind) → WhatView → Option SectionBegin
section_by None begun what = None
section_by (Some pid) None what = None
section_by (Some pid) (Some begun) what = begin_of pid begun.0 begun.1 what

abbrev pub section_begin : FindingView → Option SectionBegin
section_begin finding = section_by finding.pid finding.begun finding.what

-- the table_id_extension of a whole section: bytes 3 and 4, if section_syntax_indicator is 1 (ISO/IEC 13818-1, 2.4.4.11)
abbrev pub extension_in : List ℕ → ℕ
extension_in bytes = if nat_lt (slice_index bytes 1) 128 then 0 else slice_index bytes 3 * 256 + slice_index bytes 4

unfoldable pub extension_of : WhatView → Option ℕ
extension_of (IsSection bytes) = Some (extension_in bytes)
extension_of _ = None

unfoldable pub whole_by : Option SectionBegin → Option ℕ → ℕ → Option WholeSection
whole_by None extension end = None
whole_by (Some begin) None end = None
whole_by (Some begin) (Some extension) end = Some (record { begin = begin; extension = extension; end = end })

abbrev pub whole_section : FindingView → Option WholeSection
whole_section finding = whole_by (section_begin finding) (extension_of finding.what) finding.packet
