-- A recording whose parts come one after another: nothing changes but stamps and clock references.
use Rattle.std.specs.Prelude.{ℕ, ◌==◌, ◌&&◌, nat_le, if◌then◌else◌, Option, Some, None, List, [], map, fold}
use Rattle.pid_findings.specs.Views.{FindingView, WhatView, IsPes}
use Rattle.pes_packet.specs.declared.reading.PesHeader.{PesHeader}
use Rattle.pes_packet.specs.declared.time_stamps.Stamps.{Stamps}
use Rattle.pes_packet.specs.declared.time_stamps.Stamps.TheVariants.{Absent, Pts, PtsDts}
use Rattle.program_tables.specs.Association.{association}
use Rattle.stream_programs.specs.Programs.{FoundProgramsView}
use Rattle.stamp_repair.specs.DataTimes.{programs_by}
use Rattle.packet_pcr.specs.declared.pcr_reading.FoundPcr.{FoundPcr}
use Rattle.joined_parts.specs.Cuts.{cuts_in}
use Rattle.joined_parts.specs.Holes.{jumps_of}
use Rattle.joined_parts.specs.Joins.{is_after, joins_of, later}
use Rattle.joined_parts.specs.UnitStamps.{stamp_of, stamps_in}
use Rattle.joined_parts.specs.declared.cuts.Cut.{Cut}
use Rattle.joined_parts.specs.declared.joins.Join.{Join}
use Rattle.joined_parts.specs.declared.stamps.UnitStamp.{UnitStamp}

-- 1. The parts

-- the programs, and the cuts at which a clock jumps, with their constants
pub record JoinsView : Type 0 where
  pub programs : FoundProgramsView
  pub joins : List Join

abbrev pub joins_at : FoundProgramsView → List UnitStamp → List Cut → JoinsView
joins_at programs stamps cuts = record { programs = programs; joins = joins_of stamps (jumps_of stamps cuts) }

abbrev pub joins_by : FoundProgramsView → List FoundPcr → List FindingView → JoinsView
joins_by programs references findings = joins_at programs (stamps_in programs findings) (cuts_in references)

abbrev pub joins_for : List FoundPcr → List FindingView → JoinsView
joins_for references findings = joins_by (programs_by (association findings) findings) references findings

-- 2. Constants

-- the shift of a unit: the shift of the last cut of its clock before it; a unit before all cuts has none
abbrev pub with_shift : UnitStamp → Option ℕ → Join → Option ℕ
with_shift s shift j = if is_after j.cut s then Some j.shift else shift

abbrev pub shift_of : List Join → UnitStamp → Option ℕ
shift_of joins s = fold (with_shift s) None joins

unfoldable pub shift_with : List Join → Option UnitStamp → Option ℕ
shift_with joins None = None
shift_with joins (Some s) = shift_of joins s

-- the shift of a clock reference
abbrev pub with_own : FoundPcr → Option ℕ → Join → Option ℕ
with_own r shift j = if j.cut.pid == r.pid && nat_le j.cut.packet r.packet then Some j.shift else shift

abbrev pub shift_at : List Join → FoundPcr → Option ℕ
shift_at joins r = fold (with_own r) None joins

-- 3. Moved stamps and references

unfoldable pub moved_stamps : ℕ → Stamps → Stamps
moved_stamps shift Absent = Absent
moved_stamps shift (Pts pts) = Pts (later pts shift)
moved_stamps shift (PtsDts pts dts) = PtsDts (later pts shift) (later dts shift)

abbrev pub moved_header : ℕ → PesHeader → PesHeader
moved_header shift header = record {
  id = header.id;
  len = header.len;
  stamps = moved_stamps shift header.stamps;
  flags = header.flags;
  data_length = header.data_length;
  private_data = header.private_data;
}

unfoldable pub moved_what : ℕ → WhatView → WhatView
moved_what shift (IsPes header unended body) = IsPes (moved_header shift header) unended body
moved_what shift what = what

unfoldable pub moved_by : Option ℕ → FindingView → FindingView
moved_by None f = f
moved_by (Some shift) f = record { packet = f.packet; pid = f.pid; begun = f.begun; what = moved_what shift f.what }

abbrev pub moved : JoinsView → FindingView → FindingView
moved j f = moved_by (shift_with j.joins (stamp_of j.programs f)) f

unfoldable pub reference_by : Option ℕ → FoundPcr → FoundPcr
reference_by None r = r
reference_by (Some shift) r = record { packet = r.packet; pid = r.pid; base = later r.base shift; discontinuity = r.discontinuity }

abbrev pub moved_reference : JoinsView → FoundPcr → FoundPcr
moved_reference j r = reference_by (shift_at j.joins r) r

-- 4. All of them

abbrev pub all_moved : JoinsView → List FindingView → List FindingView
all_moved j findings = map (moved j) findings

abbrev pub joined : List FoundPcr → List FindingView → List FindingView
joined references findings = all_moved (joins_for references findings) findings

abbrev pub joined_references : List FoundPcr → List FindingView → List FoundPcr
joined_references references findings = map (moved_reference (joins_for references findings)) references
