-- What the laws of this crate say.
use Rattle.std.specs.Prelude.{◌≡◌, ◌≤◌, ℕ, ◌+◌, ◌*◌, true, List, [], Option, Some, map, slice_get}
use Rattle.pid_findings.specs.Views.{FindingView, WhatView, IsPes}
use Rattle.pes_packet.specs.declared.reading.PesHeader.{PesHeader}
use Rattle.pes_packet.specs.declared.time_stamps.Stamps.TheVariants.{Absent}
use Rattle.packet_pcr.specs.declared.pcr_reading.FoundPcr.{FoundPcr}
use Rattle.fed_streams.specs.Ticks.{jump_pause}
use Rattle.es_moments.specs.Stamps.{distance}
use Rattle.joined_parts.specs.Cuts.{cuts_in}
use Rattle.joined_parts.specs.Joined.{joined, joined_references}
use Rattle.joined_parts.specs.Joins.{cut_if, is_between, joined_after, later, nearest, shift_if}
use Rattle.joined_parts.specs.declared.cuts.Cut.{Cut}
use Rattle.joined_parts.specs.declared.joins.Join.{Join}
use Rattle.joined_parts.specs.declared.stamps.UnitStamp.{UnitStamp}

-- 1. What stays

-- a finding without its stamps
abbrev pub unstamped_header : PesHeader → PesHeader
unstamped_header header = record {
  id = header.id;
  len = header.len;
  stamps = Absent;
  flags = header.flags;
  data_length = header.data_length;
  private_data = header.private_data;
}

unfoldable pub unstamped_what : WhatView → WhatView
unstamped_what (IsPes header unended body) = IsPes (unstamped_header header) unended body
unstamped_what what = what

abbrev pub unstamped : FindingView → FindingView
unstamped f = record { packet = f.packet; pid = f.pid; begun = f.begun; what = unstamped_what f.what }

-- nothing but stamps changes
abbrev pub NothingElseMoves : Type 0
NothingElseMoves = (references : List FoundPcr) (findings : List FindingView) → map unstamped (joined references findings) ≡ map unstamped findings

-- a recording without a cut stays as it is
abbrev pub WholeRecordingStays : Type 0
WholeRecordingStays = (references : List FoundPcr) (findings : List FindingView) → cuts_in references ≡ [] →
    (joined references findings ≡ findings) × (joined_references references findings ≡ references)

-- 2. The order of parts

-- how long after a unit of the part before a cut a unit of the part after it is due
abbrev pub apart_by : List UnitStamp → Option Join → Cut → Option Cut → UnitStamp → UnitStamp → ℕ
apart_by stamps before cut next s t = distance (later s.dts (shift_if before)) (later t.dts (joined_after stamps before cut next).shift)

-- at least 0.3 s and at most 20.3 s, if the DTS of each is at most 10 s after the reference beside the cut: the last one before the cut for the unit before
-- it, the first one after the cut for the unit after it
abbrev pub PartsComeInOrder : Type 0
PartsComeInOrder = (stamps : List UnitStamp) (before : Option Join) (cut : Cut) (next : Option Cut) (i k : ℕ) (s t : UnitStamp) →
    slice_get stamps i ≡ Some s → slice_get stamps k ≡ Some t →
    is_between cut.pid (cut_if before) (Some cut) s ≡ true → is_between cut.pid (Some cut) next t ≡ true →
    distance cut.before s.dts ≤ nearest → distance cut.base t.dts ≤ nearest →
    (jump_pause ≤ apart_by stamps before cut next s t) × (apart_by stamps before cut next s t ≤ jump_pause + 2 * nearest)
