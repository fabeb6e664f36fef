-- PAT and PMT have come before the first packet of a stream whose units are due late enough.
use Rattle.std.specs.Prelude.{◌≡◌, ◌≤◌, ℕ, ◌*◌, List, take, slice_get, Some, All}
use Rattle.pes_packet.specs.AccessUnits.{AccessUnit}
use Rattle.ts_packet.specs.PidList.{Entry, pid_list}
use Rattle.slot_contents.specs.Contents.{run_bytes}
use Rattle.description_parts.specs.Described.{DescribedStream}
use Rattle.description_parts.specs.Ranges.{IsInRange}
use Rattle.slot_plan.specs.Promised.{Promised}
use Rattle.mux_core.specs.Scheduled.{Scheduled}
use Rattle.mux_core.specs.Histories.{content_at}
use Rattle.mux_core.specs.Headline.{UnitsKept}
use Rattle.laws_run.specs.FollowedTables.{IsFollowed}

-- 2 seconds after the run's begin or later, in units of 90 kHz: a lead is a second at most, and within the first second each section of PAT and
-- PMT begins twice
abbrev pub DueLate : List AccessUnit → Type 0
DueLate units = All (λ u. 180000 ≤ u.dts) units

-- the bytes before a packet of a stream name each program and its streams to a decoder that follows PAT and PMT
abbrev pub TablesFirstLaw : Type 0
TablesFirstLaw = (d : Scheduled) (units : ℕ → List AccessUnit) (n k j : ℕ) (s : DescribedStream) (e : Entry) →
    IsInRange d.description → Promised d.description d.schedule → UnitsKept d units → slice_get d.description.streams k ≡ Some s → DueLate (units k) →
    slice_get (pid_list s.pid (run_bytes (content_at d units) 0 n)) j ≡ Some e →
    IsFollowed d.description (take (188 * e.index) (run_bytes (content_at d units) 0 n))
