-- Where a clock passes over more than 10 s: it jumps ahead, or it has no references while its streams go on.
use Rattle.std.specs.Prelude.{Bool, if◌then◌else◌, List, [], ◌++◌, map}
use Rattle.pid_findings.specs.Views.{FindingView}
use Rattle.program_tables.specs.Association.{association}
use Rattle.stamp_repair.specs.DataTimes.{programs_by}
use Rattle.packet_pcr.specs.declared.pcr_reading.FoundPcr.{FoundPcr}
use Rattle.joined_parts.specs.Cuts.{cuts_in}
use Rattle.joined_parts.specs.Holes.{holes_of, jumps_of}
use Rattle.joined_parts.specs.JumpsAhead.{cuts_ahead}
use Rattle.joined_parts.specs.UnitStamps.{stamps_in}
use Rattle.joined_parts.specs.declared.gap_search.ClockGap.{ClockGap}
use Rattle.joined_parts.specs.declared.gap_search.ClockGap.TheVariants.{Jump, Hole}
use Rattle.joined_parts.specs.declared.cuts.Cut.{Cut}
use Rattle.joined_parts.specs.declared.stamps.UnitStamp.{UnitStamp}

-- the parts of a joined recording come one after another: no jump is left
abbrev pub jumps_left : Bool → List UnitStamp → List Cut → List Cut
jumps_left joined stamps cuts = if joined then [] else cuts_ahead stamps (jumps_of stamps cuts)

abbrev pub gaps_of : Bool → List UnitStamp → List Cut → List ClockGap
gaps_of joined stamps cuts = map Jump (jumps_left joined stamps cuts) ++ map Hole (holes_of stamps cuts)

-- the gaps in a recording with these references and findings
abbrev pub clock_gaps : Bool → List FoundPcr → List FindingView → List ClockGap
clock_gaps joined references findings = gaps_of joined (stamps_in (programs_by (association findings) findings) findings) (cuts_in references)
