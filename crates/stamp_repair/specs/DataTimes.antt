-- The moments of teletext that has no stamps. Its PES packets, of private_stream_1 (ISO/IEC 13818-1, table 2-22), may have a PTS or none (EN 300 472, 4.2);
-- without one a receiver shows them when they come. So each gets as its PTS the moment that the clock of its program showed last before it was found,
-- which is when it is whole: it is presented when it was, and no later.
use Rattle.std.specs.Prelude.{ℕ, ◌==◌, ◌||◌, nat_eq, nat_le, not, find, Bool, true, false, if◌then◌else◌, is_some, Option, Some, None, option_and_then}
use Rattle.std.specs.Prelude.{unwrap_or, List, [], ◌∷◌}
use Rattle.std.specs.Map.{lookup}
use Rattle.indexmap.specs.IndexMap.{insert_entry}
use Rattle.pes_packet.specs.declared.time_stamps.Stamps.TheVariants.{Pts}
use Rattle.pes_packet.specs.declared.reading.PesHeader.{PesHeader}
use Rattle.pid_findings.specs.declared.finding.Kind.{Kind}
use Rattle.pid_findings.specs.declared.finding.Kind.TheVariants.{Table, Pes}
use Rattle.pid_findings.specs.Views.{FindingView, WhatView, IsPes}
use Rattle.pid_findings.specs.OpenUnits.{is_stamped}
use Rattle.program_tables.specs.Association.{AssociationView, association}
use Rattle.descriptor_loops.specs.Descriptors.{has_tag}
use Rattle.stream_programs.specs.Programs.{FoundProgramView, FoundProgramsView, programs_of}
use Rattle.stream_programs.specs.Streams.{FoundStreamView}
use Rattle.packet_pcr.specs.declared.pcr_reading.FoundPcr.{FoundPcr}

-- 1. Which PIDs have such packets without stamps

-- a PES packet of private_stream_1, by whether it has a PTS
unfoldable pub data_pts : WhatView → Option Bool
data_pts (IsPes header unended body) = if header.id == 0xBD then Some (is_stamped header.stamps) else None
data_pts what = None

-- for each PID with such packets, whether one of its packets has a PTS
abbrev pub SeenStamps : Type 0
SeenStamps = List (ℕ × Bool)

abbrev pub with_seen : SeenStamps → ℕ → Bool → SeenStamps
with_seen seen pid stamped = insert_entry nat_eq seen pid (stamped || unwrap_or (lookup (nat_eq pid) seen) false)

unfoldable pub seen_by : SeenStamps → Option ℕ → Option Bool → SeenStamps
seen_by seen (Some pid) (Some stamped) = with_seen seen pid stamped
seen_by seen pid pts = seen

unfoldable pub seen_after : SeenStamps → List FindingView → SeenStamps
seen_after seen [] = seen
seen_after seen (f ∷ fs) = seen_after (seen_by seen f.pid (data_pts f.what)) fs

abbrev pub seen_in : List FindingView → SeenStamps
seen_in findings = seen_after [] findings

-- a PID has such packets, and none has a PTS
unfoldable pub is_unstamped : SeenStamps → ℕ → Bool
is_unstamped seen pid = not (unwrap_or (lookup (nat_eq pid) seen) true)

-- 2. What clocks show

-- the last base of each PID, in order of their first references
abbrev pub Clocks : Type 0
Clocks = List (ℕ × ℕ)

abbrev pub with_shown : Clocks → FoundPcr → Clocks
with_shown clocks r = insert_entry nat_eq clocks r.pid r.base

-- before the first reference of a clock it shows that one
unfoldable pub shown_if : Option ℕ → Clocks → FoundPcr → Clocks
shown_if None clocks r = with_shown clocks r
shown_if (Some base) clocks r = clocks

unfoldable pub first_shown : Clocks → List FoundPcr → Clocks
first_shown clocks [] = clocks
first_shown clocks (r ∷ rs) = first_shown (shown_if (lookup (nat_eq r.pid) clocks) clocks r) rs

-- the values of the clocks, and the references of later packets
pub record LineView : Type 0 where
  pub clocks : Clocks
  pub later : List FoundPcr

-- the clocks when a packet comes
unfoldable pub passed_by : ℕ → Clocks → List FoundPcr → LineView
passed_by packet clocks [] = record { clocks = clocks; later = [] }
passed_by packet clocks (r ∷ rs) = if nat_le r.packet packet then passed_by packet (with_shown clocks r) rs else record { clocks = clocks; later = r ∷ rs }

abbrev pub passed : ℕ → LineView → LineView
passed packet line = passed_by packet line.clocks line.later

-- the PID of the references of a program's clock
unfoldable pub pcr_if : Option FoundProgramView → Option ℕ
pcr_if None = None
pcr_if (Some p) = Some p.pcr_pid

-- the clock of a stream's program, if the stream has a teletext_descriptor (EN 300 468, table 12)
unfoldable pub clock_of : FoundProgramsView → FoundStreamView → Option ℕ
clock_of found s = if has_tag 0x56 s.descriptors then pcr_if (find (λ p. p.number == s.program) found.programs) else None

unfoldable pub clock_if : FoundProgramsView → Option FoundStreamView → Option ℕ
clock_if found None = None
clock_if found (Some s) = clock_of found s

-- the clock of the stream on a PID
unfoldable pub clock_on : FoundProgramsView → ℕ → Option ℕ
clock_on found pid = clock_if found (find (λ s. s.pid == pid) found.streams)

-- 3. The state that decides: the programs, the stamps seen, and the first values of the clocks

pub record TimesView : Type 0 where
  pub programs : FoundProgramsView
  pub seen : SeenStamps
  pub first : Clocks

unfoldable pub programs_by : Option AssociationView → List FindingView → FoundProgramsView
programs_by None findings = programs_of [] findings
programs_by (Some a) findings = programs_of a.programs findings

abbrev pub times_of : List FoundPcr → List FindingView → TimesView
times_of references findings = record {
  programs = programs_by (association findings) findings;
  seen = seen_in findings;
  first = first_shown [] references;
}

-- the value of the clock of a PID, if the PID has teletext without stamps
unfoldable pub moment_of : TimesView → Clocks → ℕ → Option ℕ
moment_of t clocks pid = if is_unstamped t.seen pid then option_and_then (λ clock. lookup (nat_eq clock) clocks) (clock_on t.programs pid) else None

-- the PID has moments: its clock has references
abbrev pub is_timed : TimesView → ℕ → Bool
is_timed t pid = is_some (moment_of t t.first pid)

-- 4. A finding

-- the moment of a PID's finding
unfoldable pub moment_on : TimesView → Clocks → Option ℕ → Option ℕ
moment_on t clocks None = None
moment_on t clocks (Some pid) = moment_of t clocks pid

-- a header with this PTS
abbrev pub with_pts : ℕ → PesHeader → PesHeader
with_pts moment header = record {
  id = header.id;
  len = header.len;
  stamps = Pts moment;
  flags = header.flags;
  data_length = header.data_length;
  private_data = header.private_data;
}

unfoldable pub timed_what : ℕ → WhatView → WhatView
timed_what moment (IsPes header unended body) = if header.id == 0xBD then IsPes (with_pts moment header) unended body else IsPes header unended body
timed_what moment what = what

-- a PES packet that begins, whole or cut, does not continue a unit before it
unfoldable pub as_first : Option (ℕ × Kind) → Option (ℕ × Kind)
as_first None = None
as_first (Some (packet, Table table_id)) = Some (packet, Table table_id)
as_first (Some (packet, Pes stamped access)) = Some (packet, Pes true access)

unfoldable pub timed_finding : Option ℕ → FindingView → FindingView
timed_finding None f = f
timed_finding (Some moment) f = record { packet = f.packet; pid = f.pid; begun = as_first f.begun; what = timed_what moment f.what }

-- 5. All findings

unfoldable pub timed_from : TimesView → LineView → List FindingView → List FindingView
timed_from t line [] = []
timed_from t line (f ∷ fs) = timed_finding (moment_on t (passed f.packet line).clocks f.pid) f ∷ timed_from t (passed f.packet line) fs

abbrev pub timed_by : TimesView → List FoundPcr → List FindingView → List FindingView
timed_by t references findings = timed_from t (record { clocks = first_shown [] references; later = references }) findings

-- the findings of a stream with these references
abbrev pub timed : List FoundPcr → List FindingView → List FindingView
timed references findings = timed_by (times_of references findings) references findings
