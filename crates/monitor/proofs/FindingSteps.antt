-- The monitor's state after each finding, and after all findings.
use Rattle.std.proofs.Common.{◌≡◌, ℕ, ◌==◌, Bool, true, false, cond, List, [], ◌∷◌, ◌++◌, Option, Some, None, refl, sym, ap, ◌∙◌, append_assoc}
use Rattle.std.proofs.lemmas.List.{append-nil}
use Rattle.psi_tables.specs.declared.error.SectionError.TheVariants as section_errors
use Rattle.pid_findings.specs.declared.finding.Kind.{Kind}
use Rattle.pid_findings.specs.declared.finding.Kind.TheVariants.{Table, Pes}
use Rattle.pid_findings.specs.Views.{WhatView, IsDuplicate, BreaksCounter, IsScrambled, IsTruncated, IsSection, IsBadSection, IsPes, IsBadPes, IsBadPacket}
use Rattle.pid_findings.specs.Views.{IsErrored}
use Rattle.pid_findings.specs.Views.{IsStray}
use Rattle.pid_findings.specs.Views.{FindingView}
use Rattle.monitor.specs.declared.fault.StreamFault.{StreamFault}
use Rattle.monitor.specs.declared.counts.FindingCounts.{FindingCounts}
use Rattle.monitor.specs.Counts.{duplicate_counted, scrambled_counted}
use Rattle.monitor.specs.Recurrences.{RecurrenceState, marked}
use Rattle.monitor.specs.TableStates.{TableState, watched}
use Rattle.monitor.specs.ProgramMaps.{ProgramMapState, map_begins, named_by}
use Rattle.monitor.specs.FindingStates.{FindingState, all_noted, noted_from, begun_by, begun_noted, what_noted}
use Rattle.monitor.specs.Rules.{finding_rule, failing}

-- 1. The change by one finding in each part of the state

unfoldable pub faults_on : ℕ → Option ℕ → WhatView → List StreamFault
faults_on packet None what = []
faults_on packet (Some pid) what = failing (Some pid) packet (finding_rule what)

unfoldable pub counts_on : List (ℕ × FindingCounts) → Option ℕ → WhatView → List (ℕ × FindingCounts)
counts_on finding_counts None what = finding_counts
counts_on finding_counts (Some pid) IsDuplicate = duplicate_counted pid finding_counts
counts_on finding_counts (Some pid) IsScrambled = scrambled_counted pid finding_counts
counts_on finding_counts (Some pid) what = finding_counts

unfoldable pub table_begun : TableState → ℕ → Option (ℕ × Kind) → TableState
table_begun s pid None = s
table_begun s pid (Some (packet, Table table_id)) = watched s pid table_id packet
table_begun s pid (Some (packet, Pes stamped access)) = s

unfoldable pub table_on : TableState → Option ℕ → Option (ℕ × Kind) → TableState
table_on s None begun = s
table_on s (Some pid) begun = table_begun s pid begun

unfoldable pub pts_begun : RecurrenceState → ℕ → Option (ℕ × Kind) → RecurrenceState
pts_begun s pid None = s
pts_begun s pid (Some (packet, Table table_id)) = s
pts_begun s pid (Some (packet, Pes true access)) = marked s pid packet
pts_begun s pid (Some (packet, Pes false access)) = s

unfoldable pub pts_on : RecurrenceState → Option ℕ → Option (ℕ × Kind) → RecurrenceState
pts_on s None begun = s
pts_on s (Some pid) begun = pts_begun s pid begun

unfoldable pub map_begun : ProgramMapState → ℕ → ℕ → Option (ℕ × Kind) → ProgramMapState
map_begun s pid found None = s
map_begun s pid found (Some (packet, Table table_id)) = cond (table_id == 0x02) (map_begins s pid found packet) s
map_begun s pid found (Some (packet, Pes stamped access)) = s

unfoldable pub map_named : ProgramMapState → ℕ → ℕ → WhatView → ProgramMapState
map_named s pid packet (IsSection bytes) = cond (pid == 0) (named_by s bytes packet) s
map_named s pid packet what = s

unfoldable pub map_on : ProgramMapState → ℕ → Option ℕ → Option (ℕ × Kind) → WhatView → ProgramMapState
map_on s packet None begun what = s
map_on s packet (Some pid) begun what = map_named (map_begun s pid packet begun) pid packet what

abbrev noticed : FindingState → FindingView → FindingState
noticed s f = record {
  faults = s.faults ++ faults_on f.packet f.pid f.what;
  finding_counts = counts_on s.finding_counts f.pid f.what;
  pat = table_on s.pat f.pid f.begun;
  pmt = map_on s.pmt f.packet f.pid f.begun f.what;
  nit = table_on s.nit f.pid f.begun;
  sdt = table_on s.sdt f.pid f.begun;
  eit = table_on s.eit f.pid f.begun;
  tdt = table_on s.tdt f.pid f.begun;
  pts = pts_on s.pts f.pid f.begun;
}

begun_is : (s : FindingState) (pid found : ℕ) (begun : Option (ℕ × Kind)) → begun_by s pid found begun ≡ record s {
  pat = table_begun s.pat pid begun;
  pmt = map_begun s.pmt pid found begun;
  nit = table_begun s.nit pid begun;
  sdt = table_begun s.sdt pid begun;
  eit = table_begun s.eit pid begun;
  tdt = table_begun s.tdt pid begun;
  pts = pts_begun s.pts pid begun;
}
unfolding begun_by begun_noted table_begun map_begun pts_begun
begun_is s pid found None = refl
begun_is s pid found (Some (packet, Table table_id)) = refl
begun_is s pid found (Some (packet, Pes true access)) = refl
begun_is s pid found (Some (packet, Pes false access)) = refl

nothing_more : (s : FindingState) → s ≡ record s { faults = s.faults ++ [] }
nothing_more s = ap (λ (xs : List StreamFault). record s { faults = xs }) (sym (append-nil s.faults))

section_is : (s : FindingState) (pid packet : ℕ) (bytes : List ℕ) (t : Bool) →
    cond t (record s { pmt = named_by s.pmt bytes packet }) s ≡ record s { faults = s.faults ++ []; pmt = cond t (named_by s.pmt bytes packet) s.pmt }
section_is s pid packet bytes true = nothing_more (record s { pmt = named_by s.pmt bytes packet })
section_is s pid packet bytes false = nothing_more s

what_is : (s : FindingState) (pid packet : ℕ) (what : WhatView) → what_noted s pid packet what ≡ record s {
  faults = s.faults ++ failing (Some pid) packet (finding_rule what);
  finding_counts = counts_on s.finding_counts (Some pid) what;
  pmt = map_named s.pmt pid packet what;
}
unfolding what_noted counts_on map_named finding_rule failing
what_is s pid packet IsDuplicate = nothing_more (record s { finding_counts = duplicate_counted pid s.finding_counts })
what_is s pid packet (BreaksCounter expected found) = refl
what_is s pid packet IsScrambled = nothing_more (record s { finding_counts = scrambled_counted pid s.finding_counts })
what_is s pid packet (IsTruncated bytes) = nothing_more s
what_is s pid packet (IsSection bytes) = section_is s pid packet bytes (pid == 0)
what_is s pid packet (IsBadSection section_errors.CheckWord) = refl
what_is s pid packet (IsBadSection section_errors.Short) = refl
what_is s pid packet (IsBadSection section_errors.Length) = refl
what_is s pid packet (IsBadSection section_errors.Syntax) = refl
what_is s pid packet (IsBadSection section_errors.Body) = refl
what_is s pid packet (IsBadSection section_errors.TooLong) = refl
what_is s pid packet (IsPes header unended body) = nothing_more s
what_is s pid packet (IsBadPes error) = nothing_more s
what_is s pid packet (IsBadPacket error) = nothing_more s
what_is s pid packet IsErrored = nothing_more s
what_is s pid packet (IsStray size) = nothing_more s

finding_is : (s : FindingState) (packet : ℕ) (pid : Option ℕ) (begun : Option (ℕ × Kind)) (what : WhatView) →
    noted_from s packet pid begun what ≡ noticed s (record { packet = packet; pid = pid; begun = begun; what = what })
unfolding noted_from faults_on counts_on table_on map_on pts_on
finding_is s packet None begun what = nothing_more s
finding_is s packet (Some pid) begun what =
    ap (λ (t : FindingState). what_noted t pid packet what) (begun_is s pid packet begun)
    ∙ what_is _ pid packet what

-- 2. The change by all findings

unfoldable pub faults_of_all : List FindingView → List StreamFault
faults_of_all [] = []
faults_of_all (f ∷ found) = faults_on f.packet f.pid f.what ++ faults_of_all found

unfoldable pub counts_of_found : List (ℕ × FindingCounts) → List FindingView → List (ℕ × FindingCounts)
counts_of_found finding_counts [] = finding_counts
counts_of_found finding_counts (f ∷ found) = counts_of_found (counts_on finding_counts f.pid f.what) found

unfoldable pub table_of_all : TableState → List FindingView → TableState
table_of_all s [] = s
table_of_all s (f ∷ found) = table_of_all (table_on s f.pid f.begun) found

unfoldable pub pts_of_all : RecurrenceState → List FindingView → RecurrenceState
pts_of_all s [] = s
pts_of_all s (f ∷ found) = pts_of_all (pts_on s f.pid f.begun) found

unfoldable pub maps_of_all : ProgramMapState → List FindingView → ProgramMapState
maps_of_all s [] = s
maps_of_all s (f ∷ found) = maps_of_all (map_on s f.packet f.pid f.begun f.what) found

pub all_is : (s : FindingState) (found : List FindingView) → all_noted s found ≡ record {
  faults = s.faults ++ faults_of_all found;
  finding_counts = counts_of_found s.finding_counts found;
  pat = table_of_all s.pat found;
  pmt = maps_of_all s.pmt found;
  nit = table_of_all s.nit found;
  sdt = table_of_all s.sdt found;
  eit = table_of_all s.eit found;
  tdt = table_of_all s.tdt found;
  pts = pts_of_all s.pts found;
}
unfolding all_noted faults_of_all counts_of_found table_of_all pts_of_all maps_of_all
all_is s [] = nothing_more s
all_is s (f ∷ found) =
    ap (λ (t : FindingState). all_noted t found) (finding_is s f.packet f.pid f.begun f.what)
    ∙ all_is (noticed s f) found
    ∙ ap (λ (xs : List StreamFault). record {
      faults = xs;
      finding_counts = counts_of_found (counts_on s.finding_counts f.pid f.what) found;
      pat = table_of_all (table_on s.pat f.pid f.begun) found;
      pmt = maps_of_all (map_on s.pmt f.packet f.pid f.begun f.what) found;
      nit = table_of_all (table_on s.nit f.pid f.begun) found;
      sdt = table_of_all (table_on s.sdt f.pid f.begun) found;
      eit = table_of_all (table_on s.eit f.pid f.begun) found;
      tdt = table_of_all (table_on s.tdt f.pid f.begun) found;
      pts = pts_of_all (pts_on s.pts f.pid f.begun) found;
    }) (append_assoc s.faults (faults_on f.packet f.pid f.what) (faults_of_all found))
