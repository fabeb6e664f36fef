-- Findings, one after another.
use Rattle.std.specs.Prelude.{ℕ, ◌*◌, ◌==◌, true, false, if◌then◌else◌, List, [], ◌∷◌, ◌++◌, Option, Some, None}
use Rattle.psi_tables.specs.declared.error.SectionError.TheVariants as section_errors
use Rattle.pid_findings.specs.declared.finding.Kind.{Kind}
use Rattle.pid_findings.specs.declared.finding.Kind.TheVariants.{Table, Pes}
use Rattle.pid_findings.specs.Views.{WhatView, IsDuplicate, BreaksCounter, IsScrambled, IsSection, IsBadSection, FindingView}
use Rattle.monitor.specs.declared.fault.StreamFault.{StreamFault}
use Rattle.monitor.specs.declared.fault.Rule.{Rule}
use Rattle.monitor.specs.declared.fault.Rule.TheVariants as rules
use Rattle.monitor.specs.declared.counts.FindingCounts.{FindingCounts}
use Rattle.monitor.specs.Counts.{duplicate_counted, scrambled_counted}
use Rattle.monitor.specs.Recurrences.{RecurrenceState, marked, no_marks}
use Rattle.monitor.specs.TableStates.{TableState, new_watch, table_marked, watched}
use Rattle.monitor.specs.ProgramMaps.{ProgramMapState, map_begins, named_by, no_maps}

pub record FindingState : Type 0 where
  pub faults : List StreamFault
  pub finding_counts : List (ℕ × FindingCounts)
  pub pat : TableState
  pub pmt : ProgramMapState
  pub nit : TableState
  pub sdt : TableState
  pub eit : TableState
  pub tdt : TableState
  pub pts : RecurrenceState

abbrev pub none_noted : ℕ → FindingState
none_noted rate = record {
  faults = [];
  finding_counts = [];
  pat = table_marked (new_watch 0x00 0x00 (500 * rate)) 0;
  pmt = no_maps (500 * rate);
  nit = new_watch 0x10 0x40 (10000 * rate);
  sdt = new_watch 0x11 0x42 (2000 * rate);
  eit = new_watch 0x12 0x4E (2000 * rate);
  tdt = new_watch 0x14 0x70 (30000 * rate);
  pts = no_marks (700 * rate);
}

abbrev pub section_noted : FindingState → ℕ → ℕ → ℕ → ℕ → FindingState
section_noted s pid found packet table_id = record s {
  pat = watched s.pat pid table_id packet;
  nit = watched s.nit pid table_id packet;
  sdt = watched s.sdt pid table_id packet;
  eit = watched s.eit pid table_id packet;
  tdt = watched s.tdt pid table_id packet;
  pmt = if table_id == 0x02 then map_begins s.pmt pid found packet else s.pmt;
}

unfoldable pub begun_noted : FindingState → ℕ → ℕ → ℕ → Kind → FindingState
begun_noted s pid found packet (Table table_id) = section_noted s pid found packet table_id
begun_noted s pid found packet (Pes true access) = record s { pts = marked s.pts pid packet }
begun_noted s pid found packet (Pes false access) = s

abbrev pub failed : FindingState → ℕ → Rule → ℕ → FindingState
failed s packet rule pid = record s { faults = s.faults ++ (record { packet = packet; rule = rule; pid = Some pid }) ∷ [] }

unfoldable pub what_noted : FindingState → ℕ → ℕ → WhatView → FindingState
what_noted s pid packet IsDuplicate = record s { finding_counts = duplicate_counted pid s.finding_counts }
what_noted s pid packet (BreaksCounter expected found) = failed s packet rules.Counter pid
what_noted s pid packet IsScrambled = record s { finding_counts = scrambled_counted pid s.finding_counts }
what_noted s pid packet (IsSection bytes) = if pid == 0 then record s { pmt = named_by s.pmt bytes packet } else s
what_noted s pid packet (IsBadSection section_errors.CheckWord) = failed s packet rules.Crc pid
what_noted s pid packet (IsBadSection error) = failed s packet rules.Section pid
what_noted s pid packet what = s

unfoldable pub begun_by : FindingState → ℕ → ℕ → Option (ℕ × Kind) → FindingState
begun_by s pid found None = s
begun_by s pid found (Some b) = begun_noted s pid found b.0 b.1

unfoldable pub noted_from : FindingState → ℕ → Option ℕ → Option (ℕ × Kind) → WhatView → FindingState
noted_from s packet None begun what = s
noted_from s packet (Some pid) begun what = what_noted (begun_by s pid packet begun) pid packet what

abbrev pub finding_noted : FindingState → FindingView → FindingState
finding_noted s f = noted_from s f.packet f.pid f.begun f.what

unfoldable pub all_noted : FindingState → List FindingView → FindingState
all_noted s [] = s
all_noted s (f ∷ found) = all_noted (finding_noted s f) found
