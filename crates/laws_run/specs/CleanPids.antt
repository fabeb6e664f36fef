-- That nothing is wrong with the packets of a run, whatever its sections begin with.
use Rattle.std.specs.Prelude.{◌≡◌, ℕ, ◌==◌, Bool, true, false, IsTrue, List, length, All, Ok}
use Rattle.std.specs.List.{flat_map}
use Rattle.pes_packet.specs.AccessUnits.{AccessUnit}
use Rattle.pes_packet.specs.StreamIds.{fits_packet}
use Rattle.psi_tables.specs.Views.{SectionView}
use Rattle.psi_tables.specs.Reading.{section_at}
use Rattle.slot_contents.specs.Contents.{Content, run_bytes}
use Rattle.pid_findings.specs.Views.{WhatView, IsDuplicate, BreaksCounter, IsScrambled, IsTruncated, IsSection, IsBadSection, IsPes, IsBadPes, IsBadPacket}
use Rattle.pid_findings.specs.Views.{IsErrored}
use Rattle.pid_findings.specs.Views.{IsStray}
use Rattle.pid_findings.specs.Views.{FindingView}
use Rattle.laws_run.specs.Units.{unit_pieces}
use Rattle.laws_run.specs.Sections.{section_pieces}
use Rattle.laws_run.specs.PidLaws.{IsRun, CarriesPieces, all_found, found_on}

-- a packet that is damaged, flagged in error, scrambled or repeated, a counter that does not follow, or a section that is refused
abbrev pub is_fault : WhatView → Bool
is_fault IsDuplicate = true
is_fault (BreaksCounter expected found) = true
is_fault IsScrambled = true
is_fault (IsTruncated bytes) = false
is_fault (IsSection bytes) = false
is_fault (IsBadSection error) = true
is_fault (IsPes header open_ended body) = false
is_fault (IsBadPes error) = false
is_fault (IsBadPacket error) = true
is_fault IsErrored = true
is_fault (IsStray size) = false

abbrev pub IsClean : FindingView → Type 0
IsClean f = is_fault f.what ≡ false

-- these bytes are one whole section
pub record IsWhole (bytes : List ℕ) : Type 0 where
  pub view : SectionView
  pub read : section_at bytes ≡ Ok (view, length bytes)

-- no fault is found on a PID that carries units
abbrev pub UnitsAreClean : Type 0
UnitsAreClean = (pid n id base0 : ℕ) (content : ℕ → Content) (us : List AccessUnit) → IsRun n content → (pid == 8191) ≡ false →
    CarriesPieces pid (run_bytes content 0 n) (flat_map (unit_pieces id base0) us) → All (λ u. IsTrue (fits_packet id (length u.bytes))) us →
    All IsClean (found_on pid (run_bytes content 0 n))

-- nor on a PID that carries sections, even if a section begins 00 01 or has table_id 0xFF
abbrev pub SectionsAreClean : Type 0
SectionsAreClean = (pid n : ℕ) (content : ℕ → Content) (sections : List (List ℕ)) → IsRun n content → (pid == 8191) ≡ false →
    CarriesPieces pid (run_bytes content 0 n) (flat_map section_pieces sections) → All IsWhole sections → All IsClean (found_on pid (run_bytes content 0 n))

-- a property of the findings of each PID is a property of all findings
abbrev pub ByPids : Type 0
ByPids = (n : ℕ) (content : ℕ → Content) (test : FindingView → Bool) → IsRun n content →
    ((pid : ℕ) → (pid == 8191) ≡ false → All (λ f. test f ≡ true) (found_on pid (run_bytes content 0 n))) →
    All (λ f. test f ≡ true) (all_found (run_bytes content 0 n))
