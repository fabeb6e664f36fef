-- The parts of moved findings that stay the same
use Rattle.std.proofs.Common.{◌≡◌, ◌∙◌, ℕ, Option, Some, None, List, [], ◌∷◌, map, refl, ap, ap₂}
use Rattle.pid_findings.specs.Views.{FindingView, WhatView, IsDuplicate, BreaksCounter, IsScrambled, IsTruncated, IsSection, IsBadSection, IsPes, IsBadPes}
use Rattle.pid_findings.specs.Views.{IsBadPacket, IsErrored, IsStray}
use Rattle.program_tables.specs.Association.{association}
use Rattle.stream_programs.specs.Programs.{FoundProgramsView}
use Rattle.stamp_repair.specs.DataTimes.{programs_by}
use Rattle.packet_pcr.specs.declared.pcr_reading.FoundPcr.{FoundPcr}
use Rattle.joined_parts.specs.Cuts.{cuts_in}
use Rattle.joined_parts.specs.Holes.{jumps_of}
use Rattle.joined_parts.specs.Joined.{JoinsView, all_moved, joins_for, moved, moved_by, moved_reference, moved_what, reference_by, shift_with}
use Rattle.joined_parts.specs.Joins.{joins_after, joins_of}
use Rattle.joined_parts.specs.Laws.{NothingElseMoves, WholeRecordingStays, unstamped, unstamped_what}
use Rattle.joined_parts.specs.UnitStamps.{stamp_of, stamps_in}
use Rattle.joined_parts.specs.declared.cuts.Cut.{Cut}
use Rattle.joined_parts.specs.declared.joins.Join.{Join}
use Rattle.joined_parts.specs.declared.stamps.UnitStamp.{UnitStamp}

-- 1. Only stamps change

same_what : (shift : ℕ) (what : WhatView) → unstamped_what (moved_what shift what) ≡ unstamped_what what
unfolding unstamped_what moved_what
same_what shift IsDuplicate = refl
same_what shift (BreaksCounter expected found) = refl
same_what shift IsScrambled = refl
same_what shift (IsTruncated bytes) = refl
same_what shift (IsSection bytes) = refl
same_what shift (IsBadSection error) = refl
same_what shift (IsPes header unended body) = refl
same_what shift (IsBadPes error) = refl
same_what shift (IsBadPacket error) = refl
same_what shift IsErrored = refl
same_what shift (IsStray size) = refl

same_finding : (shift : Option ℕ) (f : FindingView) → unstamped (moved_by shift f) ≡ unstamped f
unfolding moved_by
same_finding None f = refl
same_finding (Some shift) f =
    ap (λ (what : WhatView). record { packet = f.packet; pid = f.pid; begun = f.begun; what = what }) (same_what shift f.what)

all_same : (j : JoinsView) (fs : List FindingView) → map unstamped (all_moved j fs) ≡ map unstamped fs
all_same j [] = refl
all_same j (f ∷ fs) =
    ap₂ (λ (g : FindingView) (gs : List FindingView). g ∷ gs) (same_finding (shift_with j.joins (stamp_of j.programs f)) f) (all_same j fs)

pub nothing_else : NothingElseMoves
nothing_else references findings = all_same (joins_for references findings) findings

-- 2. Findings without a cut

no_join : (stamps : List UnitStamp) (cuts : List Cut) → cuts ≡ [] → joins_of stamps cuts ≡ []
unfolding joins_after
no_join stamps cuts none = rw none refl

no_shift : (stamp : Option UnitStamp) → shift_with [] stamp ≡ None
unfolding shift_with
no_shift None = refl
no_shift (Some s) = refl

abbrev without : FoundProgramsView → JoinsView
without programs = record { programs = programs; joins = [] }

stays : (programs : FoundProgramsView) (f : FindingView) → moved (without programs) f ≡ f
unfolding moved_by
stays programs f = rw (no_shift (stamp_of programs f)) refl

all_stay : (programs : FoundProgramsView) (fs : List FindingView) → all_moved (without programs) fs ≡ fs
all_stay programs [] = refl
all_stay programs (f ∷ fs) = ap₂ (λ (g : FindingView) (gs : List FindingView). g ∷ gs) (stays programs f) (all_stay programs fs)

reference_stays : (programs : FoundProgramsView) (r : FoundPcr) → moved_reference (without programs) r ≡ r
unfolding reference_by
reference_stays programs r = refl

references_stay : (programs : FoundProgramsView) (rs : List FoundPcr) → map (moved_reference (without programs)) rs ≡ rs
references_stay programs [] = refl
references_stay programs (r ∷ rs) =
    ap₂ (λ (g : FoundPcr) (gs : List FoundPcr). g ∷ gs) (reference_stays programs r) (references_stay programs rs)

pub whole_stays : WholeRecordingStays
whole_stays references findings none =
    let programs : FoundProgramsView = programs_by (association findings) findings in
    let are : joins_for references findings ≡ without programs =
    ap (λ (js : List Join). record { programs = programs; joins = js })
    (no_join (stamps_in programs findings) (jumps_of (stamps_in programs findings) (cuts_in references)) (ap (jumps_of (stamps_in programs findings)) none)) in (
      ap (λ (j : JoinsView). all_moved j findings) are ∙ all_stay programs findings,
      ap (λ (j : JoinsView). map (moved_reference j) references) are ∙ references_stay programs references,
    )
