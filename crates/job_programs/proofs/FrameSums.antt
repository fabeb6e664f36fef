-- The frames of units, unit after unit.
use Rattle.std.proofs.Common.{◌≡◌, ◌∙◌, ap, ℕ, List, [], ◌∷◌, length, map, Option, Some, None, refl}
use Rattle.pes_packet.specs.AccessUnits.{AccessUnit}
use Rattle.sound_frames.specs.declared.frame_headers.FrameKind.{FrameKind}
use Rattle.sound_frames.specs.declared.frames.UnitFrames.{UnitFrames}
use Rattle.sound_frames.specs.Frames.{all_frames, joined_frames, unit_frames}

abbrev pub all_bytes : List AccessUnit → List (List ℕ)
all_bytes = map (λ u. u.bytes)

-- The frames of one unit, then of later units.
abbrev with_later : FrameKind → UnitFrames → List (List ℕ) → Option UnitFrames → Option UnitFrames
with_later kind c later first = elim first [ None ↦ None | Some d ↦ all_frames kind (joined_frames c d) later ]

frames_first : (kind : FrameKind) (c : UnitFrames) (unit : List ℕ) (later : List (List ℕ)) →
    all_frames kind c (unit ∷ later) ≡ with_later kind c later (unit_frames kind unit)
unfolding all_frames
frames_first kind c unit later = refl

pub frames_more : (kind : FrameKind) (c d : UnitFrames) (units later : List AccessUnit) (u : AccessUnit) → units ≡ u ∷ later →
    unit_frames kind u.bytes ≡ Some d →
    all_frames kind c (all_bytes units) ≡ all_frames kind (joined_frames c d) (all_bytes later)
frames_more kind c d units later u are is = ap (λ (l : List AccessUnit). all_frames kind c (all_bytes l)) are
    ∙ frames_first kind c u.bytes (all_bytes later) ∙ ap (with_later kind c (all_bytes later)) is

pub frames_stop : (kind : FrameKind) (c : UnitFrames) (units later : List AccessUnit) (u : AccessUnit) → units ≡ u ∷ later → unit_frames kind u.bytes ≡ None →
    all_frames kind c (all_bytes units) ≡ None
frames_stop kind c units later u are is = ap (λ (l : List AccessUnit). all_frames kind c (all_bytes l)) are
    ∙ frames_first kind c u.bytes (all_bytes later) ∙ ap (with_later kind c (all_bytes later)) is

pub frames_end : (kind : FrameKind) (c : UnitFrames) (units : List AccessUnit) → length units ≡ 0 → all_frames kind c (all_bytes units) ≡ Some c
unfolding all_frames
frames_end kind c [] none = refl
frames_end kind c (u ∷ units) none = absurd cc
