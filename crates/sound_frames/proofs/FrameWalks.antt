-- The steps of a walk over the frames of a unit.
use Rattle.std.proofs.Common.{◌≡◌, ℕ, zero, suc, ◌+◌, ◌-◌, ◌<◌, ◌==◌, true, false, List, length, Some, None, refl, arith}
use Rattle.sound_frames.specs.declared.frame.FrameHeader.{FrameHeader}
use Rattle.sound_frames.specs.declared.frame_headers.FrameKind.{FrameKind}
use Rattle.sound_frames.specs.declared.frames.UnitFrames.{UnitFrames}
use Rattle.sound_frames.specs.Frames.{next_frame, walked, with_frame}

pub walk_on : (kind : FrameKind) (n : ℕ) (c : UnitFrames) (left : List ℕ) (h : FrameHeader) (rest : List ℕ) → 0 < n → (length left == 0) ≡ false →
    next_frame kind left ≡ Some (h, rest) → walked kind n c left ≡ walked kind (n - 1) (with_frame c h) rest
unfolding walked
walk_on kind zero c left h rest some more is = absurd (omega arith)
walk_on kind (suc n) c left h rest some more is = let e : suc n - 1 ≡ n = omega arith in rw (e, more, is) refl

pub walk_stops : (kind : FrameKind) (n : ℕ) (c : UnitFrames) (left : List ℕ) → 0 < n → (length left == 0) ≡ false →
    next_frame kind left ≡ None → walked kind n c left ≡ None
unfolding walked
walk_stops kind zero c left some more is = absurd (omega arith)
walk_stops kind (suc n) c left some more is = rw (more, is) refl

pub walk_ends : (kind : FrameKind) (n : ℕ) (c : UnitFrames) (left : List ℕ) → (length left == 0) ≡ true → walked kind n c left ≡ Some c
unfolding walked
walk_ends kind zero c left none = rw none refl
walk_ends kind (suc n) c left none = rw none refl

pub walk_stuck : (kind : FrameKind) (n : ℕ) (c : UnitFrames) (left : List ℕ) → n ≡ 0 → (length left == 0) ≡ false → walked kind n c left ≡ None
unfolding walked
walk_stuck kind zero c left no_more more = rw more refl
walk_stuck kind (suc n) c left no_more more = absurd (omega (arith, no_more))

pub counted : (c : UnitFrames) (h : FrameHeader) → (with_frame c h).count ≡ c.count + 1
unfolding with_frame
counted c h = refl
