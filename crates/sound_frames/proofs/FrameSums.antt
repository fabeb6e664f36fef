-- The sums of a unit's frames are the bytes of its last frames.
use Rattle.std.proofs.Common.{◌≡◌, ◌∙◌, ℕ, zero, suc, ◌+◌, ◌-◌, ◌^◌, ◌<◌, ◌≤◌, ◌==◌, min, max, Bool, true, false, if◌then◌else◌, Option, Some, None}
use Rattle.std.proofs.Common.{option_map, List, [], ◌∷◌, ◌++◌, length, drop, map, replicate, get_or, refl, sym, ap, subst, append_assoc, append-nil, arith}
use Rattle.std.specs.Prelude.{slice_index}
use Rattle.std.specs.List.{range_with_len, sum}
use Rattle.std.proofs.lemmas.Bool.Decides.{nat_tests}
use Rattle.std.proofs.lemmas.List.{length-append, drop_all, drop-append-le, get_or-replicate}
use Rattle.std.proofs.lemmas.List.FromFn.{get_or-map-range_with_len}
use Rattle.std.proofs.lemmas.List.Sums.{sum_by_push}
use Rattle.sound_frames.specs.declared.frame.FrameHeader.{FrameHeader}
use Rattle.sound_frames.specs.declared.frame_headers.FrameKind.{FrameKind}
use Rattle.sound_frames.specs.declared.frames.UnitFrames.{UnitFrames}
use Rattle.sound_frames.specs.Frames.{left_after, next_frame, no_frames, sum_of, sum_with, walked, with_frame}
use Rattle.sound_frames.specs.FrameSizes.{AreCounts, SumsLaw, last_bytes, sizes_from}
use Rattle.sound_frames.proofs.FrameWalks.{walk_on, walk_stops, walk_ends, walk_stuck}

-- The last frames of a unit with one more frame
last_more : (sizes : List ℕ) (x j : ℕ) → 0 < length sizes → 0 < j →
    sum (drop (max 1 (length (sizes ++ x ∷ []) - j)) (sizes ++ x ∷ [])) ≡ sum (drop (max 1 (length sizes - (j - 1))) sizes) + x
last_more sizes x j some pos =
    let long : length (sizes ++ x ∷ []) ≡ length sizes + 1 = length-append sizes (x ∷ []) ∙ omega arith in
    let place : max 1 (length (sizes ++ x ∷ []) - j) ≡ max 1 (length sizes - (j - 1)) = omega (arith, long, some, pos) in
    let within : max 1 (length sizes - (j - 1)) ≤ length sizes = omega (arith, some) in
    ap (λ (n : ℕ). sum (drop n (sizes ++ x ∷ []))) place
    ∙ ap sum (drop-append-le (max 1 (length sizes - (j - 1))) sizes (x ∷ []) within)
    ∙ sum_by_push (λ (n : ℕ). n) (drop (max 1 (length sizes - (j - 1))) sizes) x

none_last : (sizes : List ℕ) → sum (drop (max 1 (length sizes - 0)) sizes) ≡ 0
none_last sizes = ap sum (drop_all (max 1 (length sizes - 0)) sizes (omega arith))

none_alone : (j : ℕ) → last_bytes [] j ≡ 0
none_alone j = ap (λ (l : List ℕ). min (sum l) (2 ^ 32 - 1)) (drop_all (max 1 (0 - j)) [] (omega arith))

-- One more sum
next_sum : (sizes : List ℕ) (x i before : ℕ) → 0 < length sizes → before ≡ last_bytes sizes i →
    min (before + x) (2 ^ 32 - 1) ≡ last_bytes (sizes ++ x ∷ []) (i + 1)
next_sum sizes x i before some is =
    let e : i + 1 - 1 ≡ i = omega arith in
    let more : sum (drop (max 1 (length (sizes ++ x ∷ []) - (i + 1))) (sizes ++ x ∷ [])) ≡ sum (drop (max 1 (length sizes - i)) sizes) + x =
    subst (λ (k : ℕ). sum (drop (max 1 (length (sizes ++ x ∷ []) - (i + 1))) (sizes ++ x ∷ [])) ≡ sum (drop (max 1 (length sizes - k)) sizes) + x) e
    (last_more sizes x (i + 1) some (omega arith)) in
    omega (arith, is, more)

not_zero : (n m : ℕ) → n ≡ suc m → (n == 0) ≡ false
not_zero n m is = grind (arith, nat_tests)

sum_is : (sizes left : List ℕ) → ((i : ℕ) → i < 63 → slice_index left i ≡ last_bytes sizes (i + 1)) → (i : ℕ) → i < 63 →
    sum_of left i ≡ last_bytes sizes i
sum_is sizes left is zero lt = omega (arith, none_last sizes)
sum_is sizes left is (suc i) lt =
    let e : suc i - 1 ≡ i = omega arith in
    let f : i + 1 ≡ suc i = omega arith in
    rw (not_zero (suc i) i refl) (ap (λ (n : ℕ). slice_index left n) e ∙ is i (omega (arith, lt)) ∙ ap (last_bytes sizes) f)

one_alone : (x i : ℕ) → last_bytes (x ∷ []) (i + 1) ≡ 0
one_alone x i =
    let e : max 1 (1 - (i + 1)) ≡ 1 = omega arith in
    ap (λ (n : ℕ). min (sum (drop n (x ∷ []))) (2 ^ 32 - 1)) e

-- The sums with one more frame
sums_with : (sizes : List ℕ) (c : UnitFrames) (x : ℕ) → AreCounts sizes c → (i : ℕ) → i < 63 →
    slice_index (left_after c x) i ≡ last_bytes (sizes ++ x ∷ []) (i + 1)
unfolding left_after
sums_with [] c x are i lt =
    let none : (c.count == 0) ≡ true = rw are.count refl in
    rw none (are.left i lt ∙ none_alone (i + 1) ∙ sym (one_alone x i))
sums_with (s ∷ sizes) c x are i lt =
    let more : (c.count == 0) ≡ false = not_zero c.count (length sizes) are.count in
    rw more (get_or-map-range_with_len (sum_with c.left x) 0 63 i i 0 lt (omega arith)
    ∙ next_sum (s ∷ sizes) x i (sum_of c.left i) (omega arith) (sum_is (s ∷ sizes) c.left are.left i lt))

counts_with : (sizes : List ℕ) (c : UnitFrames) (h : FrameHeader) → AreCounts sizes c → AreCounts (sizes ++ h.size ∷ []) (with_frame c h)
unfolding with_frame
counts_with sizes c h are = record {
  count = omega (arith, are.count, length-append sizes (h.size ∷ []));
  left = sums_with sizes c h.size are;
}

-- The sizes, frame after frame
sizes_end : (kind : FrameKind) (n : ℕ) (bytes : List ℕ) → (length bytes == 0) ≡ true → sizes_from kind n bytes ≡ Some []
unfolding sizes_from
sizes_end kind zero bytes none = rw none refl
sizes_end kind (suc n) bytes none = rw none refl

sizes_on : (kind : FrameKind) (n : ℕ) (bytes rest sizes : List ℕ) (h : FrameHeader) → (length bytes == 0) ≡ false → next_frame kind bytes ≡ Some (h, rest) →
    sizes_from kind n rest ≡ Some sizes → sizes_from kind (suc n) bytes ≡ Some (h.size ∷ sizes)
unfolding sizes_from
sizes_on kind n bytes rest sizes h more is later = rw (more, is, later) refl

record Found (kind : FrameKind) (n : ℕ) (bytes before : List ℕ) (d : UnitFrames) : Type 0 where
  sizes : List ℕ
  are : sizes_from kind n bytes ≡ Some sizes
  counts : AreCounts (before ++ sizes) d

at_end : (kind : FrameKind) (n : ℕ) (c d : UnitFrames) (bytes before : List ℕ) → AreCounts before c → (length bytes == 0) ≡ true →
    walked kind n c bytes ≡ Some d → Found kind n bytes before d
at_end kind n c d bytes before are none is =
    let same : c ≡ d = (let e : Some c ≡ Some d = sym (walk_ends kind n c bytes none) ∙ is in cc) in
    record {
      sizes = [];
      are = sizes_end kind n bytes none;
      counts = subst (λ (l : List ℕ). AreCounts l d) (sym (append-nil before)) (subst (AreCounts before) same are);
    }

-- Either the bytes end, or a frame is at the front and the others are found after it.
one_on : (kind : FrameKind) (n : ℕ) (c d : UnitFrames) (bytes before : List ℕ) → AreCounts before c → walked kind (suc n) c bytes ≡ Some d →
    ((h : FrameHeader) (rest : List ℕ) → walked kind n (with_frame c h) rest ≡ Some d → Found kind n rest (before ++ h.size ∷ []) d) →
    (length bytes == 0) ≡ false → (o : Option (FrameHeader × List ℕ)) → next_frame kind bytes ≡ o → Found kind (suc n) bytes before d
one_on kind n c d bytes before are is later more None none =
    absurd (let no : ◌≡◌ {A = Option UnitFrames} None (Some d) = sym (walk_stops kind (suc n) c bytes (omega arith) more none) ∙ is in cc)
one_on kind n c d bytes before are is later more (Some one) some =
    let e : suc n - 1 ≡ n = omega arith in
    let on : walked kind n (with_frame c one.0) one.1 ≡ Some d =
    ap (λ (k : ℕ). walked kind k (with_frame c one.0) one.1) (sym e)
    ∙ sym (walk_on kind (suc n) c bytes one.0 one.1 (omega arith) more some) ∙ is in
    let others : Found kind n one.1 (before ++ one.0.size ∷ []) d = later one.0 one.1 on in
    record {
      sizes = one.0.size ∷ others.sizes;
      are = sizes_on kind n bytes one.1 others.sizes one.0 more some others.are;
      counts = subst (λ (l : List ℕ). AreCounts l d) (append_assoc before (one.0.size ∷ []) others.sizes) others.counts;
    }

step_on : (kind : FrameKind) (n : ℕ) (c d : UnitFrames) (bytes before : List ℕ) → AreCounts before c → walked kind (suc n) c bytes ≡ Some d →
    ((h : FrameHeader) (rest : List ℕ) → walked kind n (with_frame c h) rest ≡ Some d → Found kind n rest (before ++ h.size ∷ []) d) →
    (b : Bool) → (length bytes == 0) ≡ b → Found kind (suc n) bytes before d
step_on kind n c d bytes before are is later true none = at_end kind (suc n) c d bytes before are none is
step_on kind n c d bytes before are is later false more = one_on kind n c d bytes before are is later more (next_frame kind bytes) refl

last_on : (kind : FrameKind) (c d : UnitFrames) (bytes before : List ℕ) → AreCounts before c → walked kind 0 c bytes ≡ Some d →
    (b : Bool) → (length bytes == 0) ≡ b → Found kind 0 bytes before d
last_on kind c d bytes before are is true none = at_end kind 0 c d bytes before are none is
last_on kind c d bytes before are is false more =
    absurd (let no : ◌≡◌ {A = Option UnitFrames} None (Some d) = sym (walk_stuck kind 0 c bytes refl more) ∙ is in cc)

found : (kind : FrameKind) (n : ℕ) (c d : UnitFrames) (bytes before : List ℕ) → AreCounts before c → walked kind n c bytes ≡ Some d →
    Found kind n bytes before d
found kind zero c d bytes before are is = last_on kind c d bytes before are is (length bytes == 0) refl
found kind (suc n) c d bytes before are is =
    step_on kind n c d bytes before are is
    (λ h rest on. found kind n (with_frame c h) d rest (before ++ h.size ∷ []) (counts_with before c h are) on) (length bytes == 0) refl

no_counts : AreCounts [] no_frames
no_counts = record {
  count = refl;
  left = λ i lt. get_or-replicate 63 i 0 0 lt ∙ sym (none_alone (i + 1));
}

pub sums : SumsLaw
sums kind unit c is =
    let f : Found kind (length unit) unit [] c = found kind (length unit) no_frames c unit [] no_counts is in
    (f.sizes, f.are, f.counts)
