-- DTS that are made from moments, one by one
use Rattle.std.proofs.Common.{◌≡◌, ◌≤◌, ◌<◌, ◌∙◌, ℕ, suc, Bool, if◌then◌else◌, nat_le, arith, ◌+◌, ◌-◌, ◌%◌, ◌^◌, ◌++◌, max, true, false, nat_lt, refl, sym, ap}
use Rattle.std.proofs.Common.{add-one, List, [], ◌∷◌, length, drop, get_or, None, Some}
use Rattle.std.proofs.Math.Seq.{drop-cons}
use Rattle.std.proofs.lemmas.List.{append_assoc, append-nil, drop_all, length-map}
use Rattle.pes_packet.specs.declared.marks.Marks.{Marks}
use Rattle.es_moments.specs.MadeDts.{nearest, moments_after, moments_of, placed, in_order, shift_of, made_dts, pts_of, made_units, max_ahead, is_first}
use Rattle.es_moments.specs.MadeDts.{first_same_pts, first_late_pts, with_dts}
use Rattle.es_moments.proofs.UnitMoments.{content, contents}
use Rattle.es_moments.specs.declared.dts_from_pts.DtsFault.TheVariants.{SamePts, PtsTooLate}
use Rattle.es_moments.specs.WireUnits.{CarriedUnit, unit_with}

pub next : (i : ℕ) (xs : List ℕ) → i < length xs → drop i xs ≡ get_or xs i 0 ∷ drop (i + 1) xs
next i xs below = rw (drop-cons xs i 0 below, add-one i) refl

pub moments_more : (moment i x : ℕ) (stamps before : List ℕ) → i < length stamps → x ≡ get_or stamps i 0 →
    before ++ moments_after moment (drop i stamps) ≡ (before ++ nearest moment x ∷ []) ++ moments_after (nearest moment x) (drop (i + 1) stamps)
unfolding moments_after
moments_more moment i x stamps before below is =
    rw (next i stamps below, is)
    (sym (append_assoc before (nearest moment (get_or stamps i 0) ∷ []) (moments_after (nearest moment (get_or stamps i 0)) (drop (i + 1) stamps))))

pub moments_end : (moment i : ℕ) (stamps before : List ℕ) → length stamps ≤ i → before ++ moments_after moment (drop i stamps) ≡ before
unfolding moments_after
moments_end moment i stamps before over = rw (drop_all i stamps over) (append-nil before)

pub ahead_more : (i x : ℕ) (order later moments : List ℕ) → i < length moments → order ≡ x ∷ later →
    max_ahead order (drop i moments) ≡ max (x - get_or moments i 0) (max_ahead later (drop (i + 1) moments))
unfolding max_ahead
ahead_more i x order later moments below is = rw (next i moments below, is) refl

none_ahead : (order : List ℕ) → max_ahead order [] ≡ 0
unfolding max_ahead
none_ahead [] = refl
none_ahead (x ∷ order) = refl

pub ahead_end : (i : ℕ) (order moments : List ℕ) → length moments ≤ i → max_ahead order (drop i moments) ≡ 0
ahead_end i order moments over = rw (drop_all i moments over) (none_ahead order)

pub ahead_short : (order moments : List ℕ) → length order ≡ 0 → max_ahead order moments ≡ 0
unfolding max_ahead
ahead_short [] moments none = refl
ahead_short (x ∷ order) moments none = absurd cc

pub same_here : (order rest : List ℕ) (x : ℕ) → order ≡ x ∷ rest → is_first x rest ≡ true → first_same_pts order ≡ Some (SamePts (x % 2 ^ 33))
unfolding first_same_pts
same_here order rest x is same = rw (is, same) refl

pub same_later : (order rest : List ℕ) (x : ℕ) → order ≡ x ∷ rest → is_first x rest ≡ false → first_same_pts order ≡ first_same_pts rest
unfolding first_same_pts
same_later order rest x is other = rw (is, other) refl

pub same_none : (order : List ℕ) → length order ≡ 0 → first_same_pts order ≡ None
unfolding first_same_pts
same_none [] none = refl
same_none (x ∷ order) none = absurd cc

pub late_here : (shift i x : ℕ) (order later moments : List ℕ) → i < length moments → order ≡ x ∷ later →
    nat_lt 90_000 (get_or moments i 0 - (x - shift)) ≡ true →
    first_late_pts shift i order (drop i moments) ≡ Some (PtsTooLate i (get_or moments i 0 - (x - shift)))
unfolding first_late_pts
late_here shift i x order later moments below is over = rw (next i moments below, is, over) refl

pub late_later : (shift i x : ℕ) (order later moments : List ℕ) → i < length moments → order ≡ x ∷ later →
    nat_lt 90_000 (get_or moments i 0 - (x - shift)) ≡ false →
    first_late_pts shift i order (drop i moments) ≡ first_late_pts shift (i + 1) later (drop (i + 1) moments)
unfolding first_late_pts
late_later shift i x order later moments below is within = rw (next i moments below, is, within) refl

none_late : (shift i : ℕ) (order : List ℕ) → first_late_pts shift i order [] ≡ None
unfolding first_late_pts
none_late shift i [] = refl
none_late shift i (x ∷ order) = refl

pub late_end : (shift i : ℕ) (order moments : List ℕ) → length moments ≤ i → first_late_pts shift i order (drop i moments) ≡ None
late_end shift i order moments over = rw (drop_all i moments over) (none_late shift i order)

pub late_short : (shift i : ℕ) (order moments : List ℕ) → length order ≡ 0 → first_late_pts shift i order moments ≡ None
unfolding first_late_pts
late_short shift i [] moments none = refl
late_short shift i (x ∷ order) moments none = absurd cc

-- One more unit takes the next DTS.
pub dts_more : (dts later : List ℕ) (d : ℕ) (us rest out : List CarriedUnit) (u x : CarriedUnit) → dts ≡ d ∷ later → us ≡ u ∷ rest →
    x ≡ unit_with u.packet u.stream_id d u.unit.pts u.unit.marks u.unit.bytes → out ++ with_dts dts us ≡ (out ++ x ∷ []) ++ with_dts later rest
unfolding with_dts
dts_more dts later d us rest out u x ds is at =
    rw (ds, is, at) (sym (append_assoc out (unit_with u.packet u.stream_id d u.unit.pts u.unit.marks u.unit.bytes ∷ []) (with_dts later rest)))

pub dts_short : (dts : List ℕ) (us : List CarriedUnit) → length dts ≡ 0 → with_dts dts us ≡ []
unfolding with_dts
dts_short [] us none = refl
dts_short (d ∷ dts) us none = absurd cc

pub dts_end : (dts : List ℕ) (us : List CarriedUnit) → us ≡ [] → with_dts dts us ≡ []
unfolding with_dts
dts_end [] us none = refl
dts_end (d ∷ dts) us none = rw none refl

pub dts_done : (all out rest : List CarriedUnit) → all ≡ out ++ rest → rest ≡ [] → out ≡ all
dts_done all out rest is none = sym (is ∙ ap (λ (l : List CarriedUnit). out ++ l) none ∙ append-nil out)

-- Units with other DTS have the same bytes.
length_moments : (moment : ℕ) (stamps : List ℕ) → length (moments_after moment stamps) ≡ length stamps
unfolding moments_after
length_moments moment [] = refl
length_moments moment (stamp ∷ stamps) = ap suc (length_moments (nearest moment stamp) stamps)

length_either : (b : Bool) (x y : ℕ) (ys zs : List ℕ) → length zs ≡ suc (length ys) → length (if b then x ∷ y ∷ ys else y ∷ zs) ≡ suc (suc (length ys))
length_either true x y ys zs is = refl
length_either false x y ys zs is = ap suc is

length_placed : (x : ℕ) (ys : List ℕ) → length (placed x ys) ≡ suc (length ys)
unfolding placed
length_placed x [] = refl
length_placed x (y ∷ ys) = length_either (nat_le x y) x y ys (placed x ys) (length_placed x ys)

length_order : (xs : List ℕ) → length (in_order xs) ≡ length xs
unfolding in_order
length_order [] = refl
length_order (x ∷ xs) = length_placed x (in_order xs) ∙ ap suc (length_order xs)

length_made : (us : List CarriedUnit) → length (made_dts (pts_of us)) ≡ length us
length_made us =
    let moments = moments_of (pts_of us) in
    length-map (in_order moments) (λ (m : ℕ). (m - shift_of moments) % 2 ^ 33) ∙ length_order moments ∙ length_moments (2 ^ 100) (pts_of us)
    ∙ length-map us (λ (u : CarriedUnit). u.unit.pts)

pub restamped_contents : (dts : List ℕ) (us : List CarriedUnit) → length dts ≡ length us → contents (with_dts dts us) ≡ contents us
unfolding with_dts
restamped_contents [] [] same = refl
restamped_contents [] (u ∷ us) same = absurd cc
restamped_contents (d ∷ dts) [] same = absurd cc
restamped_contents (d ∷ dts) (u ∷ us) same =
    ap (λ (l : List (Marks × List ℕ)). content u ∷ l) (restamped_contents dts us (let less : length dts ≡ length us = omega (arith, same) in less))

pub made_contents : (us : List CarriedUnit) → contents (made_units us) ≡ contents us
made_contents us = restamped_contents (made_dts (pts_of us)) us (length_made us)
