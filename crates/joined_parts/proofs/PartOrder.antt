-- The parts of a recording, one after another
use Rattle.std.proofs.Common.{◌≡◌, ◌∙◌, ◌≤◌, ◌<◌, ℕ, zero, suc, ◌+◌, ◌-◌, ◌*◌, ◌%◌, ◌^◌, ◌&&◌, Bool, true, false, if◌then◌else◌, Option, Some, None, List, []}
use Rattle.std.proofs.Common.{◌∷◌, refl, sym, ap, subst, arith}
use Rattle.std.specs.Prelude.{fold, max, nat_le, slice_get, unwrap_or}
use Rattle.std.proofs.lemmas.Bool.{le-leb, leb-true}
use Rattle.std.proofs.lemmas.Option.{same_Some}
use Rattle.std.proofs.Math.Nat.{le_trans}
use Rattle.fed_streams.specs.Ticks.{jump_pause}
use Rattle.es_moments.specs.Stamps.{distance}
use Rattle.es_moments.proofs.StampMoments.{shows}
use Rattle.joined_parts.specs.Joins.{cut_if, is_between, later, lead_of, least_of, nearest, reach_of, shift_if, with_lead}
use Rattle.joined_parts.specs.Joins.{with_reach}
use Rattle.joined_parts.specs.Laws.{PartsComeInOrder}
use Rattle.joined_parts.specs.declared.cuts.Cut.{Cut}
use Rattle.joined_parts.specs.declared.stamps.UnitStamp.{UnitStamp}

both : (a b : Bool) → a ≡ true → b ≡ true → (a && b) ≡ true
both a b left right = rw (left, right) refl

second : (a b : Bool) → (a && b) ≡ true → b ≡ true
second true b is = is
second false b is = absurd cc

-- 1. The greatest DTS before a cut

no_less : (b : Bool) (reach by : ℕ) → reach ≤ (if b then max reach by else reach)
no_less true reach by = omega arith
no_less false reach by = omega arith

taken : (b : Bool) (reach by : ℕ) → b ≡ true → by ≤ (if b then max reach by else reach)
taken true reach by is = omega arith
taken false reach by is = absurd cc

no_more : (b : Bool) (reach by most : ℕ) → reach ≤ most → (b ≡ true → by ≤ most) → (if b then max reach by else reach) ≤ most
no_more true reach by most within near = omega (arith, near refl)
no_more false reach by most within near = within

reach_grows : (before : Option Cut) (cut : Cut) (start : ℕ) (ss : List UnitStamp) → start ≤ fold (with_reach before cut) start ss
reach_grows before cut start [] = omega arith
reach_grows before cut start (s ∷ ss) =
    le_trans (no_less (is_between cut.pid before (Some cut) s && nat_le (distance cut.before s.dts) nearest) start (distance cut.before s.dts))
    (reach_grows before cut (with_reach before cut start s) ss)

reach_near : (before : Option Cut) (cut : Cut) (start : ℕ) (ss : List UnitStamp) → start ≤ nearest → fold (with_reach before cut) start ss ≤ nearest
reach_near before cut start [] within = within
reach_near before cut start (s ∷ ss) within =
    let by : ℕ = distance cut.before s.dts in
    let part : Bool = is_between cut.pid before (Some cut) s in
    reach_near before cut (with_reach before cut start s) ss
    (no_more (part && nat_le by nearest) start by nearest within (λ is. leb-true by nearest (second part (nat_le by nearest) is)))

reach_has : (before : Option Cut) (cut : Cut) (start : ℕ) (ss : List UnitStamp) (i : ℕ) (s : UnitStamp) → slice_get ss i ≡ Some s →
    is_between cut.pid before (Some cut) s ≡ true → distance cut.before s.dts ≤ nearest →
    distance cut.before s.dts ≤ fold (with_reach before cut) start ss
reach_has before cut start [] i s at part near = absurd cc
reach_has before cut start (x ∷ ss) zero s at part near =
    let own : x ≡ s = same_Some x s at in
    let head : distance cut.before s.dts ≤ with_reach before cut start s =
    taken (is_between cut.pid before (Some cut) s && nat_le (distance cut.before s.dts) nearest) start (distance cut.before s.dts)
    (both (is_between cut.pid before (Some cut) s) (nat_le (distance cut.before s.dts) nearest) part (le-leb (distance cut.before s.dts) nearest near)) in
    le_trans (subst (λ (y : UnitStamp). distance cut.before s.dts ≤ with_reach before cut start y) (sym own) head)
    (reach_grows before cut (with_reach before cut start x) ss)
reach_has before cut start (x ∷ ss) (suc i) s at part near = reach_has before cut (with_reach before cut start x) ss i s at part near

-- 2. The least DTS after the cut

abbrev AtMost : Option ℕ → ℕ → Type 0
AtMost None by = ⊥
AtMost (Some lead) by = lead ≤ by

lesser : (b : Bool) (lead : Option ℕ) (next by : ℕ) → AtMost lead by → AtMost (if b then least_of lead next else lead) by
unfolding least_of
lesser true None next by is = absurd is
lesser true (Some lead) next by is = omega arith
lesser false lead next by is = is

least_taken : (b : Bool) (lead : Option ℕ) (by : ℕ) → b ≡ true → AtMost (if b then least_of lead by else lead) by
unfolding least_of
least_taken true None by is = omega arith
least_taken true (Some lead) by is = omega arith
least_taken false lead by is = absurd cc

lead_keeps : (cut : Cut) (next : Option Cut) (by : ℕ) (lead : Option ℕ) (ss : List UnitStamp) → AtMost lead by → AtMost (fold (with_lead cut next) lead ss) by
lead_keeps cut next by lead [] is = is
lead_keeps cut next by lead (s ∷ ss) is =
    lead_keeps cut next by (with_lead cut next lead s) ss
    (lesser (is_between cut.pid (Some cut) next s && nat_le (distance cut.base s.dts) nearest) lead (distance cut.base s.dts) by is)

lead_has : (cut : Cut) (next : Option Cut) (lead : Option ℕ) (ss : List UnitStamp) (i : ℕ) (t : UnitStamp) → slice_get ss i ≡ Some t →
    is_between cut.pid (Some cut) next t ≡ true → distance cut.base t.dts ≤ nearest →
    AtMost (fold (with_lead cut next) lead ss) (distance cut.base t.dts)
lead_has cut next lead [] i t at part near = absurd cc
lead_has cut next lead (x ∷ ss) zero t at part near =
    let own : x ≡ t = same_Some x t at in
    let head : AtMost (with_lead cut next lead t) (distance cut.base t.dts) =
    least_taken (is_between cut.pid (Some cut) next t && nat_le (distance cut.base t.dts) nearest) lead (distance cut.base t.dts)
    (both (is_between cut.pid (Some cut) next t) (nat_le (distance cut.base t.dts) nearest) part (le-leb (distance cut.base t.dts) nearest near)) in
    lead_keeps cut next (distance cut.base t.dts) (with_lead cut next lead x) ss
    (subst (λ (y : UnitStamp). AtMost (with_lead cut next lead y) (distance cut.base t.dts)) (sym own) head)
lead_has cut next lead (x ∷ ss) (suc i) t at part near = lead_has cut next (with_lead cut next lead x) ss i t at part near

or_none : (lead : Option ℕ) (by : ℕ) → AtMost lead by → unwrap_or lead 0 ≤ by
or_none None by is = absurd is
or_none (Some lead) by is = is

-- 3. Stamps that are moved

-- A moved stamp, as a distance from a reference
moved_from : (base dts shift : ℕ) → later dts shift ≡ (base + distance base dts + shift) % 2 ^ 33
unfolding distance
moved_from base dts shift = omega arith

-- A moved stamp after the cut lies after the end of the part before it, by the same distance.
ahead : (base lead by shift end dts : ℕ) → lead ≤ by → (later base lead + shift) % 2 ^ 33 ≡ end % 2 ^ 33 → dts % 2 ^ 33 ≡ (base + by) % 2 ^ 33 →
    later dts shift ≡ (end + (by - lead)) % 2 ^ 33
ahead base lead by shift end dts least meets is = omega arith

end_is : (before shift reach pause : ℕ) → later (later before shift) (later reach pause) ≡ (before + shift + reach + pause) % 2 ^ 33
end_is before shift reach pause = omega arith

gap : (from by next : ℕ) → by ≤ next → next - by < 2 ^ 33 → distance ((from + by) % 2 ^ 33) ((from + next) % 2 ^ 33) ≡ next - by
unfolding distance
gap from by next less near = omega arith

same_place : (before by shift : ℕ) → (before + by + shift) % 2 ^ 33 ≡ (before + shift + by) % 2 ^ 33
same_place before by shift = omega arith

after_end : (place reach pause more : ℕ) → ((place + reach + pause) % 2 ^ 33 + more) % 2 ^ 33 ≡ (place + (reach + pause + more)) % 2 ^ 33
after_end place reach pause more = omega arith

abbrev IsPartLater : ℕ → Type 0
IsPartLater by = (jump_pause ≤ by) × (by ≤ jump_pause + 2 * nearest)

apart : (before reach x base lead y shift s t : ℕ) → x ≡ distance before s → y ≡ distance base t → x ≤ reach → reach ≤ nearest → lead ≤ y → y ≤ nearest →
    IsPartLater (distance (later s shift) (later t (distance (later base lead) (later (later before shift) (later reach jump_pause)))))
apart before reach x base lead y shift s t x_is y_is in_reach few least near =
    let place : ℕ = before + shift in
    let end : ℕ = later (later before shift) (later reach jump_pause) in
    let next : ℕ = distance (later base lead) end in
    let one : later s shift ≡ (place + x) % 2 ^ 33 =
    moved_from before s shift ∙ ap (λ (n : ℕ). (before + n + shift) % 2 ^ 33) (sym x_is) ∙ same_place before x shift in
    let stamp : t % 2 ^ 33 ≡ (base + y) % 2 ^ 33 = sym (shows base t) ∙ ap (λ (n : ℕ). (base + n) % 2 ^ 33) (sym y_is) in
    let other : later t next ≡ (place + (reach + jump_pause + (y - lead))) % 2 ^ 33 =
    ahead base lead y next end t least (shows (later base lead) end) stamp
    ∙ ap (λ (n : ℕ). (n + (y - lead)) % 2 ^ 33) (end_is before shift reach jump_pause)
    ∙ after_end place reach jump_pause (y - lead) in
    let far : distance (later s shift) (later t next) ≡ reach + jump_pause + (y - lead) - x =
    ap (λ (n : ℕ). distance n (later t next)) one ∙ ap (λ (n : ℕ). distance ((place + x) % 2 ^ 33) n) other
    ∙ gap place x (reach + jump_pause + (y - lead)) (omega arith) (omega arith) in
    (omega (arith, far), omega (arith, far))

pub in_order : PartsComeInOrder
in_order stamps before cut next i k s t at_s at_t part_s part_t near_s near_t =
    apart cut.before (reach_of (cut_if before) cut stamps) (distance cut.before s.dts) cut.base (lead_of cut next stamps) (distance cut.base t.dts)
    (shift_if before) s.dts t.dts refl refl (reach_has (cut_if before) cut 0 stamps i s at_s part_s near_s)
    (reach_near (cut_if before) cut 0 stamps (omega arith))
    (or_none (fold (with_lead cut next) None stamps) (distance cut.base t.dts) (lead_has cut next None stamps k t at_t part_t near_t))
    near_t
