-- An excess lasts whenever too many bytes are in the buffer, and never while there is room.
use Rattle.std.proofs.Common.{◌≡◌, ◌∙◌, ℕ, ◌+◌, ◌-◌, ◌*◌, ◌<◌, ◌≤◌, ◌⊎◌, max, Bool, true, false, List, [], ◌∷◌, ◌++◌, Option, Some, None, refl, inl, inr, arith}
use Rattle.std.proofs.Common.{append_assoc, All}
use Rattle.std.proofs.Math.Nat.{div-lt_iff_lt-mul}
use Rattle.std.proofs.lemmas.Nat.{le-div}
use Rattle.std.proofs.lemmas.Bool.{cases_lt, cases_Bool, lt-ltb, le-ltb}
use Rattle.std.proofs.lemmas.List.Elements.{All-cons, All-head, All-tail}
use Rattle.std.specs.Option.{option_to_list}
use Rattle.clock27.specs.Departure.{departures}
use Rattle.clock27.specs.Fullness.{fullness}
use Rattle.clock27.specs.Peak.{found}
use Rattle.clock27.proofs.Fullness.{fullness_before}
use Rattle.tstd_rows.specs.declared.excess.Excess.{Excess}
use Rattle.tstd_rows.specs.Excesses.{is_over, room_again, grown, excess_after, excesses_ended}
use Rattle.tstd_rows.specs.TransportLaws.{OverLaw, FullLaw, OneLasts, Rises}
use Rattle.tstd_rows.proofs.Levels.{level, level_none, one_in, rises_after}

lasts_left : (x : ℕ) (es es' : List Excess) → OneLasts x es → OneLasts x (es ++ es')
unfolding OneLasts
lasts_left x [] es' one = absurd one
lasts_left x (e ∷ es) es' (inl here) = inl here
lasts_left x (e ∷ es) es' (inr later) = inr (lasts_left x es es' later)

lasts_right : (x : ℕ) (es es' : List Excess) → OneLasts x es' → OneLasts x (es ++ es')
unfolding OneLasts
lasts_right x [] es' one = one
lasts_right x (e ∷ es) es' one = inr (lasts_right x es es' one)

lasts_either : (x : ℕ) (es es' : List Excess) → OneLasts x (es ++ es') → OneLasts x es ⊎ OneLasts x es'
unfolding OneLasts
lasts_either x [] es' one = inr one
lasts_either x (e ∷ es) es' (inl here) = inl (inl here)
lasts_either x (e ∷ es) es' (inr later) = elim (lasts_either x es es' later) [
  | inl left ↦ inl (inr left)
  | inr right ↦ inr right
]

-- The current excess has begun by then, and it ends when there is room after the last byte.
IsOpenExcess : ℕ → ℕ → ℕ → ℕ → Option Excess → Type 0
IsOpenExcess step size prev from None = Unit {0}
IsOpenExcess step size prev from (Some e) = (e.begin ≤ from) × (e.end ≡ room_again step size prev)

size_sum : (size step : ℕ) → 0 < size → (size - 1) * step + step ≡ size * step
size_sum size step some =
    let f : size - 1 + 1 ≡ size = omega (arith, some) in
    let e : (size - 1) * step + step ≡ (size - 1 + 1) * step = omega arith in
    e ∙ rw f refl

some_step : (size step : ℕ) → 0 < size → step ≤ size * step
some_step size step some = omega (arith, size_sum size step some)

-- If the level exceeds the size, the last byte leaves more than `size` steps later.
over_level : (step size prev x : ℕ) → 0 < step → 0 < size → size < level step (prev - x) → x + size * step < prev
over_level step size prev x pos some less = elim (cases_lt (x + size * step) prev) [
  | inl is ↦ is
  | inr not ↦
      let few : (prev - x) + (step - 1) < (size + 1) * step = omega (arith, not, pos) in
      absurd (omega (arith, less, (div-lt_iff_lt-mul pos).1 few))
]

full_level : (step size prev x : ℕ) → 0 < step → 0 < size → x < room_again step size prev → size ≤ level step (prev - x)
full_level step size prev x pos some less =
    let e = size_sum size step some in
    let more : size * step ≤ (prev - x) + (step - 1) = omega (arith, less, e, pos) in
    le-div size ((prev - x) + (step - 1)) step pos more

over_is : (step size prev t : ℕ) → 0 < step → 0 < size → is_over step size prev t ≡ true → t < room_again step size prev
over_is step size prev t pos some over = elim (cases_lt t (room_again step size prev)) [
  | inl is ↦ is
  | inr not ↦
      let few : (prev - t) + (step - 1) < size * step = omega (arith, not, pos, size_sum size step some) in
      let less : found step prev t ≤ size = omega (arith, (div-lt_iff_lt-mul pos).1 few) in
      absurd (true_not_false over (le-ltb size (found step prev t) less))
]
  where
    true_not_false : {b : Bool} → b ≡ true → b ≡ false → ⊥
    true_not_false e f = cc

-- A byte that has arrived finds no room, if the buffer then holds more bytes than its size.
over_then : (step size prev t x : ℕ) → 0 < step → 0 < size → t ≤ x → size < level step ((max t prev + step) - x) → is_over step size prev t ≡ true
over_then step size prev t x pos some come less =
    let late = over_level step size (max t prev + step) x pos some less in
    let more : size * step ≤ (prev - t) + (step - 1) = omega (arith, late, come, some_step size step some) in
    lt-ltb size (found step prev t) (omega (arith, le-div size ((prev - t) + (step - 1)) step pos more))

-- The excesses that these bytes end, and the current excess after them
abbrev all_from : ℕ → ℕ → ℕ → Option Excess → List ℕ → List Excess
all_from step size prev under_way ts = excesses_ended step size prev under_way ts ++ option_to_list (excess_after step size prev under_way ts)

all_over : (step size prev t : ℕ) (under_way : Option Excess) (ts : List ℕ) → is_over step size prev t ≡ true →
    all_from step size prev under_way (t ∷ ts) ≡ all_from step size (max t prev + step) (Some (grown step size prev under_way t)) ts
unfolding excesses_ended excess_after
all_over step size prev t under_way ts e = rw e refl

all_room : (step size prev t : ℕ) (under_way : Option Excess) (ts : List ℕ) → is_over step size prev t ≡ false →
    all_from step size prev under_way (t ∷ ts) ≡ option_to_list under_way ++ all_from step size (max t prev + step) None ts
unfolding excesses_ended excess_after
all_room step size prev t under_way ts e = rw e (append_assoc (option_to_list under_way) _ _)

open_grown : (step size prev from t : ℕ) (under_way : Option Excess) → IsOpenExcess step size prev from under_way → from ≤ t →
    IsOpenExcess step size (max t prev + step) t (Some (grown step size prev under_way t))
unfolding IsOpenExcess grown
open_grown step size prev from t None is_open le = (omega arith, refl)
open_grown step size prev from t (Some e) is_open le = (omega (arith, is_open.0, le), refl)

grown_begin : (step size prev : ℕ) (e : Excess) (t : ℕ) → (grown step size prev (Some e) t).begin ≡ e.begin
unfolding grown
grown_begin step size prev e t = refl

grown_end : (step size prev : ℕ) (under_way : Option Excess) (t : ℕ) → (grown step size prev under_way t).end ≡ room_again step size (max t prev + step)
unfolding grown
grown_end step size prev None t = refl
grown_end step size prev (Some e) t = refl

lasts_one : (x : ℕ) (e : Excess) (es : List Excess) → e.begin ≤ x → x < e.end → OneLasts x (e ∷ es)
unfolding OneLasts
lasts_one x e es begun lasts = inl (begun, lasts)

all_none : (step size prev : ℕ) (under_way : Option Excess) → all_from step size prev under_way [] ≡ option_to_list under_way
unfolding excesses_ended excess_after
all_none step size prev under_way = refl

-- If the current excess lasts at x, an excess of the list lasts at x.
keeps : (step size prev x : ℕ) (e : Excess) (ts : List ℕ) → e.end ≡ room_again step size prev → e.begin ≤ x → x < e.end →
    OneLasts x (all_from step size prev (Some e) ts)
keeps step size prev x e [] ends begun lasts = rw (all_none step size prev (Some e)) (lasts_one x e [] begun lasts)
keeps step size prev x e (t ∷ ts) ends begun lasts = elim (cases_Bool (is_over step size prev t)) [
  | inl over ↦
      rw (all_over step size prev t (Some e) ts over)
      (keeps step size (max t prev + step) x (grown step size prev (Some e) t) ts (grown_end step size prev (Some e) t)
      (rw (grown_begin step size prev e t) begun) (rw (grown_end step size prev (Some e) t) (omega (arith, lasts, ends))))
  | inr room ↦ rw (all_room step size prev t (Some e) ts room) (lasts_one x e (all_from step size (max t prev + step) None ts) begun lasts)
]

-- Whether there is a current excess
IsUnderWay : Option Excess → Type 0
IsUnderWay None = ⊥
IsUnderWay (Some e) = Unit {0}

-- A current excess lasts at any later moment before there is room again.
open_keeps : (step size prev from x : ℕ) (under_way : Option Excess) (ts : List ℕ) → IsOpenExcess step size prev from under_way → IsUnderWay under_way →
    from ≤ x →
    x < room_again step size prev →
    OneLasts x (all_from step size prev under_way ts)
unfolding IsOpenExcess IsUnderWay
open_keeps step size prev from x None ts is_open is le less = absurd is
open_keeps step size prev from x (Some e) ts is_open is le less =
    keeps step size prev x e ts is_open.1 (omega (arith, is_open.0, le)) (omega (arith, is_open.1, less))

under_way_some : (e : Excess) → IsUnderWay (Some e)
unfolding IsUnderWay
under_way_some e = tt

open_none : (step size prev from : ℕ) → IsOpenExcess step size prev from None
unfolding IsOpenExcess
open_none step size prev from = tt

-- If the buffer holds too many bytes, an excess lasts.
too_many : (step size : ℕ) → 0 < step → 0 < size → (ts : List ℕ) (prev from x : ℕ) (under_way : Option Excess) → IsOpenExcess step size prev from under_way →
    Rises from ts → from ≤ x →
    (size < level step (prev - x) → IsUnderWay under_way) → size < fullness x ts (departures step prev ts) + level step (prev - x) →
    OneLasts x (all_from step size prev under_way ts)
unfolding Rises fullness departures
too_many step size pos some [] prev from x under_way is_open rises le is less =
    let here : size < level step (prev - x) = omega (arith, less) in
    open_keeps step size prev from x under_way [] is_open (is here) le (omega (arith, over_level step size prev x pos some here, size_sum size step some))
too_many step size pos some (t ∷ ts) prev from x under_way is_open rises le is less = elim (cases_lt x t) [
  | inl before ↦
      let all : All (λ s. x < s) (t ∷ ts) = All-cons (λ s. x < s) t ts before (rises_after x t ts before rises.1) in
      let none = fullness_before x (t ∷ ts) (departures step prev (t ∷ ts)) all in
      let here : size < level step (prev - x) = omega (arith, less, none) in
      open_keeps step size prev from x under_way (t ∷ ts) is_open (is here) le
      (omega (arith, over_level step size prev x pos some here, size_sum size step some))
  | inr come ↦
      let next : size < fullness x ts (departures step (max t prev + step) ts) + level step ((max t prev + step) - x) =
      omega (arith, less, one_in step x t prev pos come) in
      elim (cases_Bool (is_over step size prev t)) [
        | inl over ↦
            rw (all_over step size prev t under_way ts over)
            (too_many step size pos some ts (max t prev + step) t x (Some (grown step size prev under_way t))
            (open_grown step size prev from t under_way is_open rises.0) rises.1 come
            (λ h. under_way_some (grown step size prev under_way t)) next)
        | inr room ↦
            rw (all_room step size prev t under_way ts room)
            (lasts_right x (option_to_list under_way) (all_from step size (max t prev + step) None ts)
            (too_many step size pos some ts (max t prev + step) t x None (open_none step size (max t prev + step) t) rises.1 come
            (λ h. absurd (true_not_false (over_then step size prev t x pos some come h) room)) next))
      ]
]
  where
    true_not_false : {b : Bool} → b ≡ true → b ≡ false → ⊥
    true_not_false e f = cc

pub over_law : OverLaw
over_law step size ts x pos some rises less =
    let z : 0 - x ≡ 0 = omega arith in
    let none : level step (0 - x) ≡ 0 = rw z (level_none step pos) in
    too_many step size pos some ts 0 0 x None (open_none step size 0 0) rises (omega arith) (λ h. absurd (omega (arith, h, none))) (omega (arith, less, none))

-- If an excess lasts, there is no room.
open_full : (step size prev from x : ℕ) (under_way : Option Excess) → 0 < step → 0 < size → IsOpenExcess step size prev from under_way →
    OneLasts x (option_to_list under_way) → size ≤ level step (prev - x)
unfolding IsOpenExcess OneLasts
open_full step size prev from x None pos some is_open one = absurd one
open_full step size prev from x (Some e) pos some is_open (inl lasts) = full_level step size prev x pos some (omega (arith, lasts.1, is_open.1))
open_full step size prev from x (Some e) pos some is_open (inr none) = absurd none

-- Whether the current excess, if any, begins after x
Later : ℕ → Option Excess → Type 0
Later x None = Unit {0}
Later x (Some e) = x < e.begin

later_none : (x : ℕ) → Later x None
unfolding Later
later_none x = tt

later_grown : (step size prev t x : ℕ) (under_way : Option Excess) → Later x under_way → x < t → Later x (Some (grown step size prev under_way t))
unfolding Later grown
later_grown step size prev t x None later lt = lt
later_grown step size prev t x (Some e) later lt = later

later_lasts : (x : ℕ) (under_way : Option Excess) → Later x under_way → OneLasts x (option_to_list under_way) → ⊥
unfolding Later OneLasts
later_lasts x None later one = absurd one
later_lasts x (Some e) later (inl lasts) = omega (arith, later, lasts.0)
later_lasts x (Some e) later (inr none) = absurd none

-- No excess of bytes that arrive after x lasts at x.
none_lasts : (step size x : ℕ) (ts : List ℕ) (prev : ℕ) (under_way : Option Excess) → Later x under_way → All (λ t. x < t) ts →
    OneLasts x (all_from step size prev under_way ts) → ⊥
none_lasts step size x [] prev under_way later all one = later_lasts x under_way later (rw (all_none step size prev under_way) at one)
none_lasts step size x (t ∷ ts) prev under_way later all one = elim (cases_Bool (is_over step size prev t)) [
  | inl over ↦
      none_lasts step size x ts (max t prev + step) (Some (grown step size prev under_way t))
      (later_grown step size prev t x under_way later (All-head (λ t. x < t) t ts all))
      (All-tail (λ t. x < t) t ts all) (rw (all_over step size prev t under_way ts over) at one)
  | inr room ↦ elim
      (lasts_either x (option_to_list under_way) (all_from step size (max t prev + step) None ts) (rw (all_room step size prev t under_way ts room) at one)) [
        | inl first ↦ later_lasts x under_way later first
        | inr rest ↦ none_lasts step size x ts (max t prev + step) None (later_none x) (All-tail (λ t. x < t) t ts all) rest
      ]
]

no_room : (step size : ℕ) → 0 < step → 0 < size → (ts : List ℕ) (prev from x : ℕ) (under_way : Option Excess) → IsOpenExcess step size prev from under_way →
    Rises from ts → from ≤ x →
    OneLasts x (all_from step size prev under_way ts) → size ≤ fullness x ts (departures step prev ts) + level step (prev - x)
unfolding Rises fullness departures
no_room step size pos some [] prev from x under_way is_open rises le one =
    omega (arith, open_full step size prev from x under_way pos some is_open (rw (all_none step size prev under_way) at one))
no_room step size pos some (t ∷ ts) prev from x under_way is_open rises le one = elim (cases_Bool (is_over step size prev t)) [
  | inl over ↦ elim (cases_lt x t) [
    | inl before ↦
        let full = full_level step size prev x pos some (omega (arith, over_is step size prev t pos some over, before)) in
        omega (arith, full)
    | inr come ↦
        let rest = no_room step size pos some ts (max t prev + step) t x (Some (grown step size prev under_way t))
        (open_grown step size prev from t under_way is_open rises.0) rises.1 come
        (rw (all_over step size prev t under_way ts over) at one) in
        omega (arith, rest, one_in step x t prev pos come)
  ]
  | inr room ↦ elim
      (lasts_either x (option_to_list under_way) (all_from step size (max t prev + step) None ts) (rw (all_room step size prev t under_way ts room) at one)) [
        | inl first ↦ omega (arith, open_full step size prev from x under_way pos some is_open first)
        | inr rest ↦ elim (cases_lt x t) [
          | inl before ↦ absurd (none_lasts step size x ts (max t prev + step) None (later_none x) (rises_after x t ts before rises.1) rest)
          | inr come ↦
              let full = no_room step size pos some ts (max t prev + step) t x None (open_none step size (max t prev + step) t) rises.1 come rest in
              omega (arith, full, one_in step x t prev pos come)
        ]
      ]
]

pub full_law : FullLaw
full_law step size ts x pos some rises one =
    let z : 0 - x ≡ 0 = omega arith in
    let none : level step (0 - x) ≡ 0 = rw z (level_none step pos) in
    omega (arith, no_room step size pos some ts 0 0 x None (open_none step size 0 0) rises (omega arith) one, none)
