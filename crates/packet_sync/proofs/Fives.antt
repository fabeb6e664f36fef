-- Five packets in a row, in the parts of a stream.
use Rattle.std.proofs.Common.{◌≡◌, ◌≤◌, ◌<◌, ◌⊎◌, inl, inr, ℕ, zero, suc, ◌+◌, ◌-◌, ◌&&◌, ◌||◌, nat_lt, Bool, true, false, refl, sym, ap, ap₂, subst, arith, ◌∙◌}
use Rattle.std.proofs.Common.{List, [], ◌++◌, append_assoc, length, length-append, length-drop, take, drop, drop-drop}
use Rattle.std.proofs.lemmas.Bool.{cases_eq}
use Rattle.std.proofs.Math.Seq.{drop-append_seam}
use Rattle.std.proofs.lemmas.List.{drop-append-le, length-take-le, take-append-drop}
use Rattle.packet_sync.specs.Slips.{are_apart, is_in_step, is_sync}
use Rattle.packet_sync.specs.NoStreams.{are_five, five_within, has_five}
use Rattle.packet_sync.specs.PacketSearch.{FiveView, IsSearchOf}
use Rattle.packet_sync.proofs.FrontBytes.{three_front}
use Rattle.packet_sync.proofs.Stretches.{step_later}
use Rattle.packet_sync.proofs.WholeStreams.{sync_inside}

-- 1. A place where five packets in a row begin

record FiveAt (n : ℕ) (bs : List ℕ) : Type 0 where
  at : ℕ
  below : at < n
  is : are_five bs at ≡ true

or_right : (x y : Bool) → x ≡ false → (x || y) ≡ true → y ≡ true
or_right false y e t = t
or_right true y e t = absurd cc

or_first : (x y : Bool) → x ≡ true → (x || y) ≡ true
or_first true y e = refl
or_first false y e = absurd cc

or_second : (x y : Bool) → y ≡ true → (x || y) ≡ true
or_second true y e = refl
or_second false y e = e

and_right : (x y : Bool) → (x && y) ≡ true → y ≡ true
and_right true y e = e
and_right false y e = absurd cc

third_of_three : (a b c : Bool) → (a && b && c) ≡ true → c ≡ true
third_of_three true true c e = e
third_of_three true false c e = absurd cc
third_of_three false b c e = absurd cc

place_by : (n : ℕ) (bs : List ℕ) (b : Bool) → five_within n bs ≡ b → (five_within n bs ≡ true → FiveAt n bs) → (five_within n bs || are_five bs n) ≡ true →
    FiveAt (suc n) bs
place_by n bs true e rest is = let p = rest e in record { at = p.at; below = omega (arith, p.below); is = p.is }
place_by n bs false e rest is = record { at = n; below = omega arith; is = or_right (five_within n bs) (are_five bs n) e is }

place_of : (n : ℕ) (bs : List ℕ) → five_within n bs ≡ true → FiveAt n bs
unfolding five_within
place_of zero bs is = absurd cc
place_of (suc n) bs is = place_by n bs (five_within n bs) refl (λ e. place_of n bs e) is

pub place_in : (n : ℕ) (bs : List ℕ) (at : ℕ) → at < n → are_five bs at ≡ true → five_within n bs ≡ true
unfolding five_within
place_in zero bs at below is = absurd (let no : ⊥ = omega (arith, below) in no)
place_in (suc n) bs at below is = elim (cases_eq at n) [
  | inl e ↦ or_second (five_within n bs) (are_five bs n) (subst (λ (i : ℕ). are_five bs i ≡ true) e is)
  | inr ne ↦ or_first (five_within n bs) (are_five bs n) (place_in n bs at (omega (arith, below, ne)) is)
]

-- One place more
pub none_more : (n : ℕ) (bs : List ℕ) → five_within n bs ≡ false → are_five bs n ≡ false → five_within (suc n) bs ≡ false
unfolding five_within
none_more n bs e f = ap₂ (λ (x y : Bool). x || y) e f

-- None in the first n places, and no place is after these
all_by : (n : ℕ) (bs : List ℕ) → length bs ≤ n → five_within n bs ≡ false → (b : Bool) → five_within (length bs) bs ≡ b → false ≡ five_within (length bs) bs
all_by n bs past none false t = sym t
all_by n bs past none true t =
    let p = place_of (length bs) bs t in
    let there : five_within n bs ≡ true = place_in n bs p.at (omega (arith, p.below, past)) p.is in
    absurd (let no : false ≡ true = sym none ∙ there in cc)

pub all_places : (n : ℕ) (bs : List ℕ) → length bs ≤ n → five_within n bs ≡ false → false ≡ has_five bs
all_places n bs past none = all_by n bs past none (five_within (length bs) bs) refl

-- All five sync bytes are within the list.
five_inside : (bs : List ℕ) (at : ℕ) → are_five bs at ≡ true → at + 752 < length bs
unfolding are_five are_apart
five_inside bs at is =
    let last : is_sync bs (at + 376 + 376) ≡ true =
    third_of_three (is_sync bs (at + 376)) (is_sync bs (at + 376 + 188)) (is_sync bs (at + 376 + 376)) (and_right (is_in_step bs at) (is_in_step bs (at + 376)) is) in
    omega (arith, sync_inside bs (at + 376 + 376) last)

-- The same five sync bytes, if more bytes follow
five_front : (bs more : List ℕ) (at : ℕ) → at + 752 < length bs → are_five bs at ≡ are_five (bs ++ more) at
unfolding are_five are_apart
five_front bs more at within =
    ap₂ (λ (x y : Bool). x && y)
    (three_front bs more at (at + 188) (at + 376) (omega (arith, within)) (omega (arith, within)) (omega (arith, within)))
    (three_front bs more (at + 376) (at + 376 + 188) (at + 376 + 376) (omega (arith, within)) (omega (arith, within)) (omega (arith, within)))

-- The same five sync bytes, in the rest of a list
five_later : (bs : List ℕ) (a b : ℕ) → are_five bs (a + b) ≡ are_five (drop a bs) b
unfolding are_five
five_later bs a b =
    let e : a + b + 376 ≡ a + (b + 376) = omega arith in
    ap₂ (λ (x y : Bool). x && y) (step_later bs a b) (ap (λ (i : ℕ). is_in_step bs i) e ∙ step_later bs a (b + 376))

-- 2. More bytes come

both_ways : (x y : Bool) → (x ≡ true → y ≡ true) → (y ≡ true → x ≡ true) → x ≡ y
both_ways true true f g = refl
both_ways false false f g = refl
both_ways true false f g = sym (f refl)
both_ways false true f g = g refl

rest_is : (part next : List ℕ) → drop (length part - 752) (part ++ next) ≡ drop (length part - 752) part ++ next
rest_is part next = drop-append-le (length part - 752) part next (omega arith)

-- Five packets in a row in the last 752 bytes and the next bytes are in all of them.
in_all : (part next : List ℕ) → has_five (drop (length part - 752) part ++ next) ≡ true → has_five (part ++ next) ≡ true
in_all part next is =
    let k = length part - 752 in
    let p = place_of (length (drop k part ++ next)) (drop k part ++ next) is in
    let all : are_five (part ++ next) (k + p.at) ≡ true =
    five_later (part ++ next) k p.at ∙ ap (λ (r : List ℕ). are_five r p.at) (rest_is part next) ∙ p.is in
    place_in (length (part ++ next)) (part ++ next) (k + p.at) (omega (arith, five_inside (part ++ next) (k + p.at) all)) all

in_rest_by : (part next : List ℕ) (at : ℕ) → has_five part ≡ false → are_five (part ++ next) at ≡ true → (b : Bool) → nat_lt (at + 752) (length part) ≡ b →
    has_five (drop (length part - 752) part ++ next) ≡ true
in_rest_by part next at none is true t =
    let within : at + 752 < length part = search (arith, t) in
    let there : has_five part ≡ true = place_in (length part) part at (omega (arith, within)) (five_front part next at within ∙ is) in
    absurd (let no : false ≡ true = sym none ∙ there in cc)
in_rest_by part next at none is false t =
    let past : length part ≤ at + 752 = search (arith, t) in
    let k = length part - 752 in
    let place : k + (at - k) ≡ at = omega (arith, past) in
    let here : are_five (drop k part ++ next) (at - k) ≡ true =
    ap (λ (r : List ℕ). are_five r (at - k)) (sym (rest_is part next)) ∙ sym (five_later (part ++ next) k (at - k))
    ∙ ap (λ (i : ℕ). are_five (part ++ next) i) place ∙ is in
    place_in (length (drop k part ++ next)) (drop k part ++ next) (at - k) (omega (arith, five_inside (drop k part ++ next) (at - k) here)) here

in_rest : (part next : List ℕ) → has_five part ≡ false → has_five (part ++ next) ≡ true → has_five (drop (length part - 752) part ++ next) ≡ true
in_rest part next none is =
    let p = place_of (length (part ++ next)) (part ++ next) is in
    in_rest_by part next p.at none p.is (nat_lt (p.at + 752) (length part)) refl

five_more : (part next : List ℕ) → has_five part ≡ false → has_five (drop (length part - 752) part ++ next) ≡ has_five (part ++ next)
five_more part next none =
    both_ways (has_five (drop (length part - 752) part ++ next)) (has_five (part ++ next)) (in_all part next) (in_rest part next none)

still_five : (part next : List ℕ) → has_five part ≡ true → has_five (part ++ next) ≡ true
still_five part next is =
    let p = place_of (length part) part is in
    let inside = five_inside part p.at p.is in
    place_in (length (part ++ next)) (part ++ next) p.at (omega (arith, inside, length-append part next)) (sym (five_front part next p.at inside) ∙ p.is)

last_is : (part next : List ℕ) → drop (length (drop (length part - 752) part ++ next) - 752) (drop (length part - 752) part ++ next) ≡
    drop (length (part ++ next) - 752) (part ++ next)
last_is part next =
    let k = length part - 752 in
    let joined = drop k part ++ next in
    let size : length joined ≡ length (part ++ next) - k =
    omega (arith, length-append (drop k part) next, length-drop k part, length-append part next) in
    let place : k + (length joined - 752) ≡ length (part ++ next) - 752 = omega (arith, size, length-append part next) in
    ap (drop (length joined - 752)) (sym (rest_is part next)) ∙ drop-drop (length joined - 752) k (part ++ next)
    ∙ ap (λ (n : ℕ). drop n (part ++ next)) place

-- 3. A step of the search

pub found_before : (part next : List ℕ) (old new : FiveView) → old.found ≡ true → new.size ≡ old.size + length next → new.found ≡ old.found →
    IsSearchOf part old → IsSearchOf (part ++ next) new
found_before part next old new is_so more same s = record {
  size_is = more ∙ ap (λ (n : ℕ). n + length next) s.size_is ∙ sym (length-append part next);
  found_is = same ∙ is_so ∙ sym (still_five part next (sym s.found_is ∙ is_so));
  tail_is = λ e. absurd (let both : true ≡ false = sym (same ∙ is_so) ∙ e in cc);
}

pub searched_more : (part next joined : List ℕ) (old new : FiveView) → old.found ≡ false → new.size ≡ old.size + length next →
    joined ≡ drop (length part - 752) part ++ next → new.found ≡ has_five joined → new.tail ≡ drop (length joined - 752) joined →
    IsSearchOf part old → IsSearchOf (part ++ next) new
searched_more part next joined old new off more whole is end s =
    record {
      size_is = more ∙ ap (λ (n : ℕ). n + length next) s.size_is ∙ sym (length-append part next);
      found_is = is ∙ ap has_five whole ∙ five_more part next (sym s.found_is ∙ off);
      tail_is = λ e. end ∙ ap (λ (r : List ℕ). drop (length r - 752) r) whole ∙ last_is part next;
    }

-- The last 752 bytes, after as many new ones, are these.
last_are : (part front later : List ℕ) → length front ≡ 752 → front ++ later ≡ drop (length (part ++ front) - 752) (part ++ front) ++ later
last_are part front later size =
    let place : length part ≡ length (part ++ front) - 752 = omega (arith, size, length-append part front) in
    ap (λ (r : List ℕ). r ++ later) (sym (drop-append_seam part front) ∙ ap (λ (n : ℕ). drop n (part ++ front)) place)

pub in_place : (part next front later : List ℕ) → 752 < length next → front ≡ take 752 next → later ≡ drop 752 next →
    next ≡ drop (length (part ++ front) - 752) (part ++ front) ++ later
in_place part next front later long f l =
    let size : length front ≡ 752 = ap (length {A = ℕ}) f ∙ length-take-le 752 next (omega (arith, long)) in
    sym (ap₂ (λ (x y : List ℕ). x ++ y) f l ∙ take-append-drop 752 next) ∙ last_are part front later size

pub all_searched : (part next front later : List ℕ) (f : FiveView) → front ≡ take 752 next → later ≡ drop 752 next → IsSearchOf ((part ++ front) ++ later) f →
    IsSearchOf (part ++ next) f
all_searched part next front later f e l s =
    let both : front ++ later ≡ next = ap₂ (λ (x y : List ℕ). x ++ y) e l ∙ take-append-drop 752 next in
    subst (λ (r : List ℕ). IsSearchOf r f) (append_assoc part front later ∙ ap (λ (r : List ℕ). part ++ r) both) s

-- None in no place
pub none_yet : (bs : List ℕ) → five_within 0 bs ≡ false
unfolding five_within
none_yet bs = refl
