-- What bytes do to an excess if all find room, or if none finds room
use Rattle.std.proofs.Common.{◌≡◌, ◌∙◌, sym, ℕ, zero, suc, ◌+◌, ◌/◌, max, true, false, List, [], ◌∷◌, ◌++◌, Option, Some, None, if◌then◌else◌, refl, ap, arith}
use Rattle.std.proofs.Common.{append_assoc}
use Rattle.std.proofs.lemmas.List.{append-nil}
use Rattle.std.specs.Option.{option_to_list}
use Rattle.clock27.specs.Departure.{last_left}
use Rattle.clock27.specs.Peak.{found, most_found}
use Rattle.arrival.specs.Rows.{times_in_row}
use Rattle.tstd_rows.specs.declared.excess.Excess.{Excess}
use Rattle.tstd_rows.specs.Excesses.{is_over, room_again, grown, after_byte, excess_after, excesses_ended, AreOver}

pub after-append : (step size prev : ℕ) (under_way : Option Excess) (ts us : List ℕ) →
    excess_after step size prev under_way (ts ++ us) ≡ excess_after step size (last_left step prev ts) (excess_after step size prev under_way ts) us
unfolding excess_after last_left
after-append step size prev under_way [] us = refl
after-append step size prev under_way (t ∷ ts) us = after-append step size (max t prev + step) (after_byte step size prev under_way t) ts us

pub ended-append : (step size prev : ℕ) (under_way : Option Excess) (ts us : List ℕ) →
    excesses_ended step size prev under_way (ts ++ us)
    ≡ excesses_ended step size prev under_way ts ++ excesses_ended step size (last_left step prev ts) (excess_after step size prev under_way ts) us
unfolding excesses_ended excess_after last_left
ended-append step size prev under_way [] us = refl
ended-append step size prev under_way (t ∷ ts) us =
    let first : List Excess = if is_over step size prev t then [] else option_to_list under_way in
    ap (λ (es : List Excess). first ++ es) (ended-append step size (max t prev + step) (after_byte step size prev under_way t) ts us)
    ∙ sym (append_assoc first _ _)

-- If there is no current excess, bytes that find room change nothing.
none_after : (step size prev : ℕ) (ts : List ℕ) → AreOver false step size prev ts → excess_after step size prev None ts ≡ None
unfolding excess_after AreOver
none_after step size prev [] room = refl
none_after step size prev (t ∷ ts) room = rw room.0 (none_after step size (max t prev + step) ts room.1)

none_ended : (step size prev : ℕ) (ts : List ℕ) → AreOver false step size prev ts → excesses_ended step size prev None ts ≡ []
unfolding excesses_ended AreOver
none_ended step size prev [] room = refl
none_ended step size prev (t ∷ ts) room = rw room.0 (none_ended step size (max t prev + step) ts room.1)

-- The first byte that finds room ends the current excess.
pub room_after : (step size prev : ℕ) (under_way : Option Excess) (t : ℕ) (ts : List ℕ) → AreOver false step size prev (t ∷ ts) →
    excess_after step size prev under_way (t ∷ ts) ≡ None
unfolding excess_after AreOver
room_after step size prev under_way t ts room = rw room.0 (none_after step size (max t prev + step) ts room.1)

pub room_ended : (step size prev : ℕ) (under_way : Option Excess) (t : ℕ) (ts : List ℕ) → AreOver false step size prev (t ∷ ts) →
    excesses_ended step size prev under_way (t ∷ ts) ≡ option_to_list under_way
unfolding excesses_ended AreOver
room_ended step size prev under_way t ts room =
    rw (room.0, none_ended step size (max t prev + step) ts room.1) (append-nil (option_to_list under_way))

-- Bytes that find no room end no excess.
pub over_ended : (step size prev : ℕ) (under_way : Option Excess) (ts : List ℕ) → AreOver true step size prev ts →
    excesses_ended step size prev under_way ts ≡ []
unfolding excesses_ended AreOver
over_ended step size prev under_way [] over = refl
over_ended step size prev under_way (t ∷ ts) over =
    rw over.0 (over_ended step size (max t prev + step) (Some (grown step size prev under_way t)) ts over.1)

-- Bytes that find no room increase the current excess.
grows : (step size prev begin peak : ℕ) (ts : List ℕ) → AreOver true step size prev ts →
    excess_after step size prev (Some (record { begin = begin; end = room_again step size prev; peak = peak })) ts
    ≡ Some (record { begin = begin; end = room_again step size (last_left step prev ts); peak = max peak (most_found step prev ts) })
unfolding excess_after AreOver last_left most_found grown
grows step size prev begin peak [] over = let e : max peak 0 ≡ peak = omega arith in rw e refl
grows step size prev begin peak (t ∷ ts) over =
    let m : max (max peak (found step prev t)) (most_found step (max t prev + step) ts) ≡ max peak
    (max (found step prev t) (most_found step (max t prev + step) ts)) = omega arith in
    rw over.0 (grows step size (max t prev + step) begin (max peak (found step prev t)) ts over.1
    ∙ ap (λ (n : ℕ). Some (record { begin = begin; end = room_again step size (last_left step (max t prev + step) ts); peak = n })) m)

pub begins_with : (step size prev t : ℕ) (ts : List ℕ) → AreOver true step size prev (t ∷ ts) →
    excess_after step size prev None (t ∷ ts)
    ≡ Some (record { begin = t; end = room_again step size (last_left step prev (t ∷ ts)); peak = most_found step prev (t ∷ ts) })
unfolding excess_after AreOver last_left most_found grown
begins_with step size prev t ts over = rw over.0 (grows step size (max t prev + step) t (found step prev t) ts over.1)

pub grows_with : (step size prev : ℕ) (e : Excess) (t : ℕ) (ts : List ℕ) → AreOver true step size prev (t ∷ ts) →
    excess_after step size prev (Some e) (t ∷ ts)
    ≡ Some (record { begin = e.begin; end = room_again step size (last_left step prev (t ∷ ts)); peak = max e.peak (most_found step prev (t ∷ ts)) })
unfolding excess_after AreOver last_left most_found grown
grows_with step size prev e t ts over =
    let m : max (max e.peak (found step prev t)) (most_found step (max t prev + step) ts) ≡ max e.peak
    (max (found step prev t) (most_found step (max t prev + step) ts)) = omega arith in
    rw over.0 (grows step size (max t prev + step) e.begin (max e.peak (found step prev t)) ts over.1
    ∙ ap (λ (n : ℕ). Some (record { begin = e.begin; end = room_again step size (last_left step (max t prev + step) ts); peak = n })) m)

-- A row without bytes changes no excess, a row with room ends the excess, and a row without room begins or increases an excess.
pub no_row_after : (step size prev : ℕ) (under_way : Option Excess) (from pace parts n : ℕ) → n ≡ 0 →
    under_way ≡ excess_after step size prev under_way (times_in_row from pace parts n)
unfolding times_in_row excess_after
no_row_after step size prev under_way from pace parts n e = rw e refl

pub no_row_ended : (step size prev : ℕ) (under_way : Option Excess) (from pace parts n : ℕ) → n ≡ 0 →
    excesses_ended step size prev under_way (times_in_row from pace parts n) ≡ []
unfolding times_in_row excesses_ended
no_row_ended step size prev under_way from pace parts n e = rw e refl

pub room_row_after : (step size prev : ℕ) (under_way : Option Excess) (from pace parts n : ℕ) → (n ≡ 0 → ⊥) →
    AreOver false step size prev (times_in_row from pace parts n) →
    excess_after step size prev under_way (times_in_row from pace parts n) ≡ None
unfolding times_in_row
room_row_after step size prev under_way from pace parts zero some room = absurd (some refl)
room_row_after step size prev under_way from pace parts (suc n) some room =
    room_after step size prev under_way (from / parts) (times_in_row (from + pace) pace parts n) room

pub room_row_ended : (step size prev : ℕ) (under_way : Option Excess) (from pace parts n : ℕ) → (n ≡ 0 → ⊥) →
    AreOver false step size prev (times_in_row from pace parts n) →
    excesses_ended step size prev under_way (times_in_row from pace parts n) ≡ option_to_list under_way
unfolding times_in_row
room_row_ended step size prev under_way from pace parts zero some room = absurd (some refl)
room_row_ended step size prev under_way from pace parts (suc n) some room =
    room_ended step size prev under_way (from / parts) (times_in_row (from + pace) pace parts n) room

pub row_begins : (step size prev from pace parts n : ℕ) → (n ≡ 0 → ⊥) → AreOver true step size prev (times_in_row from pace parts n) →
    excess_after step size prev None (times_in_row from pace parts n)
    ≡ Some (record {
      begin = from / parts;
      end = room_again step size (last_left step prev (times_in_row from pace parts n));
      peak =
          most_found step prev (times_in_row from pace parts n);
    })
unfolding times_in_row
row_begins step size prev from pace parts zero some over = absurd (some refl)
row_begins step size prev from pace parts (suc n) some over = begins_with step size prev (from / parts) (times_in_row (from + pace) pace parts n) over

pub row_grows : (step size prev : ℕ) (e : Excess) (from pace parts n : ℕ) → (n ≡ 0 → ⊥) → AreOver true step size prev (times_in_row from pace parts n) →
    excess_after step size prev (Some e) (times_in_row from pace parts n)
    ≡ Some (record {
      begin = e.begin;
      end = room_again step size (last_left step prev (times_in_row from pace parts n));
      peak =
          max e.peak (most_found step prev (times_in_row from pace parts n));
    })
unfolding times_in_row
row_grows step size prev e from pace parts zero some over = absurd (some refl)
row_grows step size prev e from pace parts (suc n) some over = grows_with step size prev e (from / parts) (times_in_row (from + pace) pace parts n) over

-- The excess after two lists of bytes is the excess after both as one list.
pub in_two_after : (step size prev last : ℕ) (under_way between : Option Excess) (ts us all : List ℕ) → ts ++ us ≡ all → last ≡ last_left step prev ts →
    between ≡ excess_after step size prev under_way ts → excess_after step size last between us ≡ excess_after step size prev under_way all
in_two_after step size prev last under_way between ts us all e l b = rw (sym e, l, b) (sym (after-append step size prev under_way ts us))

pub in_two_ended : (step size prev last : ℕ) (under_way between : Option Excess) (ts us all : List ℕ) → ts ++ us ≡ all → last ≡ last_left step prev ts →
    between ≡ excess_after step size prev under_way ts →
    excesses_ended step size prev under_way ts ++ excesses_ended step size last between us ≡ excesses_ended step size prev under_way all
in_two_ended step size prev last under_way between ts us all e l b = rw (sym e, l, b) (sym (ended-append step size prev under_way ts us))

-- If the second list of bytes ends no excess, the first list ends all.
pub first_ended : (es es' all : List Excess) → es ++ es' ≡ all → es' ≡ [] → es ≡ all
first_ended es es' all e none = sym (append-nil es) ∙ rw none at e

pub second_ended : (es es' all : List Excess) → es ++ es' ≡ all → es ≡ [] → es' ≡ all
second_ended es es' all e none = rw none at e
