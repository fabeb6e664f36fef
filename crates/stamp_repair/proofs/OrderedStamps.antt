-- Stamps in order: none is found
use Rattle.std.proofs.Common.{◌≡◌, ◌∙◌, ℕ, ◌&&◌, ◌||◌, ◌++◌, Bool, true, false, cond, not, Option, Some, None, List, [], ◌∷◌, filter}
use Rattle.std.proofs.Common.{refl, sym, ap, ap₂}
use Rattle.std.proofs.lemmas.Bool.{and_parts}
use Rattle.std.specs.List.{cons_option, list_any}
use Rattle.stamp_repair.specs.LoneLaws.{OrderedStays, are_in_order, are_in_order_after, is_in_order, stamps_on}
use Rattle.stamp_repair.specs.LoneStamps.{all_lone, falls_by, is_damage, is_last_lone, is_lone, is_on, lone_at, lone_damaged, lone_in, next_last, no_stamps}
use Rattle.stamp_repair.specs.declared.pes_stamps.PesStamp.{PesStamp}
use Rattle.stamp_repair.specs.declared.search.LastStamps.{LastStamps}
use Rattle.stamp_repair.specs.declared.search.LonePes.{LonePes}
use Rattle.stamp_repair.proofs.DamagedFindings.{unfound_stay}
use Rattle.stamp_repair.proofs.FoundStamps.{last_two}
use Rattle.stamp_repair.proofs.PidSearch.{lone_after, pid_search}

-- 1. Stamps in order are not alone out of order

not_alone : (f1 f2 g1 g2 h1 h2 : Bool) → (not f1 && not f2) ≡ true → (not g1 && not g2) ≡ true →
    (((f1 || g1) && not h1) || ((f2 || g2) && not h2)) ≡ false
not_alone true f2 g1 g2 h1 h2 a b = absurd cc
not_alone false true g1 g2 h1 h2 a b = absurd cc
not_alone false false true g2 h1 h2 a b = absurd cc
not_alone false false false true h1 h2 a b = absurd cc
not_alone false false false false h1 h2 a b = refl

not_lone : (before last next : PesStamp) → is_in_order before last ≡ true → is_in_order last next ≡ true → is_lone before last next ≡ false
not_lone before last next a b =
    not_alone (falls_by 90_000 before.dts last.dts) (falls_by 900_000 before.pts last.pts) (falls_by 90_000 last.dts next.dts)
    (falls_by 900_000 last.pts next.pts) (falls_by 90_000 before.dts next.dts) (falls_by 900_000 before.pts next.pts) a b

-- the stamp before the last one, if there is one, is in order
in_order_if : Option PesStamp → PesStamp → Bool
in_order_if None last = true
in_order_if (Some before) last = is_in_order before last

last_in_order : (before : Option PesStamp) (last next : PesStamp) → in_order_if before last ≡ true → is_in_order last next ≡ true →
    is_last_lone before last next ≡ false
unfolding in_order_if is_last_lone
last_in_order None last next a b = refl
last_in_order (Some before) last next a b = not_lone before last next a b

-- 2. None is found

none_at : (pid : ℕ) (before : Option PesStamp) (last next : PesStamp) → is_last_lone before last next ≡ false →
    lone_at pid (Some (last_two before last)) next ≡ None
unfolding lone_at
none_at pid before last next none = rw none refl

steady : (before : Option PesStamp) (last next : PesStamp) → is_last_lone before last next ≡ false →
    next_last (Some (last_two before last)) next ≡ last_two (Some last) next
unfolding next_last
steady before last next none = rw none refl

none_after : (pid : ℕ) (before : Option PesStamp) (last : PesStamp) (ss : List PesStamp) → in_order_if before last ≡ true →
    are_in_order_after last ss ≡ true → lone_after pid (Some (last_two before last)) ss ≡ []
unfolding are_in_order_after in_order_if
none_after pid before last [] here order = refl
none_after pid before last (s ∷ ss) here order =
    let both = and_parts (is_in_order last s) (are_in_order_after s ss) order in
    let none : is_last_lone before last s ≡ false = last_in_order before last s here both.0 in
    ap₂ (λ (o : Option LonePes) (l : LastStamps). cons_option o (lone_after pid (Some l) ss)) (none_at pid before last s none) (steady before last s none)
    ∙ none_after pid (Some last) s ss both.0 both.1

none_in : (pid : ℕ) (ss : List PesStamp) → are_in_order ss ≡ true → lone_after pid None ss ≡ []
unfolding are_in_order lone_at next_last in_order_if
none_in pid [] order = refl
none_in pid (s ∷ ss) order = none_after pid None s ss refl order

-- 3. The findings of the PID stay

no_front : (a b : List LonePes) → a ++ b ≡ [] → a ≡ []
no_front [] b none = refl
no_front (l ∷ a) b none = absurd cc

none_kept : (p q : LonePes → Bool) (ls : List LonePes) → filter p ls ≡ [] → list_any p (filter q ls) ≡ false
none_kept p q [] none = refl
none_kept p q (l ∷ ls) none = by (p l) (q l) refl none (none_kept p q ls)
  where
    by : (b c : Bool) → p l ≡ b → cond b (l ∷ filter p ls) (filter p ls) ≡ [] → (filter p ls ≡ [] → list_any p (filter q ls) ≡ false) →
        list_any p (cond c (l ∷ filter q ls) (filter q ls)) ≡ false
    by true c is none rest = absurd cc
    by false true is none rest = ap (λ (b : Bool). b || list_any p (filter q ls)) is ∙ rest none
    by false false is none rest = rest none

pub ordered : OrderedStays
unfolding lone_damaged
ordered falling findings pid order =
    let x = pid_search pid no_stamps findings in
    let found : x.found ≡ [] = no_front x.found x.rest (sym x.split ∙ none_in pid (stamps_on pid findings) order) in
    let none : filter (is_on pid) (all_lone findings) ≡ [] = x.kept ∙ found in
    unfound_stay (lone_in falling findings) pid findings (none_kept (is_on pid) (is_damage falling (all_lone findings)) (all_lone findings) none)
