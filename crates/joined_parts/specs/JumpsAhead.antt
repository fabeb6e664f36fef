-- Where a clock jumps ahead, and the stamps of its units with it (ISO/IEC 13818-1, 2.4.3.5): hours for which nothing is sent.
use Rattle.std.specs.Prelude.{ℕ, ◌^◌, ◌==◌, ◌&&◌, nat_le, nat_lt, Bool, if◌then◌else◌, Option, Some, None, List, [], ◌∷◌, ◌++◌, fold}
use Rattle.std.specs.List.{list_any}
use Rattle.es_moments.specs.Stamps.{distance}
use Rattle.joined_parts.specs.Joins.{is_between, nearest, next_cut}
use Rattle.joined_parts.specs.declared.cuts.Cut.{Cut}
use Rattle.joined_parts.specs.declared.stamps.UnitStamp.{UnitStamp}

-- a clock that jumps by less than half the range of stamps jumps ahead; any other jump is a fall
abbrev pub is_forward : Cut → Bool
is_forward cut = nat_lt (distance cut.before cut.base) (2 ^ 32)

-- a unit of the part between two cuts has a DTS at most 10 s after a clock reference
abbrev pub is_near : ℕ → Option Cut → Option Cut → ℕ → UnitStamp → Bool
is_near pid from to base s = is_between pid from to s && nat_le (distance base s.dts) nearest

abbrev pub any_near : ℕ → Option Cut → Option Cut → ℕ → List UnitStamp → Bool
any_near pid from to base stamps = list_any (is_near pid from to base) stamps

-- the clock jumps ahead, and units on both sides of the cut have stamps by it: a single wrong reference is no jump
abbrev pub is_ahead : List UnitStamp → Option Cut → Cut → Option Cut → Bool
is_ahead stamps before cut next =
    is_forward cut && (any_near cut.pid before (Some cut) cut.before stamps && any_near cut.pid (Some cut) next cut.base stamps)

-- the last cut of a clock
abbrev pub later_cut : ℕ → Option Cut → Cut → Option Cut
later_cut pid before cut = if cut.pid == pid then Some cut else before

abbrev pub last_cut : ℕ → List Cut → Option Cut
last_cut pid cuts = fold (later_cut pid) None cuts

-- the jumps, with a cut after these cuts and before others
abbrev pub with_ahead : List UnitStamp → List Cut → List Cut → Cut → List Cut → List Cut
with_ahead stamps done ahead cut cuts =
    if is_ahead stamps (last_cut cut.pid done) cut (next_cut cut.pid cuts) then ahead ++ cut ∷ [] else ahead

unfoldable pub ahead_after : List UnitStamp → List Cut → List Cut → List Cut → List Cut
ahead_after stamps done ahead [] = ahead
ahead_after stamps done ahead (c ∷ cs) = ahead_after stamps (done ++ c ∷ []) (with_ahead stamps done ahead c cs) cs

abbrev pub cuts_ahead : List UnitStamp → List Cut → List Cut
cuts_ahead stamps cuts = ahead_after stamps [] [] cuts
