-- The jumps ahead, one cut after another
use Rattle.std.proofs.Common.{◌≡◌, ◌++◌, Bool, true, false, List, [], ◌∷◌, length, refl}
use Rattle.joined_parts.specs.ClockGaps.{gaps_of}
use Rattle.joined_parts.specs.JumpsAhead.{ahead_after, with_ahead}
use Rattle.joined_parts.specs.declared.cuts.Cut.{Cut}
use Rattle.joined_parts.specs.declared.stamps.UnitStamp.{UnitStamp}

pub ahead_more : (stamps : List UnitStamp) (done next ahead more : List Cut) (c : Cut) (cs all : List Cut) → all ≡ c ∷ cs →
    next ≡ done ++ c ∷ [] → more ≡ with_ahead stamps done ahead c cs →
    ahead_after stamps done ahead all ≡ ahead_after stamps next more cs
unfolding ahead_after
ahead_more stamps done next ahead more c cs all first passed made = rw (first, passed, made) refl

pub ahead_end : (stamps : List UnitStamp) (done ahead : List Cut) (cs : List Cut) → length cs ≡ 0 → ahead_after stamps done ahead cs ≡ ahead
unfolding ahead_after
ahead_end stamps done ahead [] none = refl
ahead_end stamps done ahead (c ∷ cs) none = absurd cc

-- a recording without cuts has no gaps
pub no_gaps : (joined : Bool) (stamps : List UnitStamp) (cuts : List Cut) → length cuts ≡ 0 → gaps_of joined stamps cuts ≡ []
unfolding ahead_after
no_gaps true stamps [] none = refl
no_gaps false stamps [] none = refl
no_gaps joined stamps (c ∷ cs) none = absurd cc
