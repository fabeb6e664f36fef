-- Lists of times, compared byte by byte
use Rattle.std.proofs.Common.{◌≡◌, ℕ, zero, suc, ◌+◌, ◌*◌, ◌≤◌, max, List, [], ◌∷◌, length, take, drop, refl, ap, sym, ◌∙◌, arith, All}
use Rattle.std.proofs.Math.Nat.{le_trans}
use Rattle.std.proofs.lemmas.List.Elements.{All-nil, All-cons, All-head, All-tail}
use Rattle.clock27.specs.Departure.{departures}
use Rattle.unit_timing.specs.Schedule.{Packet}
use Rattle.unit_timing.specs.Transport.{NoneLeavesEarly}
use Rattle.unit_timing.specs.VideoBuffers.{NoLater}

pub no_later-length : (ts us : List ℕ) → NoLater ts us → length ts ≡ length us
unfolding NoLater
no_later-length [] [] le = refl
no_later-length [] (u ∷ us) le = absurd le
no_later-length (t ∷ ts) [] le = absurd le
no_later-length (t ∷ ts) (u ∷ us) le = ap suc (no_later-length ts us le.1)

pub no_later-take : (k : ℕ) (ts us : List ℕ) → NoLater ts us → NoLater (take k ts) (take k us)
unfolding NoLater
no_later-take zero ts us le = tt
no_later-take (suc k) [] [] le = tt
no_later-take (suc k) [] (u ∷ us) le = absurd le
no_later-take (suc k) (t ∷ ts) [] le = absurd le
no_later-take (suc k) (t ∷ ts) (u ∷ us) le = (le.0, no_later-take k ts us le.1)

pub no_later-drop : (k : ℕ) (ts us : List ℕ) → NoLater ts us → NoLater (drop k ts) (drop k us)
unfolding NoLater
no_later-drop zero ts us le = le
no_later-drop (suc k) [] [] le = tt
no_later-drop (suc k) [] (u ∷ us) le = absurd le
no_later-drop (suc k) (t ∷ ts) [] le = absurd le
no_later-drop (suc k) (t ∷ ts) (u ∷ us) le = no_later-drop k ts us le.1

-- If no later time exceeds `limit`, no earlier time does.
pub no_later-below : (limit : ℕ) (ts us : List ℕ) → NoLater ts us → All (λ u. u ≤ limit) us → All (λ t. t ≤ limit) ts
unfolding NoLater
no_later-below limit [] [] le all = All-nil (λ t. t ≤ limit)
no_later-below limit [] (u ∷ us) le all = absurd le
no_later-below limit (t ∷ ts) [] le all = absurd le
no_later-below limit (t ∷ ts) (u ∷ us) le all =
    All-cons (λ t. t ≤ limit) t ts (le_trans le.0 (All-head (λ u. u ≤ limit) u us all)) (no_later-below limit ts us le.1 (All-tail (λ u. u ≤ limit) u us all))

-- If no earlier time is below `low`, no later time is.
no_later-above : (low : ℕ) (ts us : List ℕ) → NoLater ts us → All (λ t. low ≤ t) ts → All (λ u. low ≤ u) us
unfolding NoLater
no_later-above low [] [] le all = All-nil (λ u. low ≤ u)
no_later-above low [] (u ∷ us) le all = absurd le
no_later-above low (t ∷ ts) [] le all = absurd le
no_later-above low (t ∷ ts) (u ∷ us) le all =
    All-cons (λ u. low ≤ u) u us (le_trans (All-head (λ t. low ≤ t) t ts all) le.0) (no_later-above low ts us le.1 (All-tail (λ t. low ≤ t) t ts all))

-- Bytes leave a queue after they enter it.
pub departures_later : (step prev : ℕ) (ts : List ℕ) → NoLater ts (departures step prev ts)
unfolding NoLater departures
departures_later step prev [] = tt
departures_later step prev (t ∷ ts) = (omega arith, departures_later step (max t prev + step) ts)

-- If no byte leaves before its packet's slot begins, no byte does so at later times.
pub leaves_later : (r : ℕ) (packets : List Packet) (left later : List ℕ) → NoLater left later → NoneLeavesEarly r packets left → NoneLeavesEarly r packets later
unfolding NoneLeavesEarly
leaves_later r [] left later le none = nothing later (rw none at le)
  where
    nothing : (us : List ℕ) → NoLater [] us → us ≡ []
    nothing [] le = refl
    nothing (u ∷ us) le = let no : ⊥ = unfold NoLater in le in absurd no
leaves_later r (p ∷ packets) left later le early =
    let first = no_later-take p.size left later le in (
      sym (no_later-length (take p.size left) (take p.size later) first) ∙ early.0,
      no_later-above (188 * p.slot * r) (take p.size left) (take p.size later) first early.1,
      leaves_later r packets (drop p.size left) (drop p.size later) (no_later-drop p.size left later le) early.2,
    )
