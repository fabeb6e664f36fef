-- If no fault is reported, no encoder restarts.
use Rattle.std.proofs.Common.{◌≡◌, ℕ, ◌++◌, ◌||◌, Bool, true, false, Option, Some, None, Ok, Err, List, [], ◌∷◌, refl}
use Rattle.std.specs.Option.{option_to_list}
use Rattle.es_feed.specs.EachStream.{has_fault, have_fault, units_fed, fed_if}
use Rattle.fed_streams.specs.Feeding.{Fed, falls, is_fallen, restart_fed, seen_of}
use Rattle.fed_streams.specs.Restarts.{restart_of}
use Rattle.fed_streams.specs.declared.feed_fault.Restart.{Restart}

-- 1. No fault is reported

fault_head : (x : Bool) (all xs ys : Bool) → (x || all) ≡ false → (all ≡ false → (xs ≡ false) × (ys ≡ false)) → ((x || xs) ≡ false) × (ys ≡ false)
fault_head true all xs ys none rest = absurd cc
fault_head false all xs ys none rest = rest none

pub fault_split : (xs ys : List Fed) → have_fault (xs ++ ys) ≡ false → (have_fault xs ≡ false) × (have_fault ys ≡ false)
fault_split [] ys none = (refl, none)
fault_split (x ∷ xs) ys none = fault_head (has_fault x) (have_fault (xs ++ ys)) (have_fault xs) (have_fault ys) none (λ e. fault_split xs ys e)

pub not_restarted : (r : Option Restart) → have_fault (option_to_list (restart_fed r)) ≡ false → r ≡ None
unfolding restart_fed has_fault
not_restarted None none = refl
not_restarted (Some restart) none = absurd cc

-- 2. A unit that has a moment

pub no_fall : (x : Option Fed) → have_fault (option_to_list x) ≡ false → is_fallen x ≡ false
unfolding has_fault falls is_fallen
no_fall None none = refl
no_fall (Some (n, Ok u)) none = refl
no_fall (Some (n, Err fault)) none = absurd cc

pub no_restart : (moment : ℕ) (fallen : Option ℕ) (start : Option (ℕ × ℕ)) (x : Option Fed) → is_fallen x ≡ false →
    restart_of moment fallen (seen_of None start x) ≡ None
unfolding restart_of seen_of
no_restart moment fallen None x none = refl
no_restart moment fallen (Some (packet, stamp)) x none = rw none refl

-- 3. The report of a restart is no unit

pub reported_restart : (r : Option Restart) (n : ℕ) → units_fed n (option_to_list (restart_fed r)) ≡ []
unfolding restart_fed fed_if
reported_restart None n = refl
reported_restart (Some restart) n = refl
