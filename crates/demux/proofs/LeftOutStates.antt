-- The states of PIDs; the first states have no bodies.
use Rattle.std.proofs.Common.{◌≡◌, ℕ, zero, suc, ◌<◌, ◌≤◌, [], ◌∷◌, ◌++◌, length, take, drop, slice_get, Option, Some, inl, inr, refl, sym, ap, ap₂, ◌∙◌, arith}
use Rattle.std.specs.Map.{values_of}
use Rattle.std.proofs.lemmas.List.{drop_all, append-nil, take_all}
use Rattle.std.proofs.lemmas.Option.{slice_get_cases}
use Rattle.indexmap.specs.IndexMap.{set_value_at}
use Rattle.pid_findings.specs.Machine.{PidState}
use Rattle.demux.specs.Stream.{States}
use Rattle.pid_findings.specs.Bodies.{state_without_body}
use Rattle.demux.specs.StreamBodies.{states_without_bodies}

-- The states, with the first i without bodies
abbrev pub first_left_out : ℕ → States → States
first_left_out i states = states_without_bodies (take i states) ++ drop i states

same_state : (y z : PidState) → ◌≡◌ {A = Option PidState} (Some y) (Some z) → y ≡ z
same_state y z e = cc

pub first_length : (i : ℕ) (states : States) → length (first_left_out i states) ≡ length states
first_length i [] = by i
  where
    by : (n : ℕ) → length (first_left_out n []) ≡ 0
    by zero = refl
    by (suc n) = refl
first_length zero (x ∷ states) = refl
first_length (suc i) (x ∷ states) = ap suc (first_length i states)

length_values : (states : States) → length (values_of states) ≡ length states
length_values [] = refl
length_values (x ∷ states) = ap suc (length_values states)

-- The next state without its body
next_by : (i : ℕ) (states : States) (state : PidState) → slice_get (values_of (first_left_out i states)) i ≡ Some state →
    set_value_at (first_left_out i states) i (state_without_body state) ≡ first_left_out (suc i) states
next_by zero [] state e = absurd cc
next_by (suc i) [] state e = absurd cc
next_by zero (x ∷ states) state e = ap (λ (s : PidState). (x.0, state_without_body s) ∷ states) (sym (same_state x.1 state e))
next_by (suc i) (x ∷ states) state e = ap (λ (rest : States). (x.0, state_without_body x.1) ∷ rest) (next_by i states state e)

pub next_left_out : (i : ℕ) (states old new : States) → old ≡ first_left_out i states → i < length states →
    ((state : PidState) → slice_get (values_of old) i ≡ Some state → new ≡ set_value_at old i (state_without_body state)) →
    new ≡ first_left_out (suc i) states
next_left_out i states old new e less set = elim (slice_get_cases (values_of old) i).1 [
  | inl found ↦ set found.0 found.2 ∙ ap (λ (xs : States). set_value_at xs i (state_without_body found.0)) e
      ∙ next_by i states found.0 (ap (λ (xs : States). slice_get (values_of xs) i) (sym e) ∙ found.2)
  | inr past ↦ absurd (omega (arith, past.0, less, ap length e, first_length i states, length_values old))
]

pub all_left_out : (i : ℕ) (states new : States) → length states ≤ i → new ≡ first_left_out i states → new ≡ states_without_bodies states
all_left_out i states new past e =
    e ∙ ap₂ (λ (xs ys : States). states_without_bodies xs ++ ys) (take_all i states past) (drop_all i states past) ∙ append-nil (states_without_bodies states)
