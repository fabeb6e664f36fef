-- The states of PIDs; the first states have bodies only on the kept PIDs.
use Rattle.std.proofs.Common.{◌≡◌, ℕ, zero, suc, ◌<◌, ◌≤◌, Bool, true, false, List, [], ◌∷◌, ◌++◌, length, take, drop, slice_get, Option, Some, inl, inr, refl}
use Rattle.std.proofs.Common.{sym, ap, ap₂, ◌∙◌, arith}
use Rattle.std.specs.Map.{values_of}
use Rattle.std.proofs.lemmas.List.{drop_all, append-nil, take_all}
use Rattle.std.proofs.lemmas.Option.{slice_get_cases}
use Rattle.indexmap.specs.IndexMap.{set_value_at}
use Rattle.pid_map.proofs.Entries.{set_same}
use Rattle.pid_findings.specs.Machine.{PidState}
use Rattle.demux.specs.Stream.{States}
use Rattle.demux.specs.KeptBodies.{is_kept, state_if, states_but}

-- The states, with the first i without bodies of other PIDs
abbrev pub first_but : List ℕ → ℕ → States → States
first_but kept i states = states_but kept (take i states) ++ drop i states

same_entry : (x y : ℕ × PidState) → ◌≡◌ {A = Option (ℕ × PidState)} (Some x) (Some y) → x ≡ y
same_entry x y e = cc

pub first_length : (kept : List ℕ) (i : ℕ) (states : States) → length (first_but kept i states) ≡ length states
first_length kept i [] = by i
  where
    by : (n : ℕ) → length (first_but kept n []) ≡ 0
    by zero = refl
    by (suc n) = refl
first_length kept zero (x ∷ states) = refl
first_length kept (suc i) (x ∷ states) = ap suc (first_length kept i states)

-- The next state without its body, unless its PID is kept
next_by : (kept : List ℕ) (i : ℕ) (states : States) (entry : ℕ × PidState) → slice_get (first_but kept i states) i ≡ Some entry →
    set_value_at (first_but kept i states) i (state_if (is_kept kept entry.0) entry.1) ≡ first_but kept (suc i) states
next_by kept zero [] entry e = absurd cc
next_by kept (suc i) [] entry e = absurd cc
next_by kept zero (x ∷ states) entry e =
    ap (λ (y : ℕ × PidState). (x.0, state_if (is_kept kept y.0) y.1) ∷ states) (sym (same_entry x entry e))
next_by kept (suc i) (x ∷ states) entry e =
    ap (λ (rest : States). (x.0, state_if (is_kept kept x.0) x.1) ∷ rest) (next_by kept i states entry e)

pub next_but : (kept : List ℕ) (i : ℕ) (states old new : States) → old ≡ first_but kept i states → i < length states →
    ((entry : ℕ × PidState) → slice_get old i ≡ Some entry → new ≡ set_value_at old i (state_if (is_kept kept entry.0) entry.1)) →
    new ≡ first_but kept (suc i) states
next_but kept i states old new e less set = elim (slice_get_cases old i).1 [
  | inl found ↦ set found.0 found.2 ∙ ap (λ (xs : States). set_value_at xs i (state_if (is_kept kept found.0.0) found.0.1)) e
      ∙ next_by kept i states found.0 (ap (λ (xs : States). slice_get xs i) (sym e) ∙ found.2)
  | inr past ↦ absurd (omega (arith, past.0, less, ap length e, first_length kept i states))
]

pub all_but_these : (kept : List ℕ) (i : ℕ) (states new : States) → length states ≤ i → new ≡ first_but kept i states → new ≡ states_but kept states
all_but_these kept i states new past e =
    e ∙ ap₂ (λ (xs ys : States). states_but kept xs ++ ys) (take_all i states past) (drop_all i states past) ∙ append-nil (states_but kept states)

-- The value of one entry
pub value_at : (states : States) (i : ℕ) (entry : ℕ × PidState) → slice_get states i ≡ Some entry → slice_get (values_of states) i ≡ Some entry.1
value_at [] i entry e = absurd cc
value_at (x ∷ states) zero entry e = ap (λ (y : ℕ × PidState). Some y.1) (same_entry x entry e)
value_at (x ∷ states) (suc i) entry e = value_at states i entry e

pub is_there : (b : Bool) (old : States) (i : ℕ) (entry : ℕ × PidState) → b ≡ true → slice_get old i ≡ Some entry →
    old ≡ set_value_at old i (state_if b entry.1)
is_there true old i entry is at = sym (set_same i old entry.1 (value_at old i entry at))
is_there false old i entry is at = absurd cc
