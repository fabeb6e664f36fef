-- The states of PIDs as the entries of a map.
use Rattle.std.proofs.Common.{◌≡◌, ℕ, true≢false, is_some, Bool, true, false, cond, nat_eq, [], ◌∷◌, Option, Some, None, refl, sym, ap, ◌∙◌}
use Rattle.std.specs.Prelude.{position, slice_get}
use Rattle.std.specs.Map.{keys_of, lookup, values_of}
use Rattle.indexmap.specs.IndexMap.{insert_entry, set_value_at}
use Rattle.pid_map.proofs.Entries.{found_there, set_same, set_there}
use Rattle.std.specs.Prelude.{OnOk, OnErr, Result, Ok, Err, ⊤}
use Rattle.pid_findings.specs.Machine.{PidState, fresh}
use Rattle.demux.specs.Stream.{States, state_of, with_state}

same_state : (y z : PidState) → ◌≡◌ {A = Option PidState} (Some y) (Some z) → y ≡ z
same_state y z e = cc

-- Setting the state of a PID is an insert into the map.
pub with_is_insert : (pid : ℕ) (state : PidState) (states : States) → with_state pid state states ≡ insert_entry nat_eq states pid state
with_is_insert pid state [] = refl
with_is_insert pid state (e ∷ states) =
    ap (λ (rest : States). cond (nat_eq pid e.0) ((e.0, state) ∷ states) (e ∷ rest)) (with_is_insert pid state states)

-- If the PID has an index, setting its state sets the value at this index.
pub with_is_set : (pid i : ℕ) (state : PidState) (states : States) → position (nat_eq pid) (keys_of states) ≡ Some i →
    with_state pid state states ≡ set_value_at states i state
with_is_set pid i state states p = with_is_insert pid state states ∙ set_there pid i states state p

-- The state in the map is the state of the PID.
found_by_test : (t : Bool) (x state other : PidState) (rest : Option PidState) → (rest ≡ Some state → other ≡ state) → cond t (Some x) rest ≡ Some state →
    cond t x other ≡ state
found_by_test true x state other rest k e = same_state x state e
found_by_test false x state other rest k e = k e

pub state_found : (pid : ℕ) (states : States) (state : PidState) → lookup (nat_eq pid) states ≡ Some state → state_of pid states ≡ state
state_found pid [] state e = absurd cc
state_found pid (x ∷ states) state e =
    found_by_test (nat_eq pid x.0) x.1 state (state_of pid states) (lookup (nat_eq pid) states) (state_found pid states state) e

-- A PID without an entry has a fresh state.
none_by_test : (t : Bool) (x other : PidState) (rest : Option PidState) → (rest ≡ None → other ≡ fresh) → cond t (Some x) rest ≡ None → cond t x other ≡ fresh
none_by_test true x other rest k e = absurd cc
none_by_test false x other rest k e = k e

pub state_new : (pid : ℕ) (states : States) → lookup (nat_eq pid) states ≡ None → state_of pid states ≡ fresh
state_new pid [] e = refl
state_new pid (x ∷ states) e =
    none_by_test (nat_eq pid x.0) x.1 (state_of pid states) (lookup (nat_eq pid) states) (state_new pid states) e

-- The value at the PID's index is the state of the PID.
pub state_at : (pid i : ℕ) (states : States) → position (nat_eq pid) (keys_of states) ≡ Some i → slice_get (values_of states) i ≡ lookup (nat_eq pid) states →
    slice_get (values_of states) i ≡ Some (state_of pid states)
state_at pid i states p v = v ∙ by (lookup (nat_eq pid) states) refl
  where
    by : (o : Option PidState) → lookup (nat_eq pid) states ≡ o → lookup (nat_eq pid) states ≡ Some (state_of pid states)
    by (Some state) e = e ∙ ap (λ (x : PidState). Some x) (sym (state_found pid states state e))
    by None e = absurd (true≢false (sym (found_there pid i states p) ∙ ap is_some e))

-- A step of the value at a PID's index is a step of the PID's state.
pub stepped : {E : Type 0} (result : Result ⊤ E) (pid i : ℕ) (old new states : States) (next : PidState) → old ≡ states →
    position (nat_eq pid) (keys_of old) ≡ Some i →
    OnOk result (new ≡ set_value_at old i next) → OnOk result (new ≡ with_state pid next states)
stepped (Ok x) pid i old new states next same p e = e ∙ sym (with_is_set pid i next old p) ∙ ap (λ (s : States). with_state pid next s) same
stepped (Err x) pid i old new states next same p e = tt

-- If the step fails, no state changes.
pub unstepped : {X E : Type 0} (result : Result X E) (i : ℕ) (old new states : States) (state : PidState) → old ≡ states →
    slice_get (values_of old) i ≡ Some state →
    OnErr result (new ≡ set_value_at old i state) → OnErr result (new ≡ states)
unstepped (Ok x) i old new states state same at e = tt
unstepped (Err x) i old new states state same at e = e ∙ set_same i old state at ∙ same

-- The same if a flag says whether the step was made.
pub went_on : (went : Bool) (pid i : ℕ) (old new states : States) (next : PidState) → old ≡ states → position (nat_eq pid) (keys_of old) ≡ Some i →
    (went ≡ true → new ≡ set_value_at old i next) → went ≡ true → new ≡ with_state pid next states
went_on went pid i old new states next same p e is = e is ∙ sym (with_is_set pid i next old p) ∙ ap (λ (s : States). with_state pid next s) same

pub stayed : (went : Bool) (i : ℕ) (old new states : States) (state : PidState) → old ≡ states → slice_get (values_of old) i ≡ Some state →
    (went ≡ false → new ≡ set_value_at old i state) → went ≡ false → new ≡ states
stayed went i old new states state same at e is = e is ∙ set_same i old state at ∙ same
