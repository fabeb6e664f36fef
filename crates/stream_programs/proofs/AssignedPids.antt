-- PIDs that are assigned one after another.
use Rattle.std.proofs.Common.{◌≡◌, ◌≤◌, ◌<◌, ℕ, ◌+◌, List, [], ◌∷◌, ◌++◌, length, drop, get_or, append_assoc, refl, add-one, None, Some}
use Rattle.std.proofs.Math.Seq.{drop-cons}
use Rattle.std.proofs.lemmas.List.{drop_all}
use Rattle.stream_programs.specs.FreePids.{least_free}
use Rattle.stream_programs.specs.PidAssignment.{assigned_map_pid, assigned_map_pids, with_pcr_pids}
use Rattle.stream_programs.specs.declared.pid_assignment.ProgramPids.{ProgramPids}

-- 1. The PIDs of maps

pub more_taken : (front given taken given_then taken_then : List ℕ) (pid : ℕ) → taken ≡ front ++ given → given_then ≡ given ++ pid ∷ [] →
    taken_then ≡ taken ++ pid ∷ [] → taken_then ≡ front ++ given_then
more_taken front given taken given_then taken_then pid is one other = rw (other, is, one) (append_assoc front given (pid ∷ []))

pub next_map : (streams maps given after : List ℕ) (i place : ℕ) → i < length maps →
    assigned_map_pid streams given (streams ++ maps ++ given) (get_or maps i 0) ≡ Some place →
    after ≡ given ++ place ∷ [] → assigned_map_pids streams maps given (drop i maps) ≡ assigned_map_pids streams maps after (drop (i + 1) maps)
unfolding assigned_map_pids
next_map streams maps given after i place below is made = rw (drop-cons maps i 0 below, is, made, add-one i) refl

pub no_map : (streams maps given : List ℕ) (i : ℕ) → i < length maps → assigned_map_pid streams given (streams ++ maps ++ given) (get_or maps i 0) ≡ None →
    assigned_map_pids streams maps given (drop i maps) ≡ None
unfolding assigned_map_pids
no_map streams maps given i below is = rw (drop-cons maps i 0 below, is) refl

pub all_maps : (streams maps given : List ℕ) (i : ℕ) → length maps ≤ i → assigned_map_pids streams maps given (drop i maps) ≡ Some given
unfolding assigned_map_pids
all_maps streams maps given i over = rw (drop_all i maps over) refl

-- 2. The PIDs of clocks

pub next_clock : (used used_then maps : List ℕ) (given given_then : List ProgramPids) (i clock : ℕ) → i < length maps → least_free 256 used ≡ Some clock →
    used_then ≡ used ++ clock ∷ [] → given_then ≡ given ++ record { map_pid = get_or maps i 0; pcr_pid = clock } ∷ [] →
    with_pcr_pids used given (drop i maps) ≡ with_pcr_pids used_then given_then (drop (i + 1) maps)
unfolding with_pcr_pids
next_clock used used_then maps given given_then i clock below is one other = rw (drop-cons maps i 0 below, is, one, other, add-one i) refl

pub no_clock : (used maps : List ℕ) (given : List ProgramPids) (i : ℕ) → i < length maps → least_free 256 used ≡ None →
    with_pcr_pids used given (drop i maps) ≡ None
unfolding with_pcr_pids
no_clock used maps given i below is = rw (drop-cons maps i 0 below, is) refl

pub all_clocks : (used maps : List ℕ) (given : List ProgramPids) (i : ℕ) → length maps ≤ i → with_pcr_pids used given (drop i maps) ≡ Some given
unfolding with_pcr_pids
all_clocks used maps given i over = rw (drop_all i maps over) refl
