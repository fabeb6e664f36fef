-- The table of PIDs, one after another.
use Rattle.std.proofs.Common.{◌≡◌, ◌≢◌, ◌∙◌, sym, ◌<◌, ℕ, ◌==◌, ◌||◌, Bool, true, false, List, [], ◌∷◌, ◌++◌, length, get_or, set, replicate, refl, arith}
use Rattle.std.proofs.Common.{get_or-set_other}
use Rattle.std.proofs.Math.Bool.{or-false, or-true}
use Rattle.std.proofs.lemmas.Bool.Decides.{nat_tests}
use Rattle.std.proofs.lemmas.Grind.{get_or-set_at}
use Rattle.std.proofs.lemmas.List.{get_or-replicate}
use Rattle.std.proofs.lemmas.List.Folds.{list_any-append}
use Rattle.stream_programs.specs.FreePids.{is_taken}
use Rattle.stream_programs.specs.PidLists.{MarksTaken}

pub marks_none : MarksTaken (replicate 65536 false) []
unfolding MarksTaken is_taken
marks_none = λ pid below. get_or-replicate 65536 pid false false below

-- Whether a PID is in two joined lists.
pub taken_both : (pid : ℕ) (one other : List ℕ) → is_taken pid (one ++ other) ≡ (is_taken pid one || is_taken pid other)
unfolding is_taken
taken_both pid one other = list_any-append (λ (p : ℕ). p == pid) one other

-- Whether a PID is taken after one more PID is taken.
taken_after : (pid : ℕ) (taken : List ℕ) (p : ℕ) → is_taken pid (taken ++ p ∷ []) ≡ (is_taken pid taken || ((p == pid) || false))
unfolding is_taken
taken_after pid taken p = list_any-append (λ (q : ℕ). q == pid) taken (p ∷ [])

marks_at : (table : List Bool) (taken : List ℕ) (p pid : ℕ) (same : Bool) → (p == pid) ≡ same → p < length table →
    get_or table pid false ≡ is_taken pid taken →
    get_or (set table p true) pid false ≡ is_taken pid (taken ++ p ∷ [])
marks_at table taken p pid true e below marks =
    let at : pid ≡ p = grind (arith, nat_tests) in
    get_or-set_at table p pid true false at below ∙ sym (taken_after pid taken p ∙ rw e (or-true (is_taken pid taken)))
marks_at table taken p pid false e below marks =
    let other : pid ≢ p = grind (arith, nat_tests) in
    get_or-set_other table p pid true false other ∙ marks ∙ sym (taken_after pid taken p ∙ rw e (or-false (is_taken pid taken)))

pub marks_after : (table : List Bool) (taken : List ℕ) (p : ℕ) → p < length table → MarksTaken table taken → MarksTaken (set table p true) (taken ++ p ∷ [])
unfolding MarksTaken
marks_after table taken p below marks = λ pid under. marks_at table taken p pid (p == pid) refl below (marks pid under)

pub marks_one : (table : List Bool) (taken : List ℕ) (pid : ℕ) → pid < 65536 → MarksTaken table taken → get_or table pid false ≡ is_taken pid taken
unfolding MarksTaken
marks_one table taken pid under marks = marks pid under
