-- Why no stream is carried, warning by warning
use Rattle.std.proofs.Common.{◌≡◌, ◌≤◌, ◌<◌, ℕ, ◌+◌, List, length, drop, slice_index_or, Some, None, refl, add-one}
use Rattle.std.proofs.Math.Seq.{drop-cons}
use Rattle.std.proofs.lemmas.List.{drop_all}
use Rattle.job_programs.specs.declared.refusal.JobRefusal.{JobRefusal}
use Rattle.job_programs.specs.declared.warning.Warning.{Warning}
use Rattle.job_inputs.specs.LackingPrograms.{why_nothing, first_why}

pub why_later : (ws : List Warning) (i : ℕ) (d : Warning) → i < length ws → why_nothing (slice_index_or ws i d) ≡ None →
    first_why (drop i ws) ≡ first_why (drop (i + 1) ws)
unfolding first_why
why_later ws i d below none = rw (drop-cons ws i d below, add-one i, none) refl

pub why_here : (ws : List Warning) (i : ℕ) (d : Warning) (refusal : JobRefusal) → i < length ws →
    why_nothing (slice_index_or ws i d) ≡ Some refusal → first_why (drop i ws) ≡ Some refusal
unfolding first_why
why_here ws i d refusal below is = rw (drop-cons ws i d below, is) refl

pub why_end : (ws : List Warning) (i : ℕ) → length ws ≤ i → first_why (drop i ws) ≡ None
unfolding first_why
why_end ws i over = rw (drop_all i ws over) refl
