-- The first stream that a program lacks, warning by warning
use Rattle.std.proofs.Common.{◌≡◌, ◌≤◌, ◌<◌, ℕ, ◌+◌, List, length, drop, slice_index_or, Some, None, refl, add-one}
use Rattle.std.proofs.Math.Seq.{drop-cons}
use Rattle.std.proofs.lemmas.List.{drop_all}
use Rattle.job_programs.specs.JobStreams.{WireStreamView}
use Rattle.job_programs.specs.declared.refusal.JobRefusal.{JobRefusal}
use Rattle.job_programs.specs.declared.warning.Warning.{Warning}
use Rattle.job_inputs.specs.LackingPrograms.{lacking_by, first_lacking}

pub lacking_later : (streams : List WireStreamView) (ws : List Warning) (i : ℕ) (d : Warning) → i < length ws →
    lacking_by streams (slice_index_or ws i d) ≡ None → first_lacking streams (drop i ws) ≡ first_lacking streams (drop (i + 1) ws)
unfolding first_lacking
lacking_later streams ws i d below none = rw (drop-cons ws i d below, add-one i, none) refl

pub lacking_here : (streams : List WireStreamView) (ws : List Warning) (i : ℕ) (d : Warning) (refusal : JobRefusal) → i < length ws →
    lacking_by streams (slice_index_or ws i d) ≡ Some refusal → first_lacking streams (drop i ws) ≡ Some refusal
unfolding first_lacking
lacking_here streams ws i d refusal below is = rw (drop-cons ws i d below, is) refl

pub lacking_end : (streams : List WireStreamView) (ws : List Warning) (i : ℕ) → length ws ≤ i → first_lacking streams (drop i ws) ≡ None
unfolding first_lacking
lacking_end streams ws i over = rw (drop_all i ws over) refl
