use Rattle.std.proofs.Common.{◌∙◌, ℕ, false, List, ap, slice_index_or}
use Rattle.changed_texts.specs.Versions.{with_counts}
use Rattle.line_ups.proofs.Followed.{counts_set}
use Rattle.line_ups.proofs.versions.follow_versions.Goals as goal

pub returns : goal.returns
returns c =
    counts_set c.args.old.now c.args.new c.set_counts.new.texts c.args.moment (λ (n : ℕ). slice_index_or c.args.sent.now n false)
    c.counts_after-counts.result.items c.counts_after-counts.ensures.value
    (c.set_counts.ensures ∙ ap (λ (xs : List ℕ). with_counts c.args.new (λ n. slice_index_or xs n 0)) c.as_slice.ensures.value)
