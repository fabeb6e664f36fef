use Rattle.std.proofs.Common.{◌∙◌, ℕ, false, List, ap, slice_index_or}
use Rattle.changed_texts.specs.Versions.{with_counts}
use Rattle.changed_texts.proofs.NextTexts.{counts_set}
use Rattle.changed_texts.proofs.versions.next_texts.Goals as goal

pub returns : goal.returns
returns c =
    counts_set c.args.now.now c.args.texts c.set_counts.new.texts c.args.moment (λ (n : ℕ). slice_index_or c.args.sent.now n false)
    c.next_counts-counts.result.items c.next_counts-counts.ensures.value
    (c.set_counts.ensures ∙ ap (λ (xs : List ℕ). with_counts c.args.texts (λ n. slice_index_or xs n 0)) c.as_slice.ensures.value)
