use Rattle.std.proofs.Common.{◌≡◌, fold, slice_index_or}
use Rattle.std.specs.List.{range_with_len}
use Rattle.changed_texts.specs.Versions.{with_count_at}
use Rattle.changed_texts.proofs.versions.set_counts.Given as goal

abbrev pub invariant-loop-number : goal.invariant-loop-number
invariant-loop-number l = l.texts ≡ fold (with_count_at (λ n. slice_index_or l.counts n 0)) l.initial.texts (range_with_len 0 l.number)
