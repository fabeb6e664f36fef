use Rattle.std.proofs.Common.{◌≡◌, false, map, slice_index_or}
use Rattle.std.specs.List.{range_with_len}
use Rattle.description.specs.SubTables.{numbered_sub_table}
use Rattle.changed_texts.specs.Versions.{next_count}
use Rattle.changed_texts.proofs.versions.next_counts.Given as goal

abbrev pub invariant-loop-number : goal.invariant-loop-number
invariant-loop-number l =
    l.counts.items ≡ map (λ n. next_count l.now l.texts (numbered_sub_table n) l.moment (λ i. slice_index_or l.sent i false)) (range_with_len 0 l.number)
