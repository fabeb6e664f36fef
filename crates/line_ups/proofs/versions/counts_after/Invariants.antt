use Rattle.std.proofs.Common.{◌≡◌, false, map, slice_index_or}
use Rattle.std.specs.List.{range_with_len}
use Rattle.description.specs.SubTables.{numbered_sub_table}
use Rattle.line_ups.specs.Versions.{count_after}
use Rattle.line_ups.proofs.versions.counts_after.Given as goal

abbrev pub invariant-loop-number : goal.invariant-loop-number
invariant-loop-number l =
    l.counts.items ≡ map (λ n. count_after l.old l.new l.moment (λ i. slice_index_or l.sent i false) (numbered_sub_table n)) (range_with_len 0 l.number)
