use Rattle.std.proofs.Common.{ℕ, false, slice_index_or}
use Rattle.description.specs.SubTables.{numbered_sub_table}
use Rattle.changed_texts.proofs.NextTexts.{each_below}
use Rattle.line_ups.specs.Versions.{count_after}
use Rattle.line_ups.proofs.Followed.{below_32}
use Rattle.line_ups.proofs.versions.counts_after.Goals as goal

pub returns-clause-five_bits : goal.returns-clause-five_bits
returns-clause-five_bits c =
    let sent = λ (i : ℕ). slice_index_or c.args.sent.now i false in
    each_below (λ (n : ℕ). count_after c.args.old.now c.args.new.now c.args.moment sent (numbered_sub_table n)) c.loop-number.counts.items
    c.loop-number.number c.loop-number.invariant (below_32 c.args.old.now c.args.new.now c.args.moment sent c.keeps_ranges.ensures)
