use Rattle.std.proofs.Common.{ℕ, false, slice_index_or}
use Rattle.description.specs.SubTables.{numbered_sub_table}
use Rattle.changed_texts.specs.Versions.{next_count}
use Rattle.changed_texts.proofs.NextTexts.{below_32, each_below}
use Rattle.changed_texts.proofs.versions.next_counts.Goals as goal

pub returns-clause-five_bits : goal.returns-clause-five_bits
returns-clause-five_bits c =
    let sent = λ (i : ℕ). slice_index_or c.args.sent.now i false in
    each_below (λ (n : ℕ). next_count c.args.now.now c.args.texts.now (numbered_sub_table n) c.args.moment sent) c.loop-number.counts.items
    c.loop-number.number c.loop-number.invariant (below_32 c.args.now.now c.args.texts.now c.args.moment sent)
