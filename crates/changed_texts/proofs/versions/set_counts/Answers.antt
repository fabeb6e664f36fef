use Rattle.std.proofs.Common.{◌≤◌, ◌∙◌, rules, ap, arith, slice_index_or}
use Rattle.description.specs.SubTables.{with_count}
use Rattle.changed_texts.proofs.NextTexts.{all_set, one_more_set}
use Rattle.changed_texts.proofs.versions.set_counts.Goals as goal

pub loop-number-preserved : goal.loop-number-preserved
loop-number-preserved c =
    c.set_count.ensures
    ∙ ap (λ x. with_count c.loop-number.texts x (slice_index_or c.args.counts.now c.loop-number.number 0)) c.numbered.ensures
    ∙ one_more_set (λ n. slice_index_or c.args.counts.now n 0) c.args.texts.now c.loop-number.texts c.loop-number.number c.loop-number.invariant

pub returns : goal.returns
returns c =
    let over : 131 ≤ c.loop-number.number = search rules in
    all_set (λ n. slice_index_or c.args.counts.now n 0) c.args.texts.now c.loop-number.texts c.loop-number.number c.loop-number.invariant
    (omega (arith, c.loop-number.auto.number-end)) over
