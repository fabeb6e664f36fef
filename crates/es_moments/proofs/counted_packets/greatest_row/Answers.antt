use Rattle.std.proofs.Common.{◌≡◌, ◌+◌, take, sum, arith}
use Rattle.std.proofs.lemmas.Grind.{common_steps}
use Rattle.clock27.proofs.MinMax.{max_is}
use Rattle.es_moments.proofs.PacketRows.{all_greatest, all_most, entering_is, none_enters, row_end, row_more, row_most, row_step}
use Rattle.es_moments.proofs.counted_packets.greatest_row.Goals as goal

pub row_packets-row-requires : goal.row_packets-row-requires
row_packets-row-requires c =
    rw c.split_at.ensures.front (omega (arith, row_most c.min.result c.args.greatest 0 c.args.numbers.now c.requires.bound, c.min.ensures, c.requires.few))

pub overflow_mul-group : goal.overflow_mul-group
overflow_mul-group c = omega (arith, all_most c.args.group c.args.greatest c.requires.few c.requires.bound.bound)

pub returns-then-row-group : goal.returns-then-row-group
returns-then-row-group c = λ units is.
    let counted : c.row_packets-row.result ≡ sum (take c.args.group c.args.numbers.now) = grind (arith, common_steps) in
    all_greatest c.args.group c.args.greatest c.row_packets-row.result units c.args.numbers.now is c.requires.bound.each counted c.if-row-group.true

pub overflow_add-row : goal.overflow_add-row
overflow_add-row c =
    let entering = entering_is c.args.group c.loop-at.at c.min.result c.args.numbers.now c.split_at.result.1.now c.min.ensures c.split_at.ensures.back
    c.loop-at-test.true in
    omega (
      arith,
      entering.1,
      c.requires.few,
      c.requires.bound.each (c.args.group + c.loop-at.at) 0 entering.0,
      c.requires.bound.bound,
      row_most c.args.group c.args.greatest c.loop-at.at c.args.numbers.now c.requires.bound,
      c.loop-at.invariant.row,
    )

pub overflow_sub-row : goal.overflow_sub-row
overflow_sub-row c =
    let entering = entering_is c.args.group c.loop-at.at c.min.result c.args.numbers.now c.split_at.result.1.now c.min.ensures c.split_at.ensures.back
    c.loop-at-test.true in
    omega (arith, entering.1, row_step c.args.group c.loop-at.at c.args.numbers.now entering.0, c.loop-at.invariant.row)

pub loop-at-preserved : goal.loop-at-preserved
loop-at-preserved c =
    let entering = entering_is c.args.group c.loop-at.at c.min.result c.args.numbers.now c.split_at.result.1.now c.min.ensures c.split_at.ensures.back
    c.loop-at-test.true in
    record {
      most = λ units is. omega (
        arith,
        c.loop-at.invariant.most units is,
        row_more c.args.group c.loop-at.at c.loop-at.row units c.args.numbers.now is (omega (arith, entering.0)) c.loop-at.invariant.row,
        c.max-most.ensures,
        max_is c.loop-at.most c.loop-at.row,
      );
      row = omega (arith, entering.1, row_step c.args.group c.loop-at.at c.args.numbers.now entering.0, c.loop-at.invariant.row);
    }

pub returns : goal.returns
returns c = λ units is.
    let over = none_enters c.args.group c.loop-at.at c.min.result c.args.numbers.now c.split_at.result.1.now c.min.ensures c.split_at.ensures.back
    c.loop-at-test.false in
    omega (
      arith,
      c.loop-at.invariant.most units is,
      row_end c.args.group c.loop-at.at c.loop-at.row units c.args.numbers.now is over c.loop-at.invariant.row,
      c.max.ensures,
      max_is c.loop-at.most c.loop-at.row,
    )
