use Rattle.std.proofs.Common.{get_or, refl}
use Rattle.diagnosis.proofs.EqualRows.{whole_word, word_ends, word_goes_on}
use Rattle.diagnosis.proofs.equal_keys.first_word.Goals as goal

pub loop-i-preserved : goal.loop-i-preserved
loop-i-preserved c = word_goes_on c.args.bytes.now c.loop-i.i 0 (get_or c.args.bytes.now c.loop-i.i 0) c.ends_value.result c.loop-i-test.true refl
    c.ends_value.ensures c.if-ends_value.false c.loop-i.invariant

pub returns-then-ends_value : goal.returns-then-ends_value
returns-then-ends_value c = word_ends c.args.bytes.now c.loop-i.i 0 (get_or c.args.bytes.now c.loop-i.i 0) c.ends_value.result c.loop-i-test.true refl
    c.ends_value.ensures c.if-ends_value.true c.loop-i.invariant

pub returns : goal.returns
returns c = whole_word c.args.bytes.now c.loop-i.i c.loop-i-test.false c.loop-i.invariant
