use Rattle.std.proofs.Common.{◌∙◌, sym}
use Rattle.word_faults.specs.Lists.{number_in}
use Rattle.word_faults.proofs.AllOf.{all_taken, missing, more}
use Rattle.word_faults.proofs.lists.numbers_of.Goals as goal

pub returns-in-None : goal.returns-in-None
returns-in-None c =
    missing (number_in 0 c.args.most) (λ s. s.now) c.loop-text.numbers.items c.args.texts.now c.loop-text.text-index _ _ c.loop-text-test.true
    (sym (rw c.from.ensures at c.number_in.ensures.value) ∙ c.in-None.is) c.loop-text.invariant

pub loop-text-preserved : goal.loop-text-preserved
loop-text-preserved c =
    rw c.in_ok-push-in-Some.ensures.items
    (more (number_in 0 c.args.most) (λ s. s.now) c.loop-text.numbers.items c.args.texts.now c.loop-text.text-index _ c.in-Some.number _ c.loop-text-test.true
    (sym (rw c.from.ensures at c.number_in.ensures.value) ∙ c.in-Some.is) c.loop-text.invariant)

pub returns : goal.returns
returns c = all_taken (number_in 0 c.args.most) (λ s. s.now) c.loop-text.numbers.items c.args.texts.now c.loop-text.text-index _ c.loop-text-test.false
    c.loop-text.invariant
