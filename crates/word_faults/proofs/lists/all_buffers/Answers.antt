use Rattle.std.proofs.Common.{◌∙◌, sym}
use Rattle.word_faults.specs.Lists.{buffers_of, colon_parts}
use Rattle.word_faults.proofs.AllOf.{all_taken, missing, more}
use Rattle.word_faults.proofs.lists.all_buffers.Goals as goal

pub returns-in-None : goal.returns-in-None
returns-in-None c =
    missing (λ text. buffers_of (colon_parts text)) (λ s. s.now) c.loop-part.all.items c.args.parts.now c.loop-part.part-index _ _ c.loop-part-test.true
    (sym c.in_ok-buffers.ensures ∙ c.in-None.is) c.loop-part.invariant

pub loop-part-preserved : goal.loop-part-preserved
loop-part-preserved c =
    rw c.in_ok-push-in-Some.ensures.items
    (more (λ text. buffers_of (colon_parts text)) (λ s. s.now) c.loop-part.all.items c.args.parts.now c.loop-part.part-index _ c.in-Some.buffers _
    c.loop-part-test.true
    (sym c.in_ok-buffers.ensures ∙ c.in-Some.is) c.loop-part.invariant)

pub returns : goal.returns
returns c = all_taken (λ text. buffers_of (colon_parts text)) (λ s. s.now) c.loop-part.all.items c.args.parts.now c.loop-part.part-index _
    c.loop-part-test.false c.loop-part.invariant
