use Rattle.std.proofs.Common.{◌≡◌, ◌∙◌, sym, true, false, rules}
use Rattle.dvb_texts.proofs.CharacterSteps.{marked_here, marked_later, marked_end}
use Rattle.dvb_texts.proofs.character_sets.marked.Goals as goal

pub loop-pair-preserved : goal.loop-pair-preserved
loop-pair-preserved c =
    let other : c.is_pair.result ≡ false = search rules in
    c.loop-pair.invariant ∙ marked_later c.args.pairs.now c.args.mark c.args.letter c.loop-pair.pair-index _ c.loop-pair-test.true
    (sym c.is_pair.ensures ∙ other)

pub returns-then-is_pair : goal.returns-then-is_pair
returns-then-is_pair c =
    let same : c.is_pair.result ≡ true = search rules in
    sym (c.loop-pair.invariant ∙ marked_here c.args.pairs.now c.args.mark c.args.letter c.loop-pair.pair-index _ c.loop-pair-test.true
    (sym c.is_pair.ensures ∙ same))

pub returns : goal.returns
returns c = sym (c.loop-pair.invariant ∙ marked_end c.args.pairs.now c.args.mark c.args.letter c.loop-pair.pair-index c.loop-pair-test.false)
