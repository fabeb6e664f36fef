use Rattle.std.proofs.Common.{◌∙◌, sym}
use Rattle.tsjob_cli.proofs.FileWords.{mark_found, mark_later}
use Rattle.tsjob_cli.proofs.file_mark.mark_place.Goals as goal

pub returns-then-eq-clause-place : goal.returns-then-eq-clause-place
returns-then-eq-clause-place c =
    mark_found c.args.words.now c.loop-place.place _ c.loop-place-test.true (sym c.eq.ensures ∙ c.if-eq.true) c.loop-place.invariant

pub loop-place-preserved : goal.loop-place-preserved
loop-place-preserved c = mark_later c.args.words.now c.loop-place.place _ c.loop-place-test.true (sym c.eq.ensures ∙ c.if-eq.false) c.loop-place.invariant
