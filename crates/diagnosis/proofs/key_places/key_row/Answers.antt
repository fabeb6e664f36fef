use Rattle.std.proofs.Common.{◌∙◌}
use Rattle.diagnosis.proofs.KeyRows.{found_step, head_step, no_step, other_step}
use Rattle.diagnosis.proofs.key_places.key_row.Goals as goal
use Rattle.diagnosis.proofs.key_places.key_row.Goals.{then-begins, else-begins+else-is_found}

pub loop-i-preserved : goal.loop-i-preserved
loop-i-preserved c = elim c.if-begins.branch [
  | then-begins w ↦
      head_step c.args.head.now c.args.key.now c.as_bytes-bytes.result.now c.loop-i.inside c.if-begins.inside c.begins.result w.begins-own.result c.loop-i.left
      c.if-begins.left c.loop-i.i c.args.lines.now _ _
      c.loop-i-test.true c.as_bytes-bytes.ensures.value c.begins.ensures w.if-begins.true w.begins-own.ensures
      (w.inside-is ∙ w.is_last-inside.ensures) (w.left-is ∙ w.heads_after-left.ensures) c.loop-i.invariant
  | else-begins+else-is_found w ↦
      other_step c.args.head.now c.args.key.now c.as_bytes-bytes.result.now c.loop-i.inside c.if-begins.inside c.begins.result w.is_found.result c.loop-i.left
      c.if-begins.left c.loop-i.i c.args.lines.now _ _
      c.loop-i-test.true c.as_bytes-bytes.ensures.value c.begins.ensures w.if-begins.false w.is_found.ensures w.if-is_found.false w.inside-is w.left-is
      c.loop-i.invariant
]

pub returns-then-is_found : goal.returns-then-is_found
returns-then-is_found c =
    found_step c.args.head.now c.args.key.now c.as_bytes-bytes.result.now c.loop-i.inside c.begins.result c.is_found.result c.loop-i.left c.loop-i.i
    c.args.lines.now _ _
    c.loop-i-test.true c.as_bytes-bytes.ensures.value c.begins.ensures c.if-begins.false c.is_found.ensures c.if-is_found.true c.loop-i.invariant

pub returns : goal.returns
returns c = no_step c.args.head.now c.args.key.now c.loop-i.inside c.loop-i.left c.loop-i.i c.args.lines.now _ c.loop-i-test.false c.loop-i.invariant
