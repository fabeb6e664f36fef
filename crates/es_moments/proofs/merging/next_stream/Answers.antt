use Rattle.std.proofs.Common.{sym, ap, ◌∙◌, ◌+◌, Option, ℕ, drop, arith}
use Rattle.es_moments.specs.Merging as spec
use Rattle.es_moments.proofs.NextStream.{next_step, next_end}
use Rattle.es_moments.proofs.merging.next_stream.Goals as goal

pub loop-k-preserved : goal.loop-k-preserved
loop-k-preserved c =
    c.loop-k.invariant ∙ next_step c.args.heads.now c.loop-k.k _ c.loop-k.best c.loop-k-test.true
    ∙ ap (λ (best : Option (ℕ × ℕ)). spec.next_head (c.loop-k.k + 1) best (drop (c.loop-k.k + 1) c.args.heads.now)) (sym c.earlier-best.ensures)

pub returns : goal.returns
returns c = sym (c.loop-k.invariant ∙ next_end c.args.heads.now c.loop-k.k c.loop-k.best (omega (arith, c.loop-k-test.false)))
