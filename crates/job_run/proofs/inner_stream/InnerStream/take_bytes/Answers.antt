use Rattle.std.proofs.Common.{◌∙◌, ◌++◌, ℕ, length, length-drop, arith, ap, refl, sym, subst}
use Rattle.job_run.specs.Streams.{InnerView, IsInner}
use Rattle.job_run.proofs.Readings.{taken_inner}
use Rattle.job_run.proofs.inner_stream.InnerStream.take_bytes.Goals as goal

pub returns-clause-taken : goal.returns-clause-taken
returns-clause-taken c = λ stream piece whole known is so.
    let old : InnerView = record { other = c.self.inside.other; held = c.self.inside.held.items; stream = c.self.inside.stream } in
    let begun = subst (λ (x : InnerView). IsInner stream x) (sym c.self.view_is) so in
    taken_inner stream piece c.args.bytes.now c.args.other c.in_ok-used.used old _ (whole ∙ ap (λ (x : InnerView). x.held ++ piece) (sym c.self.view_is)) known is
    c.in_ok-used.ensures.taken refl (c.in_ok-held.ensures.items ∙ c.split_at.ensures.back) begun

pub returns-clause-few : goal.returns-clause-few
returns-clause-few c =
    omega (arith, c.in_ok-used.ensures.few, ap (length {A = ℕ}) (c.in_ok-held.ensures.items ∙ c.split_at.ensures.back), length-drop c.in_ok-used.used c.args.bytes.now)
