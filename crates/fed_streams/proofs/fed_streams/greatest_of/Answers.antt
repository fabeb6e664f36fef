use Rattle.std.proofs.Common.{◌∙◌, ℕ, ap, sym, arith}
use Rattle.std.specs.Prelude.{max}
use Rattle.fed_streams.proofs.FedTicks.{greatest_end, greatest_step}
use Rattle.fed_streams.proofs.fed_streams.greatest_of.Goals as goal

pub loop-stream-preserved : goal.loop-stream-preserved
loop-stream-preserved c =
    let ss = c.args.streams.now in
    let k = c.loop-stream.stream-index in
    record {
      value = c.loop-stream.invariant.value ∙ greatest_step c.loop-stream.greatest c.max-greatest.result k ss c.stream-item.result c.loop-stream-test.true
          c.stream-item.is
          (c.max-greatest.ensures ∙ ap (λ (n : ℕ). max c.loop-stream.greatest n) c.last_dts.ensures.value);
      bound = omega (arith, c.loop-stream.invariant.bound, c.max-greatest.ensures, c.last_dts.ensures.bound);
    }

pub returns-clause-value : goal.returns-clause-value
returns-clause-value c =
    sym (c.loop-stream.invariant.value ∙ greatest_end c.loop-stream.greatest c.loop-stream.stream-index c.args.streams.now c.loop-stream-test.false)
