use Rattle.std.proofs.Common.{◌≤◌, ℕ, arith}
use Rattle.std.proofs.lemmas.List.Elements.{All-from_get_or}
use Rattle.es_moments.proofs.counted_packets.greatest_of.Goals as goal

pub returns : goal.returns
returns c = record {
  each = All-from_get_or (λ (n : ℕ). n ≤ c.loop-number.greatest) c.args.numbers.now 0
      (λ i below. c.loop-number.invariant.most i (omega (arith, below, c.loop-number-test.false)));
  bound = c.loop-number.invariant.bound;
}
