use Rattle.std.proofs.Common.{◌≤◌, ap, arith, sum_by}
use Rattle.std.proofs.lemmas.List.{take_all}
use Rattle.std.proofs.lemmas.List.Sums.{sum_by-le}
use Rattle.description_parts.proofs.section_lengths.total.Goals as goal

pub returns-clause-bound : goal.returns-clause-bound
returns-clause-bound c =
    let ls = c.args.lengths.now in
    let all = take_all c.loop-length.length-index ls (omega (arith, c.loop-length-test.false)) in
    omega (arith, c.loop-length.invariant.total, ap (sum_by (λ n. n)) all, sum_by-le (λ n. n) 972 ls c.requires.bounded, c.requires.few)
