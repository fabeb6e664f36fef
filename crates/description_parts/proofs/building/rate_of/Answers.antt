use Rattle.std.proofs.Common.{arith, codes, ◌≤◌}
use Rattle.toml.specs.View.{view}
use Rattle.description_parts.proofs.KeyRanges.{integer_at-within}
use Rattle.description_parts.proofs.building.rate_of.Goals as goal

pub unreachable-requires : goal.unreachable-requires
unreachable-requires c =
    let w = integer_at-within (codes "rate") 100000 100000000 100000 (view c.args.document.now) (omega arith) (omega arith) in
    let is = c.number_at.ensures.value in
    let low : 100000 ≤ c.number_at.result = rw is w.least in
    let high : c.number_at.result ≤ 100000000 = rw is w.most in
    grind (arith, low, high)
