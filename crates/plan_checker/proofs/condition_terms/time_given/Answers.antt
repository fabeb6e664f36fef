use Rattle.std.proofs.Common.{ℕ, ◌+◌, ◌-◌, ◌*◌, ◌^◌, ◌≤◌, arith}
use Rattle.std.proofs.lemmas.Nat.{mul-le}
use Rattle.plan_checker.proofs.condition_terms.time_given.Goals as goal

-- The decoding time of the last unit in a row, counted from the first, is within its bound.
time_most : (lead units interval : ℕ) → lead ≤ 90000 → units ≤ 64 → interval ≤ 90000 → lead + (units - 1) * interval ≤ 5760000
time_most lead units interval a b d = omega (arith, a, mul-le (units - 1) interval 63 90000 (omega arith) d)

product_most : (count time rate : ℕ) → count ≤ 2 ^ 32 → time ≤ 5760000 → rate ≤ 100000000 → count * time * rate ≤ 2 ^ 32 * 5760000 * 100000000
product_most count time rate a b d = mul-le (count * time) rate (2 ^ 32 * 5760000) 100000000 (mul-le count time (2 ^ 32) 5760000 a b) d

pub overflow_mul-result-2 : goal.overflow_mul-result-2
overflow_mul-result-2 c =
    let time = time_most c.args.lead c.args.units c.args.interval c.requires.lead c.requires.units c.requires.interval in
    record {
      fits =
          omega (arith, product_most c.args.count (c.args.lead + (c.args.units - 1) * c.args.interval) c.args.rate c.requires.count time c.requires.rate);
    }

pub overflow_mul-result-3 : goal.overflow_mul-result-3
overflow_mul-result-3 c =
    let time = time_most c.args.lead c.args.units c.args.interval c.requires.lead c.requires.units c.requires.interval in
    let most = product_most c.args.count (c.args.lead + (c.args.units - 1) * c.args.interval) c.args.rate c.requires.count time c.requires.rate in
    record {
      fits =
          omega (
            arith,
            mul-le (c.args.count * (c.args.lead + (c.args.units - 1) * c.args.interval) * c.args.rate) c.args.rx (2 ^ 32 * 5760000 * 100000000)
                200000000 most c.requires.rx,
          );
    }
