use Rattle.std.proofs.Common.{◌∙◌, ℕ, ◌+◌, ◌*◌, ◌^◌, ◌≤◌, max, arith}
use Rattle.std.proofs.Math.Nat.{mul-le-mul, mul-le-mul_right}
use Rattle.tstd_rows.proofs.ExcessBytes.{in_two_after, in_two_ended, first_ended, second_ended}
use Rattle.tstd_rows.proofs.excess.ExcessWatch.enter.Goals as goal

-- All bytes that have arrived leave by the end of a stream.
soon : (last prev bytes more few step : ℕ) → last ≤ max (2 ^ 86 + 2 ^ 69) prev + few * step → few ≤ more → prev ≤ 2 ^ 86 + 2 ^ 69 + bytes * step →
    bytes + more ≤ 2 ^ 40 → step ≤ 2 ^ 40 →
    last ≤ 2 ^ 86 + 2 ^ 81
soon last prev bytes more few step late le paced all slow =
    let bound = mul-le-mul all slow in
    let part = mul-le-mul_right step le in
    omega (arith, late, part, paced, bound)

pub grow-requires-clause-prev : goal.grow-requires-clause-prev
grow-requires-clause-prev c =
    soon c.split_fast-split.result.prev c.args.buffer.now.last c.args.buffer.now.bytes c.args.row.now.bytes c.split_fast-split.result.first.bytes
    c.args.buffer.now.step
    c.split_fast-split.ensures.soon (omega (arith, c.split_fast-split.ensures.few)) c.requires.paced.soon c.requires.count c.requires.paced.slow

pub returns-then-from-clause-ended : goal.returns-then-from-clause-ended
returns-then-from-clause-ended c =
    c.pass-ended.ensures.ended
    ∙ first_ended _ _ _ (in_two_ended c.args.buffer.now.step c.args.self.now.size c.args.buffer.now.last c.split_fast-split.result.prev
    c.args.self.now.under_way c.pass-ended.new.self.under_way _ _ _ c.split_fast-split.ensures.times c.split_fast-split.ensures.last
    c.pass-ended.ensures.under_way)
    (rw c.pass-ended.ensures.size at c.grow.ensures.ended)

pub returns-then-from-clause-under_way : goal.returns-then-from-clause-under_way
returns-then-from-clause-under_way c =
    (rw c.pass-ended.ensures.size at c.grow.ensures.under_way)
    ∙ in_two_after c.args.buffer.now.step c.args.self.now.size c.args.buffer.now.last c.split_fast-split.result.prev
    c.args.self.now.under_way c.pass-ended.new.self.under_way _ _ _ c.split_fast-split.ensures.times c.split_fast-split.ensures.last
    c.pass-ended.ensures.under_way

pub returns-else-from-clause-ended : goal.returns-else-from-clause-ended
returns-else-from-clause-ended c =
    (rw c.grow-else-from.ensures.size at c.pass.ensures.ended)
    ∙ second_ended _ _ _ (in_two_ended c.args.buffer.now.step c.args.self.now.size c.args.buffer.now.last c.split_slow-split.result.prev
    c.args.self.now.under_way c.grow-else-from.new.self.under_way _ _ _ c.split_slow-split.ensures.times c.split_slow-split.ensures.last
    c.grow-else-from.ensures.under_way)
    c.grow-else-from.ensures.ended

pub returns-else-from-clause-under_way : goal.returns-else-from-clause-under_way
returns-else-from-clause-under_way c =
    (rw c.grow-else-from.ensures.size at c.pass.ensures.under_way)
    ∙ in_two_after c.args.buffer.now.step c.args.self.now.size c.args.buffer.now.last c.split_slow-split.result.prev
    c.args.self.now.under_way c.grow-else-from.new.self.under_way _ _ _ c.split_slow-split.ensures.times c.split_slow-split.ensures.last
    c.grow-else-from.ensures.under_way
