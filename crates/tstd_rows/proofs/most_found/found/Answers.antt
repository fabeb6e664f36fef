use Rattle.std.proofs.Common.{◌≡◌, ◌+◌, ◌-◌, ◌/◌, arith}
use Rattle.std.proofs.Math.Nat.{div-eq_of_lt}
use Rattle.tstd_rows.proofs.most_found.found.Goals as goal

pub returns-then-prev-time : goal.returns-then-prev-time
returns-then-prev-time c =
    let e : c.args.prev - c.args.time ≡ 0 = omega (arith, c.if-prev-time.true) in
    let none : (0 + (c.args.step - 1)) / c.args.step ≡ 0 = div-eq_of_lt (omega (arith, c.requires.some)) in
    rw e (omega (arith, none))
