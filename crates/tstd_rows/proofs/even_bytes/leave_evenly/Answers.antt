use Rattle.std.proofs.Common.{◌≡◌, ◌*◌, ◌≤◌, refl, arith}
use Rattle.tstd_rows.proofs.EvenBytes.{fast_even, fast_even_last, fast_even_longest, free_even, free_even_last, free_even_longest}
use Rattle.tstd_rows.proofs.even_bytes.leave_evenly.Goals as goal

pub returns-then-from-clause-even : goal.returns-then-from-clause-even
returns-then-from-clause-even c = λ times is.
    let fast : c.args.even.now.pace ≤ c.args.step * c.args.even.now.parts = rw (c.from.ensures, c.from-2.ensures, c.from-3.ensures) at c.if-from.true in
    rw (c.max-first.ensures, c.from-then-from.ensures, c.from-then-from-2.ensures, c.from-then-from-3.ensures)
    (fast_even c.args.step c.args.prev c.args.even.now times is fast)

pub returns-then-from-clause-last : goal.returns-then-from-clause-last
returns-then-from-clause-last c = λ times is.
    let fast : c.args.even.now.pace ≤ c.args.step * c.args.even.now.parts = rw (c.from.ensures, c.from-2.ensures, c.from-3.ensures) at c.if-from.true in
    rw (c.max-first.ensures, c.from-then-from-2.ensures, c.from-then-from-3.ensures)
    (fast_even_last c.args.step c.args.prev c.args.even.now times is fast)

pub returns-then-from-clause-longest : goal.returns-then-from-clause-longest
returns-then-from-clause-longest c = λ times is.
    let fast : c.args.even.now.pace ≤ c.args.step * c.args.even.now.parts = rw (c.from.ensures, c.from-2.ensures, c.from-3.ensures) at c.if-from.true in
    rw (c.max-first.ensures, c.from-then-from-2.ensures, c.from-then-from-3.ensures)
    (fast_even_longest c.args.step c.args.prev c.args.even.now times is fast)

pub returns-clause-even : goal.returns-clause-even
returns-clause-even c = λ times is.
    let gap : c.from-2.result * c.from-3.result ≡ c.args.step * c.args.even.now.parts = rw (c.from-2.ensures, c.from-3.ensures) refl in
    let slow : c.args.step * c.args.even.now.parts ≤ c.args.even.now.pace = omega (arith, c.if-from.false, gap, c.from.ensures) in
    let free : c.args.prev ≤ c.args.even.now.first = omega (arith, c.if-even-prev.false) in
    rw (c.from-4.ensures, c.from-5.ensures) (free_even c.args.step c.args.prev c.args.even.now times is slow free)

pub returns-clause-last : goal.returns-clause-last
returns-clause-last c = λ times is.
    let gap : c.from-2.result * c.from-3.result ≡ c.args.step * c.args.even.now.parts = rw (c.from-2.ensures, c.from-3.ensures) refl in
    let slow : c.args.step * c.args.even.now.parts ≤ c.args.even.now.pace = omega (arith, c.if-from.false, gap, c.from.ensures) in
    let free : c.args.prev ≤ c.args.even.now.first = omega (arith, c.if-even-prev.false) in
    rw c.from-5.ensures (free_even_last c.args.step c.args.prev c.args.even.now times is slow free)

pub returns-clause-longest : goal.returns-clause-longest
returns-clause-longest c = λ times is.
    let gap : c.from-2.result * c.from-3.result ≡ c.args.step * c.args.even.now.parts = rw (c.from-2.ensures, c.from-3.ensures) refl in
    let slow : c.args.step * c.args.even.now.parts ≤ c.args.even.now.pace = omega (arith, c.if-from.false, gap, c.from.ensures) in
    let free : c.args.prev ≤ c.args.even.now.first = omega (arith, c.if-even-prev.false) in
    rw c.from-5.ensures (free_even_longest c.args.step c.args.prev c.args.even.now times is slow free)
