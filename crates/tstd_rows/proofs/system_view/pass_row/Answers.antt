use Rattle.std.proofs.Common.{◌≡◌, ℕ, ◌+◌, ◌-◌, ◌*◌, ◌^◌, ◌≤◌, max, arith}
use Rattle.std.proofs.Math.Nat.{mul-le-mul_left}
use Rattle.tstd_rows.specs.declared.watched_queue.WatchedQueue.{WatchedQueue}
use Rattle.tstd_rows.specs.TableQueues.{AreInTime}
use Rattle.tstd_rows.proofs.system_view.pass_row.Goals as goal

-- The last of `n` bytes leaves a buffer within the bound for all bytes so far.
soon : (between prev step before n : ℕ) → between ≤ max (2 ^ 87) prev + n * step → prev ≤ 2 ^ 87 + before * 2 ^ 33 → step ≤ 2 ^ 33 →
    between ≤ 2 ^ 87 + (before + n) * 2 ^ 33
soon between prev step before n le early slow = omega (arith, le, early, mul-le-mul_left n slow)

system_soon : (left between prev step before n : ℕ) → left ≤ max between prev + n * step → between ≤ 2 ^ 87 + (before + n) * 2 ^ 33 →
    prev ≤ 2 ^ 87 + before * 2 ^ 34 → step ≤ 2 ^ 33 → left ≤ 2 ^ 87 + (before + n) * 2 ^ 34
system_soon left between prev step before n le come early slow = omega (arith, le, come, early, mul-le-mul_left n slow)

-- A buffer whose last byte arrived and leaves at these times, later than the byte before it
record IsLater (old new : WatchedQueue) (comes leaves : ℕ) : Type 0 where
  step : new.queue.step ≡ old.queue.step
  last : new.queue.last ≡ leaves
  longest : new.queue.longest_residence ≡ max old.queue.longest_residence (leaves - comes)
  later : old.queue.last ≤ leaves

still_in_time : (first second first' second' : WatchedQueue) (come between left before n : ℕ) → AreInTime first second before →
    IsLater first first' come between → IsLater second second' between left →
    between ≤ max (2 ^ 87) first.queue.last + n * first.queue.step → left ≤ max between second.queue.last + n * second.queue.step →
    AreInTime first' second' (before + n)
still_in_time first second first' second' come between left before n old a b by by' =
    let leaves = soon between first.queue.last first.queue.step before n by old.last old.slow in
    record {
      some = rw a.step old.some;
      slow = rw a.step old.slow;
      system_some = rw b.step old.system_some;
      system_slow = rw b.step old.system_slow;
      last = rw a.last leaves;
      left = rw b.last (system_soon left between second.queue.last second.queue.step before n by' leaves old.left old.system_slow);
      inner = omega (arith, a.longest, a.last, a.later, old.inner);
      within = omega (arith, b.longest, b.last, b.later, old.within);
    }

pub returns-clause-in_time : goal.returns-clause-in_time
returns-clause-in_time c =
    let ways = c.in-Some.ensures in
    let first = c.pass-first.ensures in
    let second = c.pass-second.ensures in
    still_in_time c.args.transport.now c.args.system.now c.pass-first.new.self c.pass-second.new.self c.in-Some.come.last c.in-Some.between.last
    c.in-Some.left.last
    c.args.before c.args.row.now.bytes c.requires.in_time (record { step = first.step; last = first.last; longest = first.longest; later = ways.later })
    (record { step = second.step; last = second.last; longest = second.longest; later = ways.system_later }) ways.soon ways.system_soon

pub returns-in_err-append-clause-in_time : goal.returns-in_err-append-clause-in_time
returns-in_err-append-clause-in_time c =
    let ways = c.in-Some.ensures in
    let first = c.pass-first.ensures in
    let second = c.pass-second.ensures in
    still_in_time c.args.transport.now c.args.system.now c.pass-first.new.self c.pass-second.new.self c.in-Some.come.last c.in-Some.between.last
    c.in-Some.left.last
    c.args.before c.args.row.now.bytes c.requires.in_time (record { step = first.step; last = first.last; longest = first.longest; later = ways.later })
    (record { step = second.step; last = second.last; longest = second.longest; later = ways.system_later }) ways.soon ways.system_soon
