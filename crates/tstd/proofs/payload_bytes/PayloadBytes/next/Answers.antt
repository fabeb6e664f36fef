use Rattle.std.proofs.Common.{◌∙◌, ◌+◌, ◌*◌, ◌^◌, ◌≤◌, ℕ, ap, ap₂, arith, sym}
use Rattle.tstd.specs.DepartureWalk.{left_ahead}
use Rattle.tstd.specs.MultiplexingQueue.{passed, residence_in}
use Rattle.tstd.specs.PayloadBytes.{bytes_ahead, residences}
use Rattle.tstd.proofs.PassedBytes.{passed_none}
use Rattle.tstd.proofs.payload_bytes.PayloadBytes.next.Goals as goal

pub returns-in_default-clause-ahead : goal.returns-in_default-clause-ahead
unfolding bytes_ahead
returns-in_default-clause-ahead c = passed_none c.args.self.now.multiplexing (left_ahead c.args.self.now.transport) c.in_default.ensures.ahead

pub returns-in_default-clause-none : goal.returns-in_default-clause-none
unfolding bytes_ahead
returns-in_default-clause-none c = passed_none c.args.self.now.multiplexing (left_ahead c.next.new.self) c.in_default.ensures.none

pub returns-clause-ahead : goal.returns-clause-ahead
unfolding bytes_ahead
returns-clause-ahead c =
    ap (passed c.args.self.now.multiplexing) c.in-Some.ensures.ahead ∙ c.pass-time.ensures.passed (left_ahead c.next.new.self)

pub returns-clause-residences : goal.returns-clause-residences
unfolding residences
returns-clause-residences c =
    ap₂ (λ (a : ℕ) (b : ℕ × ℕ). (a, b)) c.in-Some.ensures.longest_residence
    (c.pass-time.ensures.residence (left_ahead c.next.new.self) ∙ ap (residence_in c.args.self.now.multiplexing) (sym c.in-Some.ensures.ahead))

pub returns-in_default-clause-residences : goal.returns-in_default-clause-residences
unfolding residences
returns-in_default-clause-residences c =
    ap₂ (λ (a : ℕ) (b : ℕ × ℕ). (a, b)) c.in_default.ensures.longest_residence
    (ap (residence_in c.args.self.now.multiplexing) (c.in_default.ensures.none ∙ sym c.in_default.ensures.ahead))

pub returns-in_default-clause-ended : goal.returns-in_default-clause-ended
unfolding residences
returns-in_default-clause-ended c =
    ap₂ (λ (a : ℕ) (b : ℕ × ℕ). (a, b)) (c.in_default.ensures.ended) (ap (residence_in c.args.self.now.multiplexing) c.in_default.ensures.none)

pub invariant_of-self-2 : goal.invariant_of-self-2
invariant_of-self-2 c =
    let w = c.args.self.now in
    let new = c.next.new.self in
    let beyond : w.transport.byte + 1 ≤ new.byte = c.in-Some.ensures.beyond in
    let paced : new.queue.last ≤ new.byte * 2 ^ 57 = new.paced in
    record {
      positive = w.positive;
      slow = w.slow;
      drain = w.drain;
      leak = w.leak;
      slow_leak = w.slow_leak;
      within = c.pass-time.ensures.within (w.transport.byte * 2 ^ 58) (new.byte * 2 ^ 58) w.within (omega (arith, beyond))
          (omega (arith, beyond, paced, c.in-Some.ensures.last));
    }
