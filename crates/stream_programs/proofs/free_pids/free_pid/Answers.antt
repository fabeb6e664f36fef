use Rattle.std.proofs.Common.{◌≡◌, ◌≤◌, ◌∙◌, sym, true, false, rules, arith}
use Rattle.stream_programs.proofs.LeastFreePid.{least_is, none_is}
use Rattle.stream_programs.proofs.TakenPids.{taken_none, taken_more, taken_less}
use Rattle.stream_programs.proofs.free_pids.free_pid.Goals as goal

pub loop-pid-init : goal.loop-pid-init
loop-pid-init c = (omega arith, taken_none c.args.from c.args.taken.now)

pub loop-pid-preserved : goal.loop-pid-preserved
loop-pid-preserved c =
    let held : c.is_taken.result ≡ true = search rules in
    (omega (arith, c.loop-pid.invariant.0), taken_more c.args.from c.loop-pid.pid c.args.taken.now c.loop-pid.invariant.1 (sym c.is_taken.ensures ∙ held))

pub returns-then-not-is_taken-clause-least : goal.returns-then-not-is_taken-clause-least
returns-then-not-is_taken-clause-least c =
    let free : c.is_taken.result ≡ false = search rules in
    record {
      after = c.loop-pid.invariant.0;
      below = c.loop-pid-test.true;
      free = sym c.is_taken.ensures ∙ free;
      least = c.loop-pid.invariant.1;
    }

pub returns-then-not-is_taken-clause-value : goal.returns-then-not-is_taken-clause-value
returns-then-not-is_taken-clause-value c = least_is c.args.from c.args.taken.now c.loop-pid.pid (returns-then-not-is_taken-clause-least c)

pub returns-clause-none : goal.returns-clause-none
returns-clause-none c =
    taken_less c.args.from c.loop-pid.pid 8191 c.args.taken.now (let past : 8191 ≤ c.loop-pid.pid = omega (arith, c.loop-pid-test.false) in past)
    c.loop-pid.invariant.1

pub returns-clause-value : goal.returns-clause-value
returns-clause-value c = none_is c.args.from c.args.taken.now (returns-clause-none c)
