use Rattle.std.proofs.Common.{◌≡◌, ◌≤◌, ◌∙◌, sym, true, false, rules, arith}
use Rattle.stream_programs.proofs.LeastFreePid.{least_is, none_is}
use Rattle.stream_programs.proofs.TakenPids.{taken_none, taken_more, taken_less}
use Rattle.stream_programs.proofs.pid_list.PidList.free_from.Goals as goal

pub loop-pid-init : goal.loop-pid-init
loop-pid-init g c = (omega arith, taken_none c.args.from c.args.self.now)

pub loop-pid-preserved : goal.loop-pid-preserved
loop-pid-preserved g c =
    let held : c.has.result ≡ true = search rules in
    (omega (arith, c.loop-pid.invariant.0), taken_more c.args.from c.loop-pid.pid c.args.self.now c.loop-pid.invariant.1 (sym c.has.ensures ∙ held))

pub returns-then-not-has : goal.returns-then-not-has
returns-then-not-has g c =
    let free : c.has.result ≡ false = search rules in
    least_is c.args.from c.args.self.now c.loop-pid.pid (record {
      after = c.loop-pid.invariant.0;
      below = c.loop-pid-test.true;
      free = sym c.has.ensures ∙ free;
      least = c.loop-pid.invariant.1;
    })

pub returns : goal.returns
returns g c =
    none_is c.args.from c.args.self.now
    (taken_less c.args.from c.loop-pid.pid 8191 c.args.self.now (let past : 8191 ≤ c.loop-pid.pid = omega (arith, c.loop-pid-test.false) in past)
    c.loop-pid.invariant.1)
