use Rattle.std.proofs.Common.{[], take, ◌++◌, arith}
use Rattle.mux_core.specs.RecordRuns.{run_of, carried}
use Rattle.mux_core.proofs.Written.{holds_none}
use Rattle.mux_core.proofs.ReadBytes.{own_of}
use Rattle.mux_core.proofs.Runs.{written_none, answers_of, writes_of, took_units, took_new, wrote_new}
use Rattle.mux_core.proofs.LeftInput.{answer_leaves, start_leaves}
use Rattle.mux_core.proofs.carrying.carry.Goals as goal

pub returns-in_default-clause-carries : goal.returns-in_default-clause-carries
returns-in_default-clause-carries g c =
    let input = own_of (g.R.Read.remaining c.args.input.now) in
    record { bytes = input.0; own = input.1; answers = omega arith; writes = written_none c.args.hex c.args.pid c.args.id _ }

pub returns-in_default-clause-left : goal.returns-in_default-clause-left
returns-in_default-clause-left g c = λ xs e. start_leaves xs _ e

pub returns-in-Err-clause-carries : goal.returns-in-Err-clause-carries
returns-in-Err-clause-carries g c =
    let run = c.in-Err.ensures.err (g.W.Write.contents c.args.output.now) []
    (holds_none (g.W.Write.contents c.args.output.now) c.in-Ok.packets c.in-Ok.ensures.empty c.in-Ok.ensures.sent) in
    record {
      bytes = run.0;
      own = run.1;
      answers = tt;
      writes = took_new c.args.hex c.in-Ok.packets.hex c.args.pid c.args.id c.in-Err.fault.sent _ _ _ c.in-Ok.ensures.hex run.2;
    }

pub returns-in-Ok-finish-clause-carries : goal.returns-in-Ok-finish-clause-carries
returns-in-Ok-finish-clause-carries g c =
    let run = c.in-Ok-carry_all.ensures.ok (g.W.Write.contents c.args.output.now) []
    (holds_none (g.W.Write.contents c.args.output.now) c.in-Ok.packets c.in-Ok.ensures.empty c.in-Ok.ensures.sent) in
    record {
      bytes = run.0;
      own = run.1;
      answers = rw c.answer.ensures (answers_of (run_of c.args.id run.0) c.in-Ok-carry_all.carried.0 c.in-Ok-finish.sent c.in-Ok-carry_all.carried.1 run.2);
      writes = rw c.answer.ensures
          (writes_of (carried c.args.hex c.args.pid c.args.id) (run_of c.args.id run.0) c.in-Ok-carry_all.carried.0 c.in-Ok-finish.sent _ _
          c.in-Ok-carry_all.carried.1 run.2
          (wrote_new c.args.hex c.in-Ok.packets.hex c.args.pid c.args.id c.in-Ok-finish.sent (take c.in-Ok-carry_all.carried.0 (run_of c.args.id run.0).units) _ _
          c.in-Ok.ensures.hex
          (c.in-Ok-finish.ensures.ok (g.W.Write.contents c.args.output.now)
          ([] ++ carried c.in-Ok.packets.hex c.args.pid c.args.id (take c.in-Ok-carry_all.carried.0 (run_of c.args.id run.0).units)) run.3)));
    }

pub returns-in-Ok-finish-clause-left : goal.returns-in-Ok-finish-clause-left
returns-in-Ok-finish-clause-left g c = λ xs e.
    rw c.answer.ensures (answer_leaves xs _ c.in-Ok-carry_all.carried.0 c.in-Ok-finish.sent c.in-Ok-carry_all.carried.1 (c.in-Ok-carry_all.ensures.left xs e))

pub returns-in-Err-finish-clause-carries : goal.returns-in-Err-finish-clause-carries
returns-in-Err-finish-clause-carries g c =
    let run = c.in-Ok-carry_all.ensures.ok (g.W.Write.contents c.args.output.now) []
    (holds_none (g.W.Write.contents c.args.output.now) c.in-Ok.packets c.in-Ok.ensures.empty c.in-Ok.ensures.sent) in
    record {
      bytes = run.0;
      own = run.1;
      answers = tt;
      writes = took_units c.args.hex c.args.pid c.args.id c.in-Ok-carry_all.carried.0 c.in-Err-finish.fault.sent (run_of c.args.id run.0).units _ _
          (took_new c.args.hex c.in-Ok.packets.hex c.args.pid c.args.id c.in-Err-finish.fault.sent
          (take c.in-Ok-carry_all.carried.0 (run_of c.args.id run.0).units) _ _ c.in-Ok.ensures.hex
          (c.in-Err-finish.ensures.err (g.W.Write.contents c.args.output.now)
          ([] ++ carried c.in-Ok.packets.hex c.args.pid c.args.id (take c.in-Ok-carry_all.carried.0 (run_of c.args.id run.0).units)) run.3));
    }
