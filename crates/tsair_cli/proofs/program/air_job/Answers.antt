use Rattle.std.proofs.Common.{[], inl, refl}
use Rattle.std.specs.Prelude.{option_map}
use Rattle.devices.specs.Devices.{Port, between}
use Rattle.tsair_cli.specs.States.{saving_of}
use Rattle.checked_jobs.specs.JobFaults.{plans_view}
use Rattle.tsair_cli.specs.AirRuns.{run_of}
use Rattle.tsair_cli.proofs.AirRuns.{begun, not_begun}
use Rattle.tsair_cli.proofs.program.air_job.Goals as goal

pub returns : goal.returns
returns g c =
    let before : Port = record { bytes = g.R.Read.remaining c.args.input.now; failed = g.R.Source.fault_count c.args.input.now } in
    let left : Port = record { bytes = g.R.Read.remaining c.read_front.new.input; failed = g.R.Source.fault_count c.read_front.new.input } in
    inl (record {
      left = left;
      job = plans_view c.in-Ok.plans [];
      begins = begun c.args.options before left c.in-Ok.plans c.is_some.result c.is_some.ensures c.in-Ok.ensures;
      promises = (c.in-Ok-begin.ensures.begun (g.W.Write.contents c.args.output.now)).promises;
      records = c.air-status.ensures (run_of c.args.options (plans_view c.in-Ok.plans []))
          (c.in-Ok-begin.ensures.begun (g.W.Write.contents c.args.output.now));
    })

pub returns-in-Err-begin : goal.returns-in-Err-begin
returns-in-Err-begin g c =
    let before : Port = record { bytes = g.R.Read.remaining c.args.input.now; failed = g.R.Source.fault_count c.args.input.now } in
    let left : Port = record { bytes = g.R.Read.remaining c.read_front.new.input; failed = g.R.Source.fault_count c.read_front.new.input } in
    let out : Port = record { bytes = g.W.Write.contents c.args.output.now; failed = g.W.Sink.fault_count c.args.output.now } in
    let so_far : Port = record { bytes = g.E.Write.contents c.args.faults.now; failed = g.E.Sink.fault_count c.args.faults.now } in
    let after : Port = record { bytes = g.E.Write.contents c.report_begin.new.faults; failed = g.E.Sink.fault_count c.report_begin.new.faults } in
    not_begun (saving_of (g.F.OutputFiles.creates c.args.files.now) (g.F.OutputFiles.keeps c.args.files.now) (option_map (λ s. s.now) c.args.state))
    c.args.options (between before left) (between out out) (between so_far after) _ (plans_view c.in-Ok.plans []) c.in-Err-begin.cause
    (begun c.args.options before left c.in-Ok.plans c.is_some.result c.is_some.ensures c.in-Ok.ensures) c.in-Err-begin.ensures.refused refl
    c.report_begin.ensures.report c.report_begin.ensures.status
