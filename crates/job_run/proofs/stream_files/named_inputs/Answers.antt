use Rattle.devices.specs.Files.{files_of}
use Rattle.job_run.proofs.StreamFiles.{ends_named, one_named}
use Rattle.job_run.proofs.stream_files.named_inputs.Goals as goal

pub returns-in-Err : goal.returns-in-Err
returns-in-Err g c =
    ends_named c.args.arguments.now (files_of (g.F.NamedFiles.contents_of c.args.files.now) (g.F.NamedFiles.opens c.args.files.now) g.F.NamedFiles.never_fails)
    c.args.names.now c.loop-number.number _ c.in_ok-stream.field-0 c.loop-number.streams.items c.in-Err.outcome
    c.in_ok-headed_outcome-in-Err.field-0 c.loop-number-test.true c.loop-number.invariant c.in_ok-stream.ensures c.in-Err.is
    c.in_ok-headed_outcome-in-Err.ensures

pub loop-number-preserved : goal.loop-number-preserved
loop-number-preserved g c =
    one_named c.args.arguments.now (files_of (g.F.NamedFiles.contents_of c.args.files.now) (g.F.NamedFiles.opens c.args.files.now) g.F.NamedFiles.never_fails)
    c.args.names.now c.loop-number.number _ c.in_ok-stream.field-0 c.loop-number.streams.items c.push.new.self.items
    c.in-Ok.stream c.loop-number-test.true c.loop-number.invariant c.in_ok-stream.ensures c.in-Ok.is c.in_ok-push-in-Ok.ensures.items
