use Rattle.devices.specs.Files.{files_of}
use Rattle.job_run.proofs.StreamFiles.{named_answer}
use Rattle.job_run.proofs.stream_files.named_input.Goals as goal

pub returns-in-Ok : goal.returns-in-Ok
returns-in-Ok g c =
    let files = files_of (g.F.NamedFiles.contents_of c.args.files.now) (g.F.NamedFiles.opens c.args.files.now) g.F.NamedFiles.never_fails in
    named_answer c.args.arguments.now files c.args.name.now _ c.in-Ok.stream c.read_input.result c.in-Some.ensures.opens c.in-Some.ensures.reader
    c.in-Ok.ensures c.read_input.ensures
