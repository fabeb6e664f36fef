use Rattle.std.proofs.Common.{map}
use Rattle.devices.specs.Files.{files_of}
use Rattle.job_run.proofs.StreamFiles.{ended_of, few_taken, files_answer, taken_of}
use Rattle.job_run.proofs.files_outcome.named_outcome.Goals as goal

pub taken_outcome-requires : goal.taken_outcome-requires
taken_outcome-requires g c =
    let files = files_of (g.F.NamedFiles.contents_of c.args.files.now) (g.F.NamedFiles.opens c.args.files.now) g.F.NamedFiles.never_fails in
    let names = map (λ s. s.now) c.args.names.now in
    few_taken c.args.arguments.now files names c.in-Ok.taken
    (taken_of c.args.arguments.now files names c.in_ok-taken.field-0 c.in-Ok.taken c.in-Ok.is c.in_ok-taken.ensures)

pub returns-in-Ok : goal.returns-in-Ok
returns-in-Ok g c =
    let files = files_of (g.F.NamedFiles.contents_of c.args.files.now) (g.F.NamedFiles.opens c.args.files.now) g.F.NamedFiles.never_fails in
    let names = map (λ s. s.now) c.args.names.now in
    files_answer c.args.arguments.now files names c.in-Ok.taken c.taken_outcome.result
    (taken_of c.args.arguments.now files names c.in_ok-taken.field-0 c.in-Ok.taken c.in-Ok.is c.in_ok-taken.ensures) c.taken_outcome.ensures

pub returns-in-Err : goal.returns-in-Err
returns-in-Err g c =
    ended_of c.args.arguments.now (files_of (g.F.NamedFiles.contents_of c.args.files.now) (g.F.NamedFiles.opens c.args.files.now) g.F.NamedFiles.never_fails)
    (map (λ s. s.now) c.args.names.now) c.in_ok-taken.field-0 c.in-Err.outcome c.in-Err.is c.in_ok-taken.ensures
