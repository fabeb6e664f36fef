use Rattle.std.proofs.Common.{List, ℕ, subst}
use Rattle.devices.specs.Devices.{Device, between}
use Rattle.devices.specs.Files.{Files, files_of}
use Rattle.job_programs.specs.JobOptions.{JobOptionsView}
use Rattle.tsjob_cli.specs.StreamedUnits.{StreamsUnits}
use Rattle.tsjob_cli.proofs.StreamedUnits.{named_and_not, not_and_named, same_name}
use Rattle.tsjob_cli.proofs.program.answer.Goals as goal

pub returns-in-Some-clause-job : goal.returns-in-Some-clause-job
returns-in-Some-clause-job g c = λ none. absurd (named_and_not c.in-Some.name.now c.args.arguments.now.stream c.in-Some.ensures none)

pub returns-in-Some-clause-stream : goal.returns-in-Some-clause-stream
returns-in-Some-clause-stream g c = λ name is.
    let input : Device = between (record { bytes = g.R.Read.remaining c.args.input.now; failed = g.R.Source.fault_count c.args.input.now })
    (record { bytes = g.R.Read.remaining c.stream_units.new.input; failed = g.R.Source.fault_count c.stream_units.new.input }) in
    let output : Device = between (record { bytes = g.W.Write.contents c.args.output.now; failed = g.W.Sink.fault_count c.args.output.now })
    (record { bytes = g.W.Write.contents c.stream_units.new.output; failed = g.W.Sink.fault_count c.stream_units.new.output }) in
    let faults : Device = between (record { bytes = g.E.Write.contents c.args.faults.now; failed = g.E.Sink.fault_count c.args.faults.now })
    (record { bytes = g.E.Write.contents c.stream_units.new.faults; failed = g.E.Sink.fault_count c.stream_units.new.faults }) in
    let files : Files = files_of (g.F.NamedFiles.contents_of c.args.files.now) (g.F.NamedFiles.opens c.args.files.now) g.F.NamedFiles.never_fails in
    subst (λ (t : List ℕ). StreamsUnits c.args.arguments.now.options files t input output faults c.stream_units.result)
    (same_name c.in-Some.name.now name c.args.arguments.now.stream c.in-Some.ensures is)
    (subst (λ (w : JobOptionsView). StreamsUnits w files c.in-Some.name.now input output faults c.stream_units.result) c.options-options.ensures
    c.stream_units.ensures)

pub returns-in-None-clause-stream : goal.returns-in-None-clause-stream
returns-in-None-clause-stream g c = λ name is. absurd (not_and_named name c.args.arguments.now.stream c.in-None.ensures is)
