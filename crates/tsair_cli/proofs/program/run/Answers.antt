use Rattle.std.proofs.Common.{refl}
use Rattle.devices.specs.Devices.{Port}
use Rattle.tsair_cli.proofs.AirRuns.{aired}
use Rattle.tsair_cli.proofs.Unframing.{no_piece}
use Rattle.word_faults.proofs.UsageReports.{of_memory, of_words}
use Rattle.tsair_cli.proofs.program.run.Goals as goal

pub returns-in-Ok-None-clause-other : goal.returns-in-Ok-None-clause-other
returns-in-Ok-None-clause-other g c = λ none. of_words _ _ _ _ _ _ _ _ _ _ c.known_words-known.ensures c.usage.ensures (c.answer_words.ensures _ refl)

pub returns-in-Err-clause-other : goal.returns-in-Err-clause-other
returns-in-Err-clause-other g c = λ none.
    of_memory _ _ _ _ _ _ _ _ (record { clean = refl; unwritten = refl; reports = c.report_halt.ensures.reports; status_is = c.report_halt.ensures.status })

pub returns-in-Err-clause-unframes : goal.returns-in-Err-clause-unframes
returns-in-Err-clause-unframes g c = λ o given framed.
    let input : Port = record { bytes = g.R.Read.remaining c.args.input.now; failed = g.R.Source.fault_count c.args.input.now } in
    let output : Port = record { bytes = g.W.Write.contents c.args.output.now; failed = g.W.Sink.fault_count c.args.output.now } in
    let faults : Port = record { bytes = g.E.Write.contents c.args.faults.now; failed = g.E.Sink.fault_count c.args.faults.now } in
    let after : Port = record { bytes = g.E.Write.contents c.report_halt.new.faults; failed = g.E.Sink.fault_count c.report_halt.new.faults } in
    no_piece input output faults after c.report_halt.result c.report_halt.ensures.reports c.report_halt.ensures.status

pub returns-else-options-clause-air : goal.returns-else-options-clause-air
returns-else-options-clause-air g c = λ o given framed.
    let read = rw c.in-Ok-Some.field-0-is at c.in-Ok-Some.ensures in
    aired (g.F.OutputFiles.creates c.args.files.now) (g.F.OutputFiles.keeps c.args.files.now) _ _ c.in-Ok-Some.options o _ _ _ _ _ c.value_given-state.ensures
    read given c.air_job.ensures
