use Rattle.std.proofs.Common.{◌∙◌, refl, sym, inl, inr}
use Rattle.devices.specs.Devices.{Port}
use Rattle.devices.specs.declared.halt.Halt.TheVariants.{Memory}
use Rattle.word_faults.proofs.UsageReports.{of_memory, of_words}
use Rattle.tsview_cli.specs.declared.request.Request.TheVariants.{Lines, Page}
use Rattle.tsview_cli.proofs.NamedStreams.{of_file, of_input}
use Rattle.tsview_cli.proofs.Viewed.{none_seen}
use Rattle.tsview_cli.proofs.program.run_on_stream.Goals as goal

pub returns-in-Ok-Some-clause-view : goal.returns-in-Ok-Some-clause-view
returns-in-Ok-Some-clause-view g c = λ r form is. of_input _ c.in-Ok-Some.wanted (Lines r form) _ _ _ _ (sym c.in-Ok-Some.field-0-is ∙ c.in-Ok-Some.ensures) is
    c.answer_asked.ensures.input

pub returns-in-Ok-Some-clause-page : goal.returns-in-Ok-Some-clause-page
returns-in-Ok-Some-clause-page g c =
    λ r is. of_input _ c.in-Ok-Some.wanted (Page r) _ _ _ _ (sym c.in-Ok-Some.field-0-is ∙ c.in-Ok-Some.ensures) is c.answer_asked.ensures.input

pub returns-in-Ok-Some-clause-view_file : goal.returns-in-Ok-Some-clause-view_file
returns-in-Ok-Some-clause-view_file g c =
    λ r form name is. of_file _ c.in-Ok-Some.wanted (Lines r form) name _ _ _ _ _ (sym c.in-Ok-Some.field-0-is ∙ c.in-Ok-Some.ensures) is
    c.answer_asked.ensures.file

pub returns-in-Ok-Some-clause-page_file : goal.returns-in-Ok-Some-clause-page_file
returns-in-Ok-Some-clause-page_file g c =
    λ r name is. of_file _ c.in-Ok-Some.wanted (Page r) name _ _ _ _ _ (sym c.in-Ok-Some.field-0-is ∙ c.in-Ok-Some.ensures) is c.answer_asked.ensures.file

pub returns-in-Err-clause-view : goal.returns-in-Err-clause-view
returns-in-Err-clause-view g c = λ o form e.
    let input : Port = record { bytes = g.R.Read.remaining c.args.input.now; failed = g.R.Source.fault_count c.args.input.now } in
    let output : Port = record { bytes = g.W.Write.contents c.args.output.now; failed = g.W.Sink.fault_count c.args.output.now } in
    inr (inl (record {
      halt = Memory;
      breaks = none_seen o form input output Memory refl;
      reports = c.report_halt.ensures.reports;
      status_is =
          c.report_halt.ensures.status;
    }))

pub returns-in-Ok-None-clause-other : goal.returns-in-Ok-None-clause-other
returns-in-Ok-None-clause-other g c = λ none. of_words _ _ _ _ _ _ _ _ _ _ c.known_words-known.ensures c.usage.ensures (c.answer_words.ensures _ refl)

pub returns-in-Err-clause-other : goal.returns-in-Err-clause-other
returns-in-Err-clause-other g c = λ none.
    of_memory _ _ _ _ _ _ _ _ (record { clean = refl; unwritten = refl; reports = c.report_halt.ensures.reports; status_is = c.report_halt.ensures.status })
