use Rattle.std.proofs.Common.{◌≡◌, ◌++◌, ◌∙◌, ℕ, Bool, List, Ok, ap, subst, sym, string_bytes}
use Rattle.analysis.specs.Analysis.{start}
use Rattle.tsview_cli.specs.CapturedStreams.{IsSoFar}
use Rattle.tsview_cli.specs.Viewing.{EndShows, Sees}
use Rattle.tsview_cli.specs.declared.viewing.Viewed.{Viewed}
use Rattle.devices.specs.Devices.{Device, Port, between}
use Rattle.tsview_cli.proofs.Viewed.{EndsWith, broken, no_end, not_ended, viewed_so}
use Rattle.tsview_cli.proofs.viewing.view_whole.Goals as goal

pub returns-in-Err : goal.returns-in-Err
returns-in-Err g c = λ o e same.
    let input : Device = between (record { bytes = g.R.Read.remaining c.args.input.now; failed = g.R.Source.fault_count c.args.input.now })
    (record { bytes = g.R.Read.remaining c.view_pieces.new.input; failed = g.R.Source.fault_count c.view_pieces.new.input }) in
    let output : Device = between (record { bytes = g.W.Write.contents c.args.output.now; failed = g.W.Sink.fault_count c.args.output.now })
    (record { bytes = g.W.Write.contents c.view_pieces.new.output; failed = g.W.Sink.fault_count c.view_pieces.new.output }) in
    broken o c.args.form input output c.in-Err.halt (c.in-Err.ensures.err (start o) e)

pub returns-in-Err-end_view : goal.returns-in-Err-end_view
returns-in-Err-end_view g c = λ o e same.
    let input : Device = between (record { bytes = g.R.Read.remaining c.args.input.now; failed = g.R.Source.fault_count c.args.input.now })
    (record { bytes = g.R.Read.remaining c.view_pieces.new.input; failed = g.R.Source.fault_count c.view_pieces.new.input }) in
    let output : Device = between (record { bytes = g.W.Write.contents c.args.output.now; failed = g.W.Sink.fault_count c.args.output.now })
    (record { bytes = g.W.Write.contents c.view_pieces.new.output; failed = g.W.Sink.fault_count c.view_pieces.new.output }) in
    no_end o c.args.form input output c.view_pieces.new.stream _ c.in-Err-end_view.halt c.in-Err-end_view.ensures.memory
    (c.in-Ok.ensures.ok (start o) e)

pub returns-in-Err-write_text : goal.returns-in-Err-write_text
returns-in-Err-write_text g c = λ o e same.
    let input : Device = between (record { bytes = g.R.Read.remaining c.args.input.now; failed = g.R.Source.fault_count c.args.input.now })
    (record { bytes = g.R.Read.remaining c.view_pieces.new.input; failed = g.R.Source.fault_count c.view_pieces.new.input }) in
    let begin : Port = record { bytes = g.W.Write.contents c.args.output.now; failed = g.W.Sink.fault_count c.args.output.now } in
    let mid : Port = record { bytes = g.W.Write.contents c.view_pieces.new.output; failed = g.W.Sink.fault_count c.view_pieces.new.output } in
    let end : Port = record { bytes = g.W.Write.contents c.write_text.new.to; failed = g.W.Sink.fault_count c.write_text.new.to } in
    let ends : EndsWith c.args.rate c.args.form c.view_pieces.new.stream c.as_str.result.now c.in-Ok-end_view.good =
    λ first bytes found so_far. subst (λ (t : List ℕ). EndShows c.args.rate c.args.form first bytes found t c.in-Ok-end_view.good) (sym c.as_str.ensures.value)
    (c.in-Ok-end_view.ensures.shown first bytes found so_far) in
    not_ended (Unit {0}) o c.args.form input begin mid end c.view_pieces.new.stream _ c.as_str.result.now c.in-Err-write_text.halt c.args.rate
    c.in-Ok-end_view.good same
    (c.in-Ok.ensures.ok (start o) e) ends c.in-Err-write_text.ensures

pub returns-in-Ok-write_text : goal.returns-in-Ok-write_text
returns-in-Ok-write_text g c = λ o e same.
    let input : Device = between (record { bytes = g.R.Read.remaining c.args.input.now; failed = g.R.Source.fault_count c.args.input.now })
    (record { bytes = g.R.Read.remaining c.view_pieces.new.input; failed = g.R.Source.fault_count c.view_pieces.new.input }) in
    let begin : Port = record { bytes = g.W.Write.contents c.args.output.now; failed = g.W.Sink.fault_count c.args.output.now } in
    let mid : Port = record { bytes = g.W.Write.contents c.view_pieces.new.output; failed = g.W.Sink.fault_count c.view_pieces.new.output } in
    let end : Port = record { bytes = g.W.Write.contents c.write_text.new.to; failed = g.W.Sink.fault_count c.write_text.new.to } in
    let ends : EndsWith c.args.rate c.args.form c.view_pieces.new.stream c.as_str.result.now c.in-Ok-end_view.good =
    λ first bytes found so_far. subst (λ (t : List ℕ). EndShows c.args.rate c.args.form first bytes found t c.in-Ok-end_view.good) (sym c.as_str.ensures.value)
    (c.in-Ok-end_view.ensures.shown first bytes found so_far) in
    subst (λ (v : Viewed). Sees o c.args.form input (between begin end) (Ok v)) (sym c.as_viewed.ensures)
    (viewed_so o c.args.form input begin mid end c.view_pieces.new.stream _ c.as_str.result.now c.args.rate c.is_crowded-crowded.result c.in-Ok-end_view.good
    same c.is_crowded-crowded.ensures
    (c.in-Ok.ensures.ok (start o) e) ends
    c.in-Ok-write_text.ensures.0 c.in-Ok-write_text.ensures.1)
