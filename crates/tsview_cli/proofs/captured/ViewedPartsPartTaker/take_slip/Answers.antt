use Rattle.std.proofs.Common.{◌∙◌, ◌∷◌, ◌++◌, [], List, ap, subst}
use Rattle.events.specs.declared.event.Event.{Event}
use Rattle.analysis.specs.Analysis.{IsAnalysed, timed, with_event}
use Rattle.tsview_cli.specs.CapturedStreams.{HasParts, after_parts}
use Rattle.tsview_cli.proofs.CapturedParts.{slip_more}
use Rattle.tsview_cli.proofs.captured.ViewedPartsPartTaker.take_slip.Goals as goal

pub returns : goal.returns
returns c = λ first parts taken s is.
    let h : HasParts first c.args.self.now s parts = taken s is in
    let now = after_parts s parts in
    slip_more first c.args.self.now _ s parts c.args.slip h
    (subst (λ (e : Event). IsAnalysed c.take_event.new.self (with_event now e)) c.slip_event.ensures (c.in_ok-take_event.ensures.analysed now h.view))
    (c.in_ok-take_event.ensures.found now h.view ∙ ap (λ (e : Event). c.args.self.now.events.items ++ timed now e) c.slip_event.ensures)
