use Rattle.std.proofs.Common.{◌≡◌, ◌∙◌, ◌++◌, ℕ, List, ap, string_bytes}
use Rattle.event_lines.specs.EventLines.{lines_of}
use Rattle.events.specs.declared.event.Event.{Event}
use Rattle.tsview_cli.specs.CapturedStreams.{IsMore, after_parts, events_of}
use Rattle.tsview_cli.specs.Viewing.{Shows}
use Rattle.tsview_cli.proofs.CapturedParts.{on_ok}
use Rattle.tsview_cli.proofs.viewing.view_lines.Goals as goal

pub returns : goal.returns
returns c = λ first bytes found so_far.
    let m : IsMore first c.take.new.self (bytes ++ c.args.piece.now) found = c.in_ok-take.ensures first bytes found so_far in
    let is : c.deref.result.now ≡ events_of (after_parts first found) m.more = c.deref.ensures.value ∙ m.events in
    on_ok c.write_events.result (λ e. record {
      more = m.more;
      so_far = m.so_far;
      text_is = e ∙ ap (λ (t : List ℕ). t ++ lines_of c.args.form c.deref.result.now) c.requires.out ∙ ap (lines_of c.args.form) is;
    }) c.write_events.ensures
