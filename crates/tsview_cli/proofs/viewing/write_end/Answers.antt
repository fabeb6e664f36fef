use Rattle.std.proofs.Common.{◌≡◌, ◌∙◌, ◌++◌, ℕ, List, ap, string_bytes}
use Rattle.capture.specs.Captures.{capture_of}
use Rattle.event_lines.specs.EventLines.{lines_of}
use Rattle.tsview_cli.specs.CapturedStreams.{IsEnded, after_parts, events_of, last_events, left_in, parts_in}
use Rattle.tsview_cli.proofs.viewing.write_end.Goals as goal

pub returns : goal.returns
returns c = λ first bytes found so_far.
    let e : IsEnded c.args.rate first c.end.new.self bytes found c.in_ok-good.good = c.in_ok-good.ensures first bytes found so_far in
    let is : c.deref.result.now ≡ events_of (after_parts first found) e.more
    ++ last_events c.args.rate (capture_of bytes).form (after_parts first (parts_in bytes)) (left_in bytes) =
    c.deref.ensures.value ∙ e.events in
    record {
      more = e.more;
      parts_are = e.parts_are;
      text_is = c.in_ok-write_events.ensures ∙ ap (λ (t : List ℕ). t ++ lines_of c.args.form c.deref.result.now) c.requires.out ∙ ap (lines_of c.args.form) is;
      good_is = e.good_is;
    }
