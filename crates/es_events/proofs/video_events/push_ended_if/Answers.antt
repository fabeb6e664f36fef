use Rattle.std.proofs.Common.{◌≡◌, ◌∙◌, ◌++◌, Bool, true, not, true≢false, List, [], Option, Some, None, is_some, refl, ap, sym, append-nil}
use Rattle.tstd_rows.specs.HeldVideo.{video_view}
use Rattle.tstd_rows.specs.declared.video_buffers.VideoEntered.{VideoEntered}
use Rattle.events.specs.declared.event.Event.{Event}
use Rattle.es_events.specs.declared.entry_events.Place.{Place}
use Rattle.es_events.specs.declared.video_tally.VideoLimits.{VideoLimits}
use Rattle.es_events.specs.declared.view_options.ViewOptions.{ViewOptions}
use Rattle.es_events.specs.VideoEvents.{ended_of_both}
use Rattle.es_events.proofs.video_events.push_ended_if.Goals as goal

none_there : {X : Type 0} (o : Option X) (r : Bool) → is_some o ≡ not r → r ≡ true → o ≡ None
none_there None r e t = refl
none_there (Some x) r e t = absurd (true≢false (e ∙ ap not t))

-- If nothing has ended, there is no event.
quiet : (options : ViewOptions) (place : Place) (limits : VideoLimits) (e : VideoEntered) → e.waiting ≡ None → e.free ≡ None → e.elementary ≡ None →
    e.unit ≡ None → ended_of_both options place limits (video_view e) e.unit ≡ []
unfolding Rattle.es_events.specs.VideoEvents.elementary_late_events
quiet options place limits e a b c d = rw (a, b, c, d) refl

pub returns-then-is_none-4 : goal.returns-then-is_none-4
returns-then-is_none-4 c =
    let e = c.args.entered.now in
    let events : List Event = c.args.events.now.items in
    sym (append-nil events) ∙ ap (λ (l : List Event). events ++ l) (sym (quiet c.args.options.now c.args.place.now c.args.limits.now e
    (none_there e.waiting c.is_none.result c.is_none.ensures c.if-is_none.true)
    (none_there e.free c.is_none-then-is_none.result c.is_none-then-is_none.ensures c.if-is_none-2.true)
    (none_there e.elementary c.is_none-then-is_none-2.result c.is_none-then-is_none-2.ensures c.if-is_none-3.true)
    (none_there e.unit c.is_none-then-is_none-3.result c.is_none-then-is_none-3.ensures c.if-is_none-4.true)))
