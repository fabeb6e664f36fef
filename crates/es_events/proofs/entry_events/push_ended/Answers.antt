use Rattle.std.proofs.Common.{◌≡◌, ◌∙◌, ◌++◌, Bool, true, not, true≢false, List, [], Option, Some, None, is_some, refl, ap, sym, append-nil}
use Rattle.tstd_rows.specs.Entering.{entered_view}
use Rattle.tstd_rows.specs.declared.entered.Entered.{Entered}
use Rattle.events.specs.declared.event.Event.{Event}
use Rattle.es_events.specs.declared.entry_events.Place.{Place}
use Rattle.es_events.specs.declared.view_options.ViewOptions.{ViewOptions}
use Rattle.es_events.specs.EntryEvents.{ended_events}
use Rattle.es_events.proofs.entry_events.push_ended.Goals as goal

none_there : {X : Type 0} (o : Option X) (r : Bool) → is_some o ≡ not r → r ≡ true → o ≡ None
none_there None r e t = refl
none_there (Some x) r e t = absurd (true≢false (e ∙ ap not t))

-- If nothing has ended, there is no event.
quiet : (options : ViewOptions) (place : Place) (e : Entered) → e.lead ≡ None → e.header ≡ None → e.payload ≡ None → e.main ≡ None → e.unit ≡ None →
    ended_events options place (entered_view e) ≡ []
unfolding Rattle.es_events.specs.EntryEvents.late_events
quiet options place e a b c d f = rw (a, b, c, d, f) refl

pub returns-then-is_none-5 : goal.returns-then-is_none-5
returns-then-is_none-5 c =
    let e = c.args.entered.now in
    let events : List Event = c.args.events.now.items in
    sym (append-nil events) ∙ ap (λ (l : List Event). events ++ l) (sym (quiet c.args.options.now c.args.place.now e
    (none_there e.lead c.is_none.result c.is_none.ensures c.if-is_none.true)
    (none_there e.header c.is_none-then-is_none.result c.is_none-then-is_none.ensures c.if-is_none-2.true)
    (none_there e.payload c.is_none-then-is_none-2.result c.is_none-then-is_none-2.ensures c.if-is_none-3.true)
    (none_there e.main c.is_none-then-is_none-3.result c.is_none-then-is_none-3.ensures c.if-is_none-4.true)
    (none_there e.unit c.is_none-then-is_none-4.result c.is_none-then-is_none-4.ensures c.if-is_none-5.true)))
