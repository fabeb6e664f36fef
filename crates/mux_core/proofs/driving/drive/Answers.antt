use Rattle.std.proofs.Common.{◌≡◌, ◌∷◌, [], ℕ, List, length, map, sym, ap, ◌∙◌, subst, arith, rules}
use Rattle.mux_core.specs.Histories.{bytes_of}
use Rattle.mux_core.specs.Headline.{HeadlineOver}
use Rattle.mux_core.specs.declared.driving.Event.{Event}
use Rattle.mux_core.specs.Events.{Step, FeedStep, SlotStep, shown, history_after, Adds, StillRepresents}
use Rattle.mux_core.proofs.EventSteps.{Driven, driven_none, driven_more, driven_unit, driven_represents, driven_adds, driven_headline}
use Rattle.mux_core.proofs.driving.drive.Goals as goal

pub events-init : goal.events-init
events-init g c = record {
  room = search rules;
  driven = λ h st.
      subst (λ (l : List ℕ). Driven h c.args.mux.now c.args.mux.now (map (shown {A = g.row.A.Denot}) c.from-left.result.items)
      (map (shown {A = g.row.A.Denot}) c.from-left.result.items) c.args.out.now.items l)
      (sym c.reserve.ensures.items) (driven_none h c.args.mux.now (map (shown {A = g.row.A.Denot}) c.from-left.result.items) c.args.out.now.items st);
}

pub events-preserved-in-Feed : goal.events-preserved-in-Feed
events-preserved-in-Feed g c =
    let left = map (shown {A = g.row.A.Denot}) c.pop_front.new.self.items in
    let next : map (shown {A = g.row.A.Denot}) c.events.left.items ≡ FeedStep c.in-Feed.stream c.in-Feed.unit ∷ map (shown {A = g.row.A.Denot})
    c.pop_front.new.self.items =
    ap (map (shown {A = g.row.A.Denot})) c.in-Some-pop_front.ensures.items
    ∙ ap (λ (e : Event g.row.A.Denot). shown {A = g.row.A.Denot} e ∷ left) c.in-Feed.is in
    record {
      room = omega (arith, c.events.invariant.room, ap (length {A = Event g.row.A.Denot}) c.in-Some-pop_front.ensures.items);
      driven = λ h st.
          let w = subst
          (λ (l : List Step). Driven h c.args.mux.now c.events.mux (map (shown {A = g.row.A.Denot}) c.from-left.result.items) l c.args.out.now.items
          c.events.out.items) next
          (c.events.invariant.driven h st) in
          let on = c.take_unit.ensures w.so_far w.represents.represents in
          driven_more h c.args.mux.now c.events.mux c.take_unit.new.mux (map (shown {A = g.row.A.Denot}) c.from-left.result.items) left
          (FeedStep c.in-Feed.stream c.in-Feed.unit)
          c.args.out.now.items c.events.out.items c.events.out.items w on.0 (driven_unit c.events.mux.schedule w.so_far _ c.events.out.items on.1);
    }

pub events-preserved : goal.events-preserved
events-preserved g c =
    let left = map (shown {A = g.row.A.Denot}) c.pop_front.new.self.items in
    let next : map (shown {A = g.row.A.Denot}) c.events.left.items ≡ SlotStep ∷ map (shown {A = g.row.A.Denot}) c.pop_front.new.self.items =
    ap (map (shown {A = g.row.A.Denot})) c.in-Some-pop_front.ensures.items
    ∙ ap (λ (e : Event g.row.A.Denot). shown {A = g.row.A.Denot} e ∷ left) c.in-Slot.is in
    record {
      room = omega (
        arith,
        c.events.invariant.room,
        c.write_slot.ensures.len,
        c.write_slot.ensures.capacity,
        ap (length {A = Event g.row.A.Denot}) c.in-Some-pop_front.ensures.items,
      );
      driven = λ h st.
          let w = subst
          (λ (l : List Step). Driven h c.args.mux.now c.events.mux (map (shown {A = g.row.A.Denot}) c.from-left.result.items) l c.args.out.now.items
          c.events.out.items) next
          (c.events.invariant.driven h st) in
          driven_more h c.args.mux.now c.events.mux c.write_slot.new.mux (map (shown {A = g.row.A.Denot}) c.from-left.result.items) left SlotStep
          c.args.out.now.items c.events.out.items c.write_slot.new.out.items w (c.write_slot.ensures.represents w.so_far w.represents.represents)
          (c.write_slot.ensures.written w.so_far w.represents.represents);
    }

pub returns-clause-represents : goal.returns-clause-represents
returns-clause-represents g c = λ h st.
    let none : c.events.left.items ≡ [] = search rules in
    subst (λ (l : List (Event g.row.A.Denot)). StillRepresents
    (history_after c.args.mux.now.schedule c.args.mux.now.capacity h (map (shown {A = g.row.A.Denot}) l))
    c.args.mux.now c.events.mux) c.from-left.ensures.0
    (driven_represents h c.args.mux.now c.events.mux _ _ _ _ (c.events.invariant.driven h st) (ap (map (shown {A = g.row.A.Denot})) none))

pub returns-clause-written : goal.returns-clause-written
returns-clause-written g c = λ h st.
    let none : c.events.left.items ≡ [] = search rules in
    subst (λ (l : List (Event g.row.A.Denot)). Adds c.args.mux.now.schedule h
    (history_after c.args.mux.now.schedule c.args.mux.now.capacity h (map (shown {A = g.row.A.Denot}) l)) c.args.out.now.items c.events.out.items)
    c.from-left.ensures.0
    (driven_adds h c.args.mux.now c.events.mux _ _ _ _ (c.events.invariant.driven h st) (ap (map (shown {A = g.row.A.Denot})) none))

pub returns-clause-headline : goal.returns-clause-headline
returns-clause-headline g c = λ h st.
    let none : c.events.left.items ≡ [] = search rules in
    subst (λ (l : List (Event g.row.A.Denot)). HeadlineOver c.args.mux.now.schedule
    (history_after c.args.mux.now.schedule c.args.mux.now.capacity h (map (shown {A = g.row.A.Denot}) l)).changes
    (history_after c.args.mux.now.schedule c.args.mux.now.capacity h (map (shown {A = g.row.A.Denot}) l)).units
    (history_after c.args.mux.now.schedule c.args.mux.now.capacity h (map (shown {A = g.row.A.Denot}) l)).slots
    (bytes_of c.args.mux.now.schedule (history_after c.args.mux.now.schedule c.args.mux.now.capacity h (map (shown {A = g.row.A.Denot}) l))))
    c.from-left.ensures.0
    (driven_headline h c.args.mux.now c.events.mux _ _ _ _ c.keeps_promises.ensures.ranges c.keeps_promises.ensures.promised (c.events.invariant.driven h st)
    (ap (map (shown {A = g.row.A.Denot})) none))
