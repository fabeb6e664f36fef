use Rattle.std.proofs.Common.{◌∙◌, ◌++◌, Option, ap}
use Rattle.std.specs.Prelude.{codes}
use Rattle.std.specs.Option.{option_to_list}
use Rattle.tstd_rows.specs.declared.excess.Excess.{Excess}
use Rattle.tstd_rows.specs.declared.unit_seen.UnitSeen.{UnitSeen}
use Rattle.tstd_rows.specs.Limits.{tb_size}
use Rattle.events.specs.declared.rule_event.BufferKind.TheVariants.{Transport, Main}
use Rattle.es_events.specs.EntryEvents.{excess_events, late_events, with_size}
use Rattle.es_events.proofs.Joins.{on_ok, three}
use Rattle.es_events.proofs.entry_events.push_under_way.Goals as goal

pub returns : goal.returns
returns c = λ h k.
    let options = c.args.options.now in
    let place = c.args.place.now in
    let events = c.args.events.now.items in
    let first = c.in_ok-push_excess_if.ensures
    ∙ ap (λ (e : Option Excess). events ++ excess_events Transport options (with_size place tb_size) (option_to_list e)) (c.transport_excess-excess.ensures h k) in
    let second = c.in_ok-push_excess_if-2.ensures
    ∙ ap (λ (e : Option Excess). c.push_excess_if.new.events.items ++ excess_events Main options place (option_to_list e)) (c.main_excess-excess.ensures h k) in
    on_ok c.push_late_if.result
    (λ e. three events (c.push_excess_if.new.events.items) (c.push_excess_if-2.new.events.items) (c.push_late_if.new.events.items) _ _ _
    first second (e ∙ ap (λ (u : Option UnitSeen). c.push_excess_if-2.new.events.items ++ late_events options place u) (c.unit.ensures h k)))
    c.push_late_if.ensures
