use Rattle.std.proofs.Common.{◌∙◌, ℕ, List, [], Option, length, sym, ap, subst}
use Rattle.description_parts.specs.Described.{Described}
use Rattle.plan_checker.specs.Served.{Served}
use Rattle.slot_plan.specs.Schedule.{single}
use Rattle.mux_core.specs.Exchanges.{IsOnce, IsEach}
use Rattle.mux_core.specs.LineUps.{served_by}
use Rattle.mux_core.specs.LineUpSteps.{stream_number_before}
use Rattle.mux_core.proofs.ExchangedItems.{each_length, once_each, all_taken}
use Rattle.mux_core.proofs.line_up_parts.kept_queues.Goals as goal

abbrev served : Described → Served
served d = served_by (record { description = d; schedule = single [] })

pub exchange-requires-clause-size : goal.exchange-requires-clause-size
exchange-requires-clause-size g c =
    ap (λ (l : List (Option ℕ)). length l) c.as_slice.ensures.value
    ∙ each_length (stream_number_before c.args.old.now c.args.new.now) c.args.new.now.streams c.streams_before-numbers.result.items c.streams_before-numbers.ensures ∙ sym c.requires

pub exchange-requires-clause-once : goal.exchange-requires-clause-once
exchange-requires-clause-once g c =
    subst (λ (l : List (Option ℕ)). IsOnce l) (sym c.as_slice.ensures.value)
    (once_each (stream_number_before c.args.old.now c.args.new.now) c.args.new.now.streams c.streams_before-numbers.result.items c.streams_before-numbers.ensures
    (λ j k i x y first second. c.moves_once.ensures.streams (served c.args.old.now) (served c.args.new.now) j k i c.keeps_ranges.ensures first second))

pub returns : goal.returns
returns g c =
    all_taken (stream_number_before c.args.old.now c.args.new.now) c.args.new.now.streams c.as_slice.result.now c.args.queues.items c.args.from.now.items c.exchange.new.to.items
    (subst (λ (l : List (Option ℕ)). IsEach (stream_number_before c.args.old.now c.args.new.now) c.args.new.now.streams l) (sym c.as_slice.ensures.value) c.streams_before-numbers.ensures)
    c.exchange.ensures
