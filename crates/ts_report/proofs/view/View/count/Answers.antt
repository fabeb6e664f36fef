use Rattle.std.proofs.Common.{◌≡◌, ◌∙◌, ◌++◌, ap, ap₂, sym}
use Rattle.ts_packet.specs.Views.{packet_view}
use Rattle.ts_watch.specs.Choices.{ChoiceView}
use Rattle.ts_report.specs.Seen.{SeenState, clock_errors, counted, next_window, system_excesses}
use Rattle.ts_report.specs.Views.{IsView, buffer_events_at, clocked, last_window, system_events_at}
use Rattle.es_events.proofs.Joins.{on_ok, four}
use Rattle.ts_report.proofs.view.View.count.Goals as goal

pub count-requires : goal.count-requires
count-requires c =
    c.next_window-window.ensures ∙ sym (ap (λ (s : SeenState). next_window s) c.in_ok-take_clock.ensures.seen)
    ∙ sym (ap (λ (s : SeenState). next_window s) c.buffer.ensures.seen)

pub returns-clause-view : goal.returns-clause-view
returns-clause-view c = λ s k.
    let packet = packet_view c.args.packet.now in
    let clock : IsView (record { seen = c.take_clock.new.self; table = c.args.self.now.table }) (clocked s packet) =
    record {
      seen = c.in_ok-take_clock.ensures.seen ∙ ap (λ (x : SeenState). (clocked (record { seen = x; table = s.table }) packet).seen) k.seen;
      table =
          k.table;
    } in
    let buffered = c.in_ok-buffer.ensures.view (clocked s packet) clock in
    on_ok c.count.result (λ e. record { seen = e ∙ ap (λ (x : SeenState). counted x packet) buffered.seen; table = buffered.table }) c.count.ensures.seen

pub returns-clause-found : goal.returns-clause-found
returns-clause-found c = λ s k.
    let packet = packet_view c.args.packet.now in
    let clock : IsView (record { seen = c.take_clock.new.self; table = c.args.self.now.table }) (clocked s packet) =
    record {
      seen = c.in_ok-take_clock.ensures.seen ∙ ap (λ (x : SeenState). (clocked (record { seen = x; table = s.table }) packet).seen) k.seen;
      table =
          k.table;
    } in
    let buffered = c.in_ok-buffer.ensures.view (clocked s packet) clock in
    let events = c.args.events.now.items in
    let before = c.buffer.new.events.items in
    let buffers = buffer_events_at (clocked s packet) packet in
    let errors : c.take_clock.new.events.items ≡ c.end_window.new.events.items ++ clock_errors s.seen packet =
    c.in_ok-take_clock.ensures.found ∙ ap (λ (x : SeenState). c.end_window.new.events.items ++ clock_errors x packet) k.seen in
    on_ok c.count.result (λ e. four events (c.end_window.new.events.items) (c.take_clock.new.events.items) before (c.count.new.events.items)
    (last_window s) (clock_errors s.seen packet) buffers (system_events_at (clocked s packet) packet)
    (c.in_ok-end_window.ensures s k) errors (c.in_ok-buffer.ensures.found (clocked s packet) clock)
    (e ∙ ap₂ (λ (x : SeenState) (choice : ChoiceView). before ++ system_excesses x choice packet) buffered.seen (c.choice.ensures _ buffered.table)))
    c.count.ensures.found
