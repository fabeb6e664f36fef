-- What a line `held` says of the buffers, in a report on packets that arrive by clock references
use Rattle.std.proofs.Common.{◌≡◌, ◌∙◌, sym, ℕ, ◌+◌, ◌<◌, List, ◌++◌, length, Option, Some, None, ap, subst, arith, All, append_assoc}
use Rattle.std.specs.Prelude.{slice_get}
use Rattle.std.proofs.lemmas.List.{length-append}
use Rattle.clock27.specs.Units.{byte_ticks_at_1bps}
use Rattle.arrival.specs.declared.arrival.Arrival.TheVariants.{Unknown}
use Rattle.packet_times.specs.Waiting.{no_packet}
use Rattle.laws_view.specs.TimedPackets.{Timed}
use Rattle.ts_watch.specs.Choices.{RequestView}
use Rattle.ts_report.specs.ClockedViews.{clock_for}
use Rattle.es_view.specs.Entries.{EntryState}
use Rattle.ts_report.specs.StreamTables.{TableState}
use Rattle.ts_report.specs.Views.{start}
use Rattle.laws_view.specs.ClockedWindows.{ClockedWindowLaw, ClockedWithoutLaw, OfClockedWindow, report_tables, timed_in}
use Rattle.laws_view.specs.FirstHighs.{ClockedFirstLaw}
use Rattle.laws_view.specs.HeldWindows.{OfWindow}
use Rattle.laws_view.specs.TimedStreams.{InOrder, view_by}
use Rattle.laws_view.specs.TransportHighs.{ClockedTransportLaw}
use Rattle.laws_view.specs.WindowHighs.{ClockedHighLaw}
use Rattle.laws_view.proofs.ClockedStreams.{StepsTick, all_step, clocked_order, once}
use Rattle.laws_view.proofs.ClockedTables.{clocked_tables_law}
use Rattle.laws_view.proofs.FirstWindows.{first_high_law}
use Rattle.laws_view.proofs.HeldWindows.{timed_high_law, timed_window_law, timed_without_law}
use Rattle.laws_view.proofs.Lists.{some_is}
use Rattle.laws_view.proofs.OrderedWindows.{first_all, first_in_order, ordered_transport, step_is}

-- A stream at both ends of a window, in a view of the packets one by one

record InView (request : RequestView) (packets : List (List ℕ)) (before now later : List Timed) (place : ℕ) (o o' : Option EntryState) : Type 0 where
  there : slice_get (view_by (start request) before).table.entries place ≡ o
  then_there : slice_get (view_by (start request) (before ++ now)).table.entries place ≡ o'
  many : length packets ≡ length before + (length now + length later)
  steps : All StepsTick (before ++ now)

table_is : (request : RequestView) (packets : List (List ℕ)) (before later : List Timed) (t : TableState) → request.options.arrival ≡ Unknown →
    timed_in request packets ≡ before ++ later → slice_get (report_tables request packets) (length before) ≡ Some t → (view_by (start request) before).table ≡ t
table_is request packets before later t unknown is at =
    some_is (view_by (start request) before).table t (sym (clocked_tables_law request packets before later unknown is) ∙ at)

in_view : (request : RequestView) (packets : List (List ℕ)) (before now later : List Timed) (place : ℕ) (t t' : TableState) (o o' : Option EntryState) →
    request.options.arrival ≡ Unknown → timed_in request packets ≡ before ++ (now ++ later) →
    slice_get (report_tables request packets) (length before) ≡ Some t → slice_get t.entries place ≡ o →
    slice_get (report_tables request packets) (length (before ++ now)) ≡ Some t' → slice_get t'.entries place ≡ o' →
    InView request packets before now later place o o'
in_view request packets before now later place t t' o o' unknown is at_t there at_t' later_there =
    let whole : timed_in request packets ≡ (before ++ now) ++ later = is ∙ sym (append_assoc before now later) in
    let pid = clock_for request.choice.programs in
    record {
      there = ap (λ (x : TableState). slice_get x.entries place) (table_is request packets before (now ++ later) t unknown is at_t) ∙ there;
      then_there = ap (λ (x : TableState). slice_get x.entries place) (table_is request packets (before ++ now) later t' unknown whole at_t') ∙ later_there;
      many = omega (arith, once pid packets, ap (λ (l : List Timed). length l) is, length-append before (now ++ later), length-append now later);
      steps = first_all StepsTick (before ++ now) later (subst (λ (l : List Timed). All StepsTick l) whole (all_step (no_packet pid) packets));
    }

of_window : (request : RequestView) (packets : List (List ℕ)) (before now later : List Timed) (window place : ℕ) (e e' : EntryState) →
    OfClockedWindow request packets before now later window place e e' → OfWindow request before now window place e e' × (0 < e.held.rate)
of_window request packets before now later window place e e' w =
    let v = in_view request packets before now later place w.t w.t' (Some e) (Some e') w.unknown w.split w.before_it w.begun w.after_it w.come in
    let step : e.held.rate ≡ byte_ticks_at_1bps =
    step_is request byte_ticks_at_1bps before place e (first_all StepsTick before now v.steps) (omega (arith, v.many, w.few)) v.there in (
      record { few = omega (arith, v.many, w.few); begun = v.there; come = v.then_there; other = w.other; all = w.all },
      omega (arith, step),
    )

pub clocked_window_law : ClockedWindowLaw
clocked_window_law request packets before now later window place e e' w has =
    let o = of_window request packets before now later window place e e' w in
    timed_window_law request before now window place e e' o.0 o.1 has

pub clocked_without_law : ClockedWithoutLaw
clocked_without_law request packets before now later window place e e' w last none =
    timed_without_law request before now window place e e' (of_window request packets before now later window place e e' w).0 last none

pub clocked_high_law : ClockedHighLaw
clocked_high_law request packets before now later window place e e' w has =
    let o = of_window request packets before now later window place e e' w in
    timed_high_law request before now window place e e' o.0 o.1 has

pub clocked_first_law : ClockedFirstLaw
clocked_first_law request packets before now later window place t t' e unknown few is at_t there at_t' later_there all =
    let v = in_view request packets before now later place t t' None (Some e) unknown is at_t there at_t' later_there in
    let step : e.held.rate ≡ byte_ticks_at_1bps =
    step_is request byte_ticks_at_1bps (before ++ now) place e v.steps (omega (arith, v.many, few, length-append before now)) v.then_there in
    first_high_law request before now window place e (omega (arith, v.many, few)) v.there v.then_there all (omega (arith, step))

pub clocked_transport_law : ClockedTransportLaw
clocked_transport_law request packets before now later window place e e' w reported whole few some =
    let split : timed_in request packets ≡ (before ++ now) ++ later = w.split ∙ sym (append_assoc before now later) in
    let order : InOrder byte_ticks_at_1bps ((before ++ now) ++ later) =
    subst (λ (l : List Timed). InOrder byte_ticks_at_1bps l) split (clocked_order (clock_for request.choice.programs) packets whole) in
    ordered_transport request byte_ticks_at_1bps before now window place e e' (of_window request packets before now later window place e e' w).0 reported
    (omega arith)
    (first_in_order byte_ticks_at_1bps (before ++ now) later order) few some
