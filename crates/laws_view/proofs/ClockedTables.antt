-- The streams of a report on packets that arrive by clock references, once each packet has been viewed
use Rattle.std.proofs.Common.{◌≡◌, ◌∙◌, sym, ℕ, ◌+◌, Bool, true, false, List, [], ◌∷◌, ◌++◌, length, Option, Some, None, refl, ap, subst}
use Rattle.std.specs.Prelude.{slice_get}
use Rattle.arrival.specs.declared.line.Line.{Line}
use Rattle.arrival.specs.declared.arrival.Arrival.{Arrival}
use Rattle.arrival.specs.declared.arrival.Arrival.TheVariants.{Unknown}
use Rattle.packet_times.specs.Waiting.{QueueState, arrival_by, clock_by, last_arrival, no_packet, reference_in, released, still_wait, stepped}
use Rattle.packet_times.specs.declared.packet_queue.ClockPid.{ClockPid}
use Rattle.laws_view.specs.TimedPackets.{Timed, arrived, arriving_so, timed_from, timed_packets, waiting, with_one}
use Rattle.laws_view.proofs.Waits.{Comes, Waits, alone_waits, comes_with, one_waits, waits_first}
use Rattle.es_events.specs.declared.view_options.ViewOptions.{ViewOptions}
use Rattle.ts_report.specs.ClockedViews.{ClockedState, clock_for, queue_of, view_after, view_with}
use Rattle.ts_report.specs.ClockedViews as clocked
use Rattle.ts_report.specs.Seen.{with_arrival}
use Rattle.ts_report.specs.StreamTables.{TableState}
use Rattle.ts_report.specs.Views.{ViewState}
use Rattle.ts_report.specs.Views as views
use Rattle.laws_view.specs.ClockedWindows.{ClockedTablesLaw, last_tables, tables_after, tables_all, tables_in, tables_released}
use Rattle.laws_view.specs.TimedStreams.{view_by}
use Rattle.laws_view.proofs.ClockedStreams.{Like, IsUntimed, again, all_options, each_so, first_waits, like_packet, no_line, not_empty, packet_options}
use Rattle.laws_view.proofs.ClockedStreams.{queue_is}
use Rattle.laws_view.proofs.ClockedStreams.{unknown_line}

-- The tables after each packet

tables_by : ViewState → List Timed → List TableState
tables_by s [] = []
tables_by s (p ∷ packets) =
    (views.after_packet (views.arriving s p.arrival 1) p.bytes).table ∷ tables_by (views.after_packet (views.arriving s p.arrival 1) p.bytes) packets

tables_two : (s : ViewState) (ps qs : List Timed) → tables_by s (ps ++ qs) ≡ tables_by s ps ++ tables_by (view_by s ps) qs
unfolding view_by tables_by
tables_two s [] qs = refl
tables_two s (p ∷ ps) qs =
    let s' : ViewState = views.after_packet (views.arriving s p.arrival 1) p.bytes in
    ap (λ (l : List TableState). s'.table ∷ l) (tables_two s' ps qs)

table_at : (s : ViewState) (before later : List Timed) → slice_get (s.table ∷ tables_by s (before ++ later)) (length before) ≡ Some (view_by s before).table
unfolding view_by tables_by
table_at s [] later = refl
table_at s (p ∷ before) later = table_at (views.after_packet (views.arriving s p.arrival 1) p.bytes) before later

-- Packets with one arrival, all at once and one by one

more_tables : (s s' : ViewState) (arrival : Arrival) (packets : List (List ℕ)) → Like s s' → with_arrival s.seen.options arrival ≡ s.seen.options →
    tables_after s packets ≡ tables_by s' (arriving_so arrival packets)
unfolding tables_after tables_by
more_tables s s' arrival [] l set = refl
more_tables s s' arrival (bytes ∷ packets) l set =
    let r : ViewState = views.arriving s' arrival 1 in
    let ready : Like s r = record {
      options = ap (λ (o : ViewOptions). with_arrival o arrival) l.options ∙ set;
      packets = l.packets;
      clocks = l.clocks;
      named = l.named;
      table = l.table;
    } in
    let now : Like (views.after_packet s bytes) (views.after_packet r bytes) = like_packet s r bytes ready in
    let stays = ap (λ (o : ViewOptions). with_arrival o arrival) (packet_options s bytes) ∙ set ∙ sym (packet_options s bytes) in
    ap (λ (t : TableState). t ∷ tables_after (views.after_packet s bytes) packets) (sym now.table)
    ∙ ap (λ (l : List TableState). (views.after_packet r bytes).table ∷ l)
    (more_tables (views.after_packet s bytes) (views.after_packet r bytes) arrival packets now stays)

so_tables : (v v' : ViewState) (arrival : Arrival) (n : ℕ) (held : List (List ℕ)) → Like v v' → (arrival ≡ Unknown → v.seen.options.arrival ≡ Unknown) →
    tables_after (views.arriving v arrival n) held ≡ tables_by v' (arriving_so arrival held)
unfolding tables_after tables_by
so_tables v v' arrival n [] l unknown = refl
so_tables v v' arrival n (bytes ∷ packets) l unknown =
    let s : ViewState = views.arriving v arrival n in
    let s' : ViewState = views.arriving v' arrival 1 in
    let ready : Like s s' = record {
      options = ap (λ (o : ViewOptions). with_arrival o arrival) l.options;
      packets = l.packets;
      clocks = l.clocks;
      named = l.named;
      table = l.table;
    } in
    let now : Like (views.after_packet s bytes) (views.after_packet s' bytes) = like_packet s s' bytes ready in
    let stays = ap (λ (o : ViewOptions). with_arrival o arrival) (packet_options s bytes) ∙ again v.seen.options arrival unknown
    ∙ sym (packet_options s bytes) in
    ap (λ (t : TableState). t ∷ tables_after (views.after_packet s bytes) packets) (sym now.table)
    ∙ ap (λ (l : List TableState). (views.after_packet s' bytes).table ∷ l)
    (more_tables (views.after_packet s bytes) (views.after_packet s' bytes) arrival packets now stays)

-- A queue, packet by packet

abbrev PassesTables : QueueState → List (List ℕ) → Type 0
PassesTables q packets = (v v' : ViewState) (first here : ℕ) → Waits q first here → IsUntimed q v → (q.held ≡ [] → ⊥) → Like v v' →
    tables_all (record { view = v; queue = Some q }) packets ≡ tables_by v' (timed_from q packets)

-- With one more packet the waiting packets still wait, or they arrive.
one_tables : (q : QueueState) (bytes : List ℕ) (packets : List (List ℕ)) → PassesTables (with_one q bytes) packets → (v v' : ViewState) (first here : ℕ) →
    Waits q first here → IsUntimed q v →
    (q.held ≡ [] → ⊥) → Like v v' → (b : Bool) → still_wait q (reference_in q bytes) ≡ b →
    tables_released v (stepped q bytes) (released q bytes)
    ++ tables_all (record { view = view_after v (stepped q bytes) (released q bytes); queue = Some (with_one q bytes) }) packets
    ≡ tables_by v' (arrived (released q bytes) q.held ++ timed_from (with_one q bytes) packets)
unfolding tables_released view_after arrived
one_tables q bytes packets later v v' first here w untimed some l true h =
    let c : Comes q (reference_in q bytes) first here = comes_with q bytes first here w in
    let none : released q bytes ≡ None = rw h refl in
    let then_before : (with_one q bytes).before ≡ q.before = rw h refl in
    subst (λ (o : Option Arrival).
    tables_released v (stepped q bytes) o ++ tables_all (record { view = view_after v (stepped q bytes) o; queue = Some (with_one q bytes) }) packets
    ≡ tables_by v' (arrived o q.held ++ timed_from (with_one q bytes) packets)) (sym none)
    (later v v' first (here + 1) (one_waits q bytes first here w c h) (λ e. untimed (sym then_before ∙ e)) (not_empty (waiting (released q bytes) q.held) bytes)
    l)
one_tables q bytes packets later v v' first here w untimed some l false h =
    let c : Comes q (reference_in q bytes) first here = comes_with q bytes first here w in
    let line : Option Line = (clock_by q (reference_in q bytes)).line in
    let a : Arrival = arrival_by q.before line in
    let leave : released q bytes ≡ Some a = rw h refl in
    let then_line : (with_one q bytes).before ≡ line = rw h refl in
    let v1 : ViewState = view_with v (stepped q bytes) a in
    let v1' : ViewState = view_by v' (arriving_so a q.held) in
    let rests : List TableState = tables_all (record { view = v1; queue = Some (with_one q bytes) }) packets in
    let known : a ≡ Unknown → v.seen.options.arrival ≡ Unknown = λ e. untimed (w.before ∙ c.none (unknown_line q.before line e)) in
    let now : Like v1 v1' = each_so v v' a (length q.held) q.held some l known in
    let reported : IsUntimed (with_one q bytes) v1 = λ e.
    ap (λ (o : ViewOptions). o.arrival) (all_options (views.arriving v a (length q.held)) q.held) ∙ no_line q.before line (sym then_line ∙ e) in
    let rest = later v1 v1' here (here + 1) (alone_waits q bytes first here w c h) reported (not_empty (waiting (released q bytes) q.held) bytes) now in
    let joined = ap (λ (l : List TableState). l ++ rests) (so_tables v v' a (length q.held) q.held l known)
    ∙ ap (λ (l : List TableState). tables_by v' (arriving_so a q.held) ++ l) rest
    ∙ sym (tables_two v' (arriving_so a q.held) (timed_from (with_one q bytes) packets)) in
    subst (λ (o : Option Arrival).
    tables_released v (stepped q bytes) o ++ tables_all (record { view = view_after v (stepped q bytes) o; queue = Some (with_one q bytes) }) packets
    ≡ tables_by v' (arrived o q.held ++ timed_from (with_one q bytes) packets)) (sym leave) joined

pass_tables : (packets : List (List ℕ)) (q : QueueState) → PassesTables q packets
unfolding tables_all tables_in last_tables timed_from clocked.after_in
pass_tables [] q v v' first here w untimed some l =
    so_tables v v' (last_arrival q) (length q.held) q.held l (λ e. untimed (w.before ∙ unknown_line q.before q.clock.line e))
pass_tables (bytes ∷ packets) q v v' first here w untimed some l =
    subst (λ (x : QueueState).
    tables_released v (stepped q bytes) (released q bytes)
    ++ tables_all (record { view = view_after v (stepped q bytes) (released q bytes); queue = Some x }) packets
    ≡ tables_by v' (timed_from q (bytes ∷ packets))) (sym (queue_is q bytes))
    (one_tables q bytes packets (pass_tables packets (with_one q bytes)) v v' first here w untimed some l (still_wait q (reference_in q bytes)) refl)

-- A report from its first packet on

first_tables : (pid : ClockPid) (v : ViewState) (packets : List (List ℕ)) → v.seen.options.arrival ≡ Unknown →
    tables_all (record { view = v; queue = Some (no_packet pid) }) packets ≡ tables_by v (timed_packets pid packets)
unfolding tables_all tables_in tables_released tables_after last_tables timed_from clocked.after_in view_after arrived tables_by
first_tables pid v [] unknown = refl
first_tables pid v (bytes ∷ packets) unknown =
    let q : QueueState = no_packet pid in
    let h : still_wait q (reference_in q bytes) ≡ true = first_waits pid (reference_in q bytes) in
    let none : released q bytes ≡ None = rw h refl in
    let c : Comes q (reference_in q bytes) 0 0 = comes_with q bytes 0 0 (waits_first pid) in
    let itself : Like v v = record { options = refl; packets = refl; clocks = refl; named = refl; table = refl } in
    let rest = pass_tables packets (with_one q bytes) v v 0 (0 + 1) (one_waits q bytes 0 0 (waits_first pid) c h) (λ e. unknown)
    (not_empty (waiting (released q bytes) q.held) bytes) itself in
    subst (λ (x : QueueState).
    tables_released v (stepped q bytes) (released q bytes)
    ++ tables_all (record { view = view_after v (stepped q bytes) (released q bytes); queue = Some x }) packets
    ≡ tables_by v (timed_from q (bytes ∷ packets))) (sym (queue_is q bytes))
    (subst (λ (o : Option Arrival).
    tables_released v (stepped q bytes) o ++ tables_all (record { view = view_after v (stepped q bytes) o; queue = Some (with_one q bytes) }) packets
    ≡ tables_by v (arrived o q.held ++ timed_from (with_one q bytes) packets)) (sym none) rest)

pub clocked_tables_law : ClockedTablesLaw
unfolding queue_of
clocked_tables_law request packets before later unknown is =
    let pid : ClockPid = clock_for request.choice.programs in
    let v : ViewState = views.start request in
    let start_is : clocked.start request ≡ record { view = v; queue = Some (no_packet pid) } = rw unknown refl in
    let tables : tables_all (clocked.start request) packets ≡ tables_by v (before ++ later) =
    ap (λ (s : ClockedState). tables_all s packets) start_is ∙ first_tables pid v packets unknown ∙ ap (λ (l : List Timed). tables_by v l) is in
    subst (λ (l : List TableState). slice_get (v.table ∷ l) (length before) ≡ Some (view_by v before).table) (sym tables) (table_at v before later)
