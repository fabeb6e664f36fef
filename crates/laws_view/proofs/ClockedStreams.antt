-- In a report on packets that arrive by clock references, the last lines of a stream are about all packets of its PID.
use Rattle.std.proofs.Common.{◌≡◌, ◌∙◌, sym, ℕ, ◌+◌, Bool, true, false, List, [], ◌∷◌, ◌++◌, length, Option, Some, None, refl, ap, subst, arith, All}
use Rattle.std.specs.Prelude.{slice_get}
use Rattle.std.proofs.lemmas.List.{length-map}
use Rattle.std.proofs.lemmas.List.Elements.{All-nil, All-cons, All-append}
use Rattle.clock27.specs.Units.{byte_ticks_at_1bps}
use Rattle.ts_packet.specs.Views.{PacketView}
use Rattle.ts_packet.specs.Reading.{packet_at}
use Rattle.arrival.specs.declared.line.Line.{Line}
use Rattle.arrival.specs.declared.clock.PcrSample.{PcrSample}
use Rattle.arrival.specs.declared.arrival.Arrival.{Arrival}
use Rattle.arrival.specs.declared.arrival.Arrival.TheVariants.{Unknown, AtRate, OnLines}
use Rattle.arrival.specs.Arrivals.{step_of}
use Rattle.arrival.specs.ArrivalClocks.{line_from}
use Rattle.arrival.specs.Clock.{step_after}
use Rattle.packet_times.specs.Waiting.{QueueState, arrival_by, clock_by, last_arrival, line_by, no_packet, reference_in, released, still_wait, stepped}
use Rattle.packet_times.specs.declared.packet_queue.ClockPid.{ClockPid}
use Rattle.tr101290.specs.Windows.{one_more}
use Rattle.laws_view.specs.TimedPackets.{Timed, arrived, timed_from, timed_packets, waiting, with_one}
use Rattle.laws_view.specs.TimedPackets as timed
use Rattle.laws_view.proofs.Leads.{lead_law}
use Rattle.laws_view.proofs.TimedPackets.{each_once, rises_law}
use Rattle.laws_view.proofs.Waits.{Comes, Waits, alone_waits, comes_with, one_waits, waits_first}
use Rattle.es_events.specs.declared.view_options.ViewOptions.{ViewOptions}
use Rattle.ts_report.specs.ClockedViews.{ClockedState, clock_for, held_after, last_view, queue_after, queue_of, view_after, view_with}
use Rattle.ts_report.specs.ClockedViews as clocked
use Rattle.ts_report.specs.StreamTables.{TableState}
use Rattle.ts_report.specs.Seen.{origin_after, origin_on, with_arrival}
use Rattle.ts_report.specs.Views.{ViewState}
use Rattle.ts_report.specs.Views as views
use Rattle.laws_view.specs.StreamPackets.{sound_packet}
use Rattle.laws_view.specs.TimedStreams.{ClockedStreamLaw, InOrder, view_by}
use Rattle.laws_view.proofs.Steps.{after_sound, finished, next, packet_is, sound_options}
use Rattle.laws_view.proofs.TimedWhole.{timed_stream_law}

-- Two views that know the same of their streams

pub record Like (s s' : ViewState) : Type 0 where
  pub options : s'.seen.options ≡ s.seen.options
  pub packets : s'.seen.packets ≡ s.seen.packets
  pub clocks : s'.seen.clocks ≡ s.seen.clocks
  pub named : s'.seen.named ≡ s.seen.named
  pub table : s'.table ≡ s.table

like_sound : (s s' : ViewState) (o : Option PacketView) (bytes : List ℕ) → Like s s' →
    Like (finished (after_sound s o) bytes) (finished (after_sound s' o) bytes)
unfolding after_sound
like_sound s s' None bytes l = record {
  options = l.options;
  packets = ap (λ (n : ℕ). one_more n) l.packets;
  clocks = l.clocks;
  named = rw l.named refl;
  table = l.table;
}
like_sound s s' (Some packet) bytes l = record {
  options = l.options;
  packets = ap (λ (n : ℕ). one_more n) l.packets;
  clocks = rw (l.clocks, l.options, l.packets) refl;
  named = rw l.named refl;
  table = rw (l.options, l.packets, l.clocks, l.named, l.table) refl;
}

pub like_packet : (s s' : ViewState) (bytes : List ℕ) → Like s s' → Like (views.after_packet s bytes) (views.after_packet s' bytes)
like_packet s s' bytes l =
    subst (λ (x : ViewState). Like x (views.after_packet s' bytes)) (sym (packet_is s bytes))
    (subst (λ (x : ViewState). Like (next s bytes) x) (sym (packet_is s' bytes)) (like_sound s s' (sound_packet (packet_at bytes)) bytes l))

pub packet_options : (s : ViewState) (bytes : List ℕ) → (views.after_packet s bytes).seen.options ≡ s.seen.options
packet_options s bytes = ap (λ (x : ViewState). x.seen.options) (packet_is s bytes) ∙ sound_options s (sound_packet (packet_at bytes))

pub all_options : (s : ViewState) (packets : List (List ℕ)) → (views.after_all s packets).seen.options ≡ s.seen.options
unfolding views.after_all
all_options s [] = refl
all_options s (bytes ∷ packets) = all_options (views.after_packet s bytes) packets ∙ packet_options s bytes

-- Packets with one arrival, all at once and one by one

-- Setting an arrival twice equals setting it once.
pub again : (o : ViewOptions) (arrival : Arrival) → (arrival ≡ Unknown → o.arrival ≡ Unknown) →
    with_arrival (with_arrival o arrival) arrival ≡ with_arrival o arrival
unfolding origin_after origin_on
again o Unknown unknown = rw (unknown refl) refl
again o (AtRate rate) unknown = refl
again o (OnLines lines) unknown = refl

pub each_more : (s s' : ViewState) (arrival : Arrival) (packets : List (List ℕ)) → Like s s' → with_arrival s.seen.options arrival ≡ s.seen.options →
    Like (views.after_all s packets) (view_by s' (timed.arriving_so arrival packets))
unfolding views.after_all view_by
each_more s s' arrival [] l set = l
each_more s s' arrival (bytes ∷ packets) l set =
    let ready : Like s (views.arriving s' arrival 1) = record {
      options = ap (λ (o : ViewOptions). with_arrival o arrival) l.options ∙ set;
      packets = l.packets;
      clocks = l.clocks;
      named = l.named;
      table = l.table;
    } in
    let stays = ap (λ (o : ViewOptions). with_arrival o arrival) (packet_options s bytes) ∙ set ∙ sym (packet_options s bytes) in
    each_more (views.after_packet s bytes) (views.after_packet (views.arriving s' arrival 1) bytes) arrival packets
    (like_packet s (views.arriving s' arrival 1) bytes ready) stays

pub each_so : (v v' : ViewState) (arrival : Arrival) (n : ℕ) (held : List (List ℕ)) → (held ≡ [] → ⊥) → Like v v' →
    (arrival ≡ Unknown → v.seen.options.arrival ≡ Unknown) →
    Like (views.after_all (views.arriving v arrival n) held) (view_by v' (timed.arriving_so arrival held))
unfolding views.after_all view_by
each_so v v' arrival n [] some l unknown = absurd (some refl)
each_so v v' arrival n (bytes ∷ packets) some l unknown =
    let s : ViewState = views.arriving v arrival n in
    let s' : ViewState = views.arriving v' arrival 1 in
    let ready : Like s s' = record {
      options = ap (λ (o : ViewOptions). with_arrival o arrival) l.options;
      packets = l.packets;
      clocks = l.clocks;
      named = l.named;
      table = l.table;
    } in
    let stays = ap (λ (o : ViewOptions). with_arrival o arrival) (packet_options s bytes) ∙ again v.seen.options arrival unknown
    ∙ sym (packet_options s bytes) in
    each_more (views.after_packet s bytes) (views.after_packet s' bytes) arrival packets (like_packet s s' bytes ready) stays

pub view_two : (s : ViewState) (ps qs : List Timed) → view_by s (ps ++ qs) ≡ view_by (view_by s ps) qs
unfolding view_by
view_two s [] qs = refl
view_two s (p ∷ ps) qs = view_two (views.after_packet (views.arriving s p.arrival 1) p.bytes) ps qs

-- A queue, packet by packet

held_is : (q : QueueState) (o : Option Arrival) → held_after q o ≡ waiting o q.held
unfolding held_after waiting
held_is q None = refl
held_is q (Some arrival) = refl

pub queue_is : (q : QueueState) (bytes : List ℕ) → queue_after q bytes ≡ with_one q bytes
queue_is q bytes = rw (held_is (stepped q bytes) (released q bytes)) refl

pub unknown_line : (before line : Option Line) → arrival_by before line ≡ Unknown → line ≡ None
unfolding arrival_by
unknown_line before None e = refl
unknown_line None (Some line) e = absurd (let no : ⊥ = cc in no)
unknown_line (Some before) (Some line) e = absurd (let no : ⊥ = cc in no)

pub no_line : (before line : Option Line) → line ≡ None → arrival_by before line ≡ Unknown
unfolding arrival_by
no_line before line e = rw e refl

pub not_empty : (held : List (List ℕ)) (bytes : List ℕ) → held ++ bytes ∷ [] ≡ [] → ⊥
not_empty [] bytes e = cc
not_empty (b ∷ held) bytes e = cc

-- While the queue knows no line, the arrival of the view is `Unknown`.
abbrev pub IsUntimed : QueueState → ViewState → Type 0
IsUntimed q v = q.before ≡ None → v.seen.options.arrival ≡ Unknown

-- At the end the view knows the same of its streams as a view of the packets one by one.
abbrev Ends : QueueState → List (List ℕ) → Type 0
Ends q packets = (v v' : ViewState) (first here : ℕ) → Waits q first here → IsUntimed q v → (q.held ≡ [] → ⊥) → Like v v' →
    Like (last_view (clocked.after_all (record { view = v; queue = Some q }) packets).view
    (clocked.after_all (record { view = v; queue = Some q }) packets).queue)
    (view_by v' (timed_from q packets))

-- With one more packet the waiting packets still wait, or they arrive.
one_view : (q : QueueState) (bytes : List ℕ) (packets : List (List ℕ)) → Ends (with_one q bytes) packets → (v v' : ViewState) (first here : ℕ) →
    Waits q first here → IsUntimed q v →
    (q.held ≡ [] → ⊥) → Like v v' → (b : Bool) → still_wait q (reference_in q bytes) ≡ b →
    Like
    (last_view (clocked.after_all (record { view = view_after v (stepped q bytes) (released q bytes); queue = Some (with_one q bytes) }) packets).view
    (clocked.after_all (record { view = view_after v (stepped q bytes) (released q bytes); queue = Some (with_one q bytes) }) packets).queue)
    (view_by v' (arrived (released q bytes) q.held ++ timed_from (with_one q bytes) packets))
unfolding view_after arrived
one_view q bytes packets later v v' first here w untimed some l true h =
    let c : Comes q (reference_in q bytes) first here = comes_with q bytes first here w in
    let none : released q bytes ≡ None = rw h refl in
    let then_before : (with_one q bytes).before ≡ q.before = rw h refl in
    subst (λ (o : Option Arrival). Like
    (last_view (clocked.after_all (record { view = view_after v (stepped q bytes) o; queue = Some (with_one q bytes) }) packets).view
    (clocked.after_all (record { view = view_after v (stepped q bytes) o; queue = Some (with_one q bytes) }) packets).queue)
    (view_by v' (arrived o q.held ++ timed_from (with_one q bytes) packets))) (sym none)
    (later v v' first (here + 1) (one_waits q bytes first here w c h) (λ e. untimed (sym then_before ∙ e)) (not_empty (waiting (released q bytes) q.held) bytes)
    l)
one_view q bytes packets later v v' first here w untimed some l false h =
    let c : Comes q (reference_in q bytes) first here = comes_with q bytes first here w in
    let line : Option Line = (clock_by q (reference_in q bytes)).line in
    let a : Arrival = arrival_by q.before line in
    let leave : released q bytes ≡ Some a = rw h refl in
    let then_line : (with_one q bytes).before ≡ line = rw h refl in
    let v1 : ViewState = view_with v (stepped q bytes) a in
    let v1' : ViewState = view_by v' (timed.arriving_so a q.held) in
    let now : Like v1 v1' = each_so v v' a (length q.held) q.held some l (λ e. untimed (w.before ∙ c.none (unknown_line q.before line e))) in
    let reported : IsUntimed (with_one q bytes) v1 = λ e.
    ap (λ (o : ViewOptions). o.arrival) (all_options (views.arriving v a (length q.held)) q.held) ∙ no_line q.before line (sym then_line ∙ e) in
    let rest = later v1 v1' here (here + 1) (alone_waits q bytes first here w c h) reported (not_empty (waiting (released q bytes) q.held) bytes) now in
    let joined = subst (λ (x : ViewState). Like
    (last_view (clocked.after_all (record { view = v1; queue = Some (with_one q bytes) }) packets).view
    (clocked.after_all (record { view = v1; queue = Some (with_one q bytes) }) packets).queue) x)
    (sym (view_two v' (timed.arriving_so a q.held) (timed_from (with_one q bytes) packets))) rest in
    subst (λ (o : Option Arrival). Like
    (last_view (clocked.after_all (record { view = view_after v (stepped q bytes) o; queue = Some (with_one q bytes) }) packets).view
    (clocked.after_all (record { view = view_after v (stepped q bytes) o; queue = Some (with_one q bytes) }) packets).queue)
    (view_by v' (arrived o q.held ++ timed_from (with_one q bytes) packets))) (sym leave) joined

end_of : (packets : List (List ℕ)) (q : QueueState) → Ends q packets
unfolding clocked.after_all clocked.after_in last_view timed_from
end_of [] q v v' first here w untimed some l =
    each_so v v' (last_arrival q) (length q.held) q.held some l (λ e. untimed (w.before ∙ unknown_line q.before q.clock.line e))
end_of (bytes ∷ packets) q v v' first here w untimed some l =
    subst (λ (x : QueueState). Like
    (last_view (clocked.after_all (record { view = view_after v (stepped q bytes) (released q bytes); queue = Some x }) packets).view
    (clocked.after_all (record { view = view_after v (stepped q bytes) (released q bytes); queue = Some x }) packets).queue)
    (view_by v' (timed_from q (bytes ∷ packets)))) (sym (queue_is q bytes))
    (one_view q bytes packets (end_of packets (with_one q bytes)) v v' first here w untimed some l (still_wait q (reference_in q bytes)) refl)

-- A report from its first packet on

pub first_waits : (pid : ClockPid) (o : Option (ℕ × PcrSample)) → still_wait (no_packet pid) o ≡ true
unfolding line_by line_from step_after
first_waits pid None = refl
first_waits pid (Some r) = refl

first_view : (pid : ClockPid) (v : ViewState) (bytes : List ℕ) (packets : List (List ℕ)) → v.seen.options.arrival ≡ Unknown →
    Like
    (last_view (clocked.after_all (record { view = v; queue = Some (no_packet pid) }) (bytes ∷ packets)).view
    (clocked.after_all (record { view = v; queue = Some (no_packet pid) }) (bytes ∷ packets)).queue)
    (view_by v (timed_packets pid (bytes ∷ packets)))
unfolding clocked.after_all clocked.after_in timed_from view_after arrived
first_view pid v bytes packets unknown =
    let q : QueueState = no_packet pid in
    let h : still_wait q (reference_in q bytes) ≡ true = first_waits pid (reference_in q bytes) in
    let none : released q bytes ≡ None = rw h refl in
    let c : Comes q (reference_in q bytes) 0 0 = comes_with q bytes 0 0 (waits_first pid) in
    let itself : Like v v = record { options = refl; packets = refl; clocks = refl; named = refl; table = refl } in
    let rest = end_of packets (with_one q bytes) v v 0 (0 + 1) (one_waits q bytes 0 0 (waits_first pid) c h) (λ e. unknown)
    (not_empty (waiting (released q bytes) q.held) bytes) itself in
    subst (λ (x : QueueState). Like
    (last_view (clocked.after_all (record { view = view_after v (stepped q bytes) (released q bytes); queue = Some x }) packets).view
    (clocked.after_all (record { view = view_after v (stepped q bytes) (released q bytes); queue = Some x }) packets).queue)
    (view_by v (timed_from q (bytes ∷ packets)))) (sym (queue_is q bytes))
    (subst (λ (o : Option Arrival). Like
    (last_view (clocked.after_all (record { view = view_after v (stepped q bytes) o; queue = Some (with_one q bytes) }) packets).view
    (clocked.after_all (record { view = view_after v (stepped q bytes) o; queue = Some (with_one q bytes) }) packets).queue)
    (view_by v (arrived o q.held ++ timed_from (with_one q bytes) packets))) (sym none) rest)

-- Each byte takes the same step.

line_step : (before line : Option Line) → step_of (arrival_by before line) ≡ byte_ticks_at_1bps
unfolding arrival_by step_of
line_step before None = refl
line_step None (Some line) = refl
line_step (Some before) (Some line) = refl

abbrev pub StepsTick : Timed → Type 0
StepsTick p = step_of p.arrival ≡ byte_ticks_at_1bps

so_step : (arrival : Arrival) (packets : List (List ℕ)) → step_of arrival ≡ byte_ticks_at_1bps → All StepsTick (timed.arriving_so arrival packets)
so_step arrival [] e = All-nil StepsTick
so_step arrival (bytes ∷ packets) e =
    All-cons StepsTick (record { arrival = arrival; bytes = bytes }) (timed.arriving_so arrival packets) e (so_step arrival packets e)

arrived_step : (q : QueueState) (bytes : List ℕ) (b : Bool) → still_wait q (reference_in q bytes) ≡ b → All StepsTick (arrived (released q bytes) q.held)
unfolding arrived
arrived_step q bytes true h = rw h (All-nil StepsTick)
arrived_step q bytes false h =
    let line : Option Line = (clock_by q (reference_in q bytes)).line in
    rw h (so_step (arrival_by q.before line) q.held (line_step q.before line))

pub all_step : (q : QueueState) (packets : List (List ℕ)) → All StepsTick (timed_from q packets)
unfolding timed_from
all_step q [] = so_step (last_arrival q) q.held (line_step q.before q.clock.line)
all_step q (bytes ∷ packets) =
    All-append StepsTick (arrived (released q bytes) q.held) (timed_from (with_one q bytes) packets)
    (arrived_step q bytes (still_wait q (reference_in q bytes)) refl)
    (all_step (with_one q bytes) packets)

-- Each stream of the report

pub once : (pid : ClockPid) (packets : List (List ℕ)) → length (timed_packets pid packets) ≡ length packets
once pid packets = sym (length-map (timed_packets pid packets) (λ p. p.bytes)) ∙ ap (λ (l : List (List ℕ)). length l) (each_once pid packets)

pub clocked_order : (pid : ClockPid) (packets : List (List ℕ)) → All (λ bytes. length bytes ≡ 188) packets →
    InOrder byte_ticks_at_1bps (timed_packets pid packets)
clocked_order pid packets whole = record {
  rises = λ chosen drain. rises_law pid packets chosen drain;
  leads = lead_law pid packets whole;
  same = all_step (no_packet pid) packets;
}

pub clocked_stream_law : ClockedStreamLaw
unfolding queue_of clocked.after_all last_view views.after_all timed_from view_by
clocked_stream_law request packets place e unknown whole few there =
    let pid : ClockPid = clock_for request.choice.programs in
    let start_is : clocked.start request ≡ record { view = views.start request; queue = Some (no_packet pid) } = rw unknown refl in
    let at_end = subst
    (λ (s : ClockedState). slice_get (last_view (clocked.after_all s packets).view (clocked.after_all s packets).queue).table.entries place ≡ Some e)
    start_is there in
    timed_stream_law request byte_ticks_at_1bps (timed_packets pid packets) place e (omega arith) (clocked_order pid packets whole)
    (omega (arith, few, once pid packets)) (in_view pid packets at_end)
  where
    in_view : (pid : ClockPid) (packets : List (List ℕ)) →
        slice_get (last_view (clocked.after_all (record { view = views.start request; queue = Some (no_packet pid) }) packets).view
        (clocked.after_all (record { view = views.start request; queue = Some (no_packet pid) }) packets).queue).table.entries place ≡ Some e →
        slice_get (view_by (views.start request) (timed_packets pid packets)).table.entries place ≡ Some e
    in_view pid [] there = there
    in_view pid (bytes ∷ packets) there =
        let like = first_view pid (views.start request) bytes packets unknown in
        ap (λ (t : TableState). slice_get t.entries place) like.table ∙ there
