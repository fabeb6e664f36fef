-- The last lines of a stream are about all packets of its PID, in whatever way they arrive.
use Rattle.std.proofs.Common.{◌≡◌, ◌∙◌, sym, ℕ, ◌+◌, ◌-◌, ◌*◌, ◌^◌, ◌≤◌, ◌<◌, Bool, List, [], ◌∷◌, ◌++◌, length, Option, Some, None, refl, ap, subst, inl, inr}
use Rattle.std.proofs.Common.{arith, All}
use Rattle.std.specs.Prelude.{count_by, flat_map, slice_get}
use Rattle.std.specs.Option.{option_to_list}
use Rattle.std.proofs.lemmas.List.{length-append}
use Rattle.clock27.specs.Departure.{departures, last_left}
use Rattle.clock27.specs.Fullness.{fullness}
use Rattle.clock27.specs.Peak.{IsPeak}
use Rattle.ts_packet.specs.Reading.{packet_at}
use Rattle.arrival.specs.Arrivals.{step_of}
use Rattle.es_view.specs.LastPayloads.{no_payload}
use Rattle.laws_view.specs.Leads.{AllLead}
use Rattle.laws_view.specs.TimedPackets.{Timed}
use Rattle.laws_view.specs.Times.{times_among}
use Rattle.tstd_rows.specs.declared.excess.Excess.{Excess}
use Rattle.tstd_rows.specs.Excesses.{excess_after, excesses_ended}
use Rattle.tstd_rows.specs.TransportLaws.{Rises, excesses}
use Rattle.stream_programs.specs.Streams.{FoundStreamView}
use Rattle.es_buffers.specs.declared.buffers.Buffers.{Buffers}
use Rattle.tstd_rows.specs.History.{arrivals_of, main_fullness, transport_of, unit_of}
use Rattle.tstd_rows.specs.declared.unit_seen.UnitSeen.{UnitSeen}
use Rattle.tstd_rows.proofs.AllMoments.{figures_law}
use Rattle.tstd_rows.specs.Limits.{tb_size}
use Rattle.tstd_rows.specs.Entering.{EnteredView}
use Rattle.tstd_rows.specs.Held.{Held, empty, main_most, transport_most, transport_under_way, unit_before}
use Rattle.es_events.specs.declared.view_options.ViewOptions.{ViewOptions}
use Rattle.ts_watch.specs.Choices.{RequestView}
use Rattle.es_events.specs.Clocks.{clock_of}
use Rattle.es_view.specs.Entries.{EntryState, closed}
use Rattle.ts_report.specs.Seen.{with_arrival}
use Rattle.ts_report.specs.StreamTables.{stream_buffers}
use Rattle.es_events.specs.Tallies.{is_late}
use Rattle.ts_report.specs.Views.{ViewState, start}
use Rattle.laws_view.specs.StreamPackets.{Before, Followed, known_after, most_packets, sound_packet}
use Rattle.laws_view.specs.StreamUnits.{all_units, units_ended}
use Rattle.laws_view.specs.TimedStreams.{Entering, InOrder, IsWholeBy, TimedStreamLaw, after_entering, followed_so, entered_by, entering_among, followed_by}
use Rattle.laws_view.specs.TimedStreams.{known_at_first, known_by, on_pid, pid_times, stream_entering, view_by}
use Rattle.laws_view.specs.WholeStreams.{nothing_known}
use Rattle.laws_view.specs.WholeStreams as whole
use Rattle.laws_view.proofs.EnteredBytes.{Arrives}
use Rattle.laws_view.proofs.Entries.{entry_begun}
use Rattle.laws_view.proofs.Excesses.{few_reported}
use Rattle.laws_view.proofs.StreamIndices.{index_more}
use Rattle.laws_view.proofs.Steps.{excesses_more, followed, known, sound_options, sound_packets, unit_excesses, unit_units}
use Rattle.laws_view.proofs.TimedBytes.{among_short, each_arrives_by}
use Rattle.laws_view.proofs.TimedExcesses.{each_reported_by, each_units_by, few_entering, many_entered_by, rate_by, transport_ended_by}
use Rattle.laws_view.proofs.TimedGrown.{BeganBy, came_by, came_is, next_by, ready}
use Rattle.laws_view.proofs.TimedOrder.{later_leads, later_rise, that_one}
use Rattle.laws_view.proofs.Units.{last_late, last_unit, late_exact, late_more, late_with, length_units, units_exact, units_more, units_with}
use Rattle.laws_view.proofs.Whole.{Knows, excesses_exact, none_agree, one_counted, sound_clock}

-- What a view knows before a packet

pub knows_by : (s : ViewState) (f : Followed) (b : Before) (packets : List Timed) → Knows s f b → s.seen.packets + length packets < 2 ^ 64 →
    Knows (view_by s packets) (followed_by f packets) (known_by f b packets)
unfolding view_by followed_by known_by
knows_by s f b [] k few = k
knows_by s f b (p ∷ packets) k few =
    let r : ViewState = ready s p.arrival in
    let f' : Followed = followed_so f p.arrival in
    let o = sound_packet (packet_at p.bytes) in
    let now : Knows r f' b = record { options = ap (λ (x : ViewOptions). with_arrival x p.arrival) k.options; index = k.index; clock = k.clock } in
    let count = sound_packets r o (omega (arith, few)) in
    let one : Knows (next_by s p) f' (known_after f' b o) = record {
      options = sound_options r o ∙ now.options;
      index = index_more f' b o ∙ ap (λ (n : ℕ). n + 1) k.index ∙ sym count;
      clock = sound_clock r f' b o now;
    } in
    subst (λ (x : ViewState). Knows (view_by x packets) (followed_by f' packets) (known_by f' (known_after f' b o) packets)) (sym (came_is s p))
    (knows_by (next_by s p) f' (known_after f' b o) packets one (omega (arith, few, count)))

pub index_by : (f : Followed) (b : Before) (packets : List Timed) → (known_by f b packets).index ≡ b.index + length packets
unfolding known_by
index_by f b [] = omega arith
index_by f b (p ∷ packets) =
    let f' : Followed = followed_so f p.arrival in
    let o = sound_packet (packet_at p.bytes) in
    omega (arith, index_by f' (known_after f' b o) packets, index_more f' b o)

pub record SameStream (f g : Followed) : Type 0 where
  pub pid : g.pid ≡ f.pid
  pub clock_pid : g.clock_pid ≡ f.clock_pid
  pub rx : g.rx ≡ f.rx

pub same_by : (f : Followed) (packets : List Timed) → SameStream f (followed_by f packets)
unfolding followed_by
same_by f [] = record { pid = refl; clock_pid = refl; rx = refl }
same_by f (p ∷ packets) = let rest = same_by (followed_so f p.arrival) packets in record { pid = rest.pid; clock_pid = rest.clock_pid; rx = rest.rx }

pub followed_is : (o o' : ViewOptions) (p p' c c' r r' : ℕ) → o ≡ o' → p ≡ p' → c ≡ c' → r ≡ r' →
    ◌≡◌ {A = Followed} (record { options = o; pid = p; clock_pid = c; rx = r }) (record { options = o'; pid = p'; clock_pid = c'; rx = r' })
followed_is o o' p p' c c' r r' e f g h = rw (e, f, g, h) refl

-- The figures of packets in order

-- The figures of buffers that were empty, after all packets of the stream
pub record FiguresBy (step : ℕ) (h : Held) (f : Followed) (xs : List Entering) (times : List ℕ) : Type 0 where
  pub rate : (after_entering h xs).rate ≡ step
  pub arrived : arrivals_of (after_entering h xs).parts ≡ times
  pub transport : IsPeak (λ x. fullness x times (departures step 0 times)) (transport_most (after_entering h xs))
  pub main : IsPeak (main_fullness step (after_entering h xs).parts) (main_most (after_entering h xs))
  pub ended : transport_ended_by (entered_by h xs) ≡ excesses_ended step tb_size 0 None times
  pub under_way : transport_under_way (after_entering h xs) ≡ excess_after step tb_size 0 None times
  pub number : excesses_more 0 (entered_by h xs) ≡ length (excesses_ended step tb_size 0 None times)

pub figures_by : (step rx size : ℕ) (f : Followed) (b : Before) (packets : List Timed) (times : List ℕ) → 0 < step → AllLead b.index packets →
    b.index + length packets ≤ most_packets → times_among (on_pid f.pid) rx b.index packets ≡ times → Rises 0 times →
    FiguresBy step (empty step rx size) f (entering_among f b packets) times
unfolding arrivals_of last_left excess_after
figures_by step rx size f b packets times some leads few same rises =
    let h : Held = empty step rx size in
    let xs : List Entering = entering_among f b packets in
    let h' : Held = after_entering h xs in
    let all : Arrives h h' (times_among (on_pid f.pid) rx b.index packets) = each_arrives_by h f b packets leads few (omega arith) in
    let arrive : arrivals_of h'.parts ≡ times = all.arrivals ∙ same in
    let rate : h'.rate ≡ step = rate_by h xs in
    let both = figures_law step h'.parts some (subst (λ (l : List ℕ). Rises 0 l) (sym arrive) rises) in
    let ended : transport_ended_by (entered_by h xs) ≡ excesses_ended step tb_size 0 None times =
    each_reported_by h f b packets leads few (omega arith) ∙ ap (λ (l : List ℕ). excesses_ended step tb_size 0 None l) same in
    let short : length times ≤ 188 * length packets =
    subst (λ (l : List ℕ). length l ≤ 188 * length packets) same (among_short (on_pid f.pid) rx b.index packets) in
    let many : length (transport_ended_by (entered_by h xs)) ≤ length times =
    subst (λ (es : List Excess). length es ≤ length times) (sym ended) (few_reported h times) in
    let number = excesses_exact 0 (entered_by h xs) (omega (arith, many, short, few)) in
    record {
      rate = rate;
      arrived = arrive;
      transport = subst (λ (r : ℕ). IsPeak (λ x. fullness x times (departures step 0 times)) (transport_of r h'.parts).most) (sym rate)
          (subst (λ (l : List ℕ). IsPeak (λ x. fullness x l (departures step 0 l)) (transport_of step h'.parts).most) arrive both.0);
      main = subst (λ (r : ℕ). IsPeak (main_fullness step h'.parts) (main_most (record { rate = r; rx = h'.rx; parts = h'.parts; main = h'.main }))) (sym rate)
          both.1;
      ended = ended;
      under_way = ap (λ (r : ℕ). excess_after r tb_size 0 None (arrivals_of h'.parts)) rate ∙ ap (λ (l : List ℕ). excess_after step tb_size 0 None l) arrive;
      number = omega (arith, number, ap (λ (es : List Excess). length es) ended);
    }

-- The units of a stream

pub record UnitsBy (step : ℕ) (e : EntryState) (vs : List EnteredView) : Type 0 where
  pub reported : flat_map (λ v. option_to_list v.unit) vs ≡ units_ended step e.held.parts
  pub units : (window : ℕ) → (closed window e).units ≡ length (all_units step e.held.parts)
  pub late : (window : ℕ) → (closed window e).late ≡ count_by is_late (all_units step e.held.parts)

none_before : (step : ℕ) (us : List UnitSeen) → units_ended step [] ++ us ≡ us
unfolding units_ended
none_before step us = refl

pub units_by : (step rx size : ℕ) (e : EntryState) (xs : List Entering) → e.held ≡ after_entering (empty step rx size) xs → length xs ≤ most_packets →
    e.tally.units ≡ units_more 0 (entered_by (empty step rx size) xs) → e.tally.late ≡ late_more 0 (entered_by (empty step rx size) xs) →
    UnitsBy step e (entered_by (empty step rx size) xs)
units_by step rx size e xs held few units_are late_are =
    let h : Held = empty step rx size in
    let vs : List EnteredView = entered_by h xs in
    let rate_is : e.held.rate ≡ step = ap (λ (g : Held). g.rate) held ∙ rate_by h xs in
    let reported : flat_map (λ v. option_to_list v.unit) vs ≡ units_ended step e.held.parts =
    sym (ap (λ (g : Held). units_ended step g.parts) held ∙ each_units_by step h xs refl ∙ none_before step (flat_map (λ v. option_to_list v.unit) vs)) in
    let few_of : length vs ≤ most_packets = omega (arith, few, many_entered_by h xs) in
    let lengths_are : length (flat_map (λ v. option_to_list v.unit) vs) ≡ length (units_ended step e.held.parts) =
    ap (λ (l : List UnitSeen). length l) reported in
    let counts_are : count_by is_late (flat_map (λ v. option_to_list v.unit) vs) ≡ count_by is_late (units_ended step e.held.parts) =
    ap (λ (l : List UnitSeen). count_by is_late l) reported in
    let units_exactly = units_exact 0 vs (omega (arith, few_of)) in
    let late_exactly = late_exact 0 vs (omega (arith, few_of)) in
    let many_units : e.tally.units ≡ length (units_ended step e.held.parts) = omega (arith, units_are, units_exactly, lengths_are) in
    let many_late : e.tally.late ≡ count_by is_late (units_ended step e.held.parts) = omega (arith, late_are, late_exactly.0, counts_are) in
    let last_is : unit_before e.held ≡ unit_of step e.held.parts = ap (λ (r : ℕ). unit_of r e.held.parts) rate_is in
    let few_late : e.tally.late < 2 ^ 64 - 1 = omega (arith, late_are, late_exactly.0, late_exactly.1, few_of) in
    let few_units : e.tally.units < 2 ^ 64 - 1 = omega (arith, units_are, units_exactly, length_units vs, few_of) in
    record {
      reported = reported;
      units = λ window. (unit_units e.tally window (unit_before e.held)).0 ∙ ap (λ (o : Option UnitSeen). units_with e.tally.units o) last_is
          ∙ last_unit e.tally.units (units_ended step e.held.parts) (unit_of step e.held.parts) many_units few_units;
      late = λ window. (unit_units e.tally window (unit_before e.held)).1 ∙ ap (λ (o : Option UnitSeen). late_with e.tally.late o) last_is
          ∙ last_late e.tally.late (units_ended step e.held.parts) (unit_of step e.held.parts) many_late few_late;
    }

-- A stream that has begun

assemble_by : (request : RequestView) (step : ℕ) (packets : List Timed) (e : EntryState) → 0 < step → InOrder step packets → length packets ≤ most_packets →
    BeganBy (start request) packets e → IsWholeBy request step packets e
assemble_by request step packets e some order few b =
    let s : ViewState = view_by (start request) b.before in
    let r : ViewState = ready s b.p.arrival in
    let f0 : Followed = whole.followed request e in
    let f : Followed = followed_by f0 b.before in
    let k : Before = known_at_first f0 b.before in
    let stream : FoundStreamView = b.begins.stream in
    let buffers : Buffers = stream_buffers s.table stream b.packet in
    let rest : List Timed = b.p ∷ b.later in
    let first : EntryState = b.first in
    let lengths : length packets ≡ length b.before + length rest = ap (λ (l : List Timed). length l) b.split ∙ length-append b.before rest in
    let knows : Knows s f (known_by f0 nothing_known b.before) =
    knows_by (start request) f0 nothing_known b.before (record { options = refl; index = refl; clock = refl }) (omega (arith, few, lengths)) in
    let stay = same_by f0 b.before in
    let new : first ≡ entry_begun r.seen.options s.seen.named s.table b.packet stream = b.begins.is in
    let f_is : followed s first ≡ f =
    followed_is s.seen.options f.options first.pid f.pid first.clock_pid f.clock_pid first.held.rx f.rx knows.options (sym b.grown.pid ∙ sym stay.pid)
    (sym b.grown.clock_pid ∙ sym stay.clock_pid) (sym b.grown.rx ∙ sym stay.rx) in
    let last : first.last ≡ no_payload = ap (λ (x : EntryState). x.last) new in
    let clock : clock_of s.seen.clocks first.clock_pid ≡ k.clock =
    ap (λ (q : ℕ). clock_of s.seen.clocks q) (sym b.grown.clock_pid ∙ sym stay.clock_pid) ∙ sym knows.clock in
    let k_is : known s first ≡ k = rw (sym knows.index, clock, last) refl in
    let xs : List Entering = stream_entering request e b.before rest in
    let same : entering_among (followed s first) (known s first) rest ≡ xs =
    ap (λ (x : Followed). entering_among x (known s first) rest) f_is ∙ ap (λ (x : Before). entering_among f x rest) k_is in
    let rx_is : e.held.rx ≡ buffers.rx = b.grown.rx ∙ ap (λ (x : EntryState). x.held.rx) new in
    let size_is : e.held.main.size ≡ buffers.main = b.grown.size ∙ ap (λ (x : EntryState). x.held.main.size) new in
    let step_is : step_of b.p.arrival ≡ step =
    that_one (λ p. step_of p.arrival ≡ step) b.before b.p b.later (subst (λ (l : List Timed). All (λ p. step_of p.arrival ≡ step) l) b.split order.same) in
    let h : Held = empty step e.held.rx e.held.main.size in
    let empty_is : first.held ≡ h = ap (λ (x : EntryState). x.held) new ∙ rw (step_is, rx_is, size_is) refl in
    let vs : List EnteredView = entered_by h xs in
    let entered_is : entered_by first.held (entering_among (followed s first) (known s first) rest) ≡ vs =
    ap (λ (x : Held). entered_by x (entering_among (followed s first) (known s first) rest)) empty_is ∙ ap (λ (l : List Entering). entered_by h l) same in
    let held : e.held ≡ after_entering h xs =
    b.grown.held ∙ ap (λ (x : Held). after_entering x (entering_among (followed s first) (known s first) rest)) empty_is
    ∙ ap (λ (l : List Entering). after_entering h l) same in
    let index : k.index ≡ length b.before = omega (arith, index_by f0 nothing_known b.before) in
    let times : List ℕ = pid_times e.pid e.held.rx (length b.before) rest in
    let times_are : times_among (on_pid f.pid) e.held.rx k.index rest ≡ times =
    ap (λ (q : ℕ). times_among (on_pid q) e.held.rx k.index rest) stay.pid ∙ ap (λ (i : ℕ). times_among (on_pid e.pid) e.held.rx i rest) index in
    let rises : Rises 0 times = later_rise (on_pid e.pid) e.held.rx b.before rest
    (subst (λ (l : List Timed). (chosen : ℕ → List ℕ → Bool) (drain : ℕ) → Rises 0 (times_among chosen drain 0 l)) b.split order.rises) in
    let leads : AllLead (0 + length b.before) rest = later_leads 0 b.before rest (subst (λ (l : List Timed). AllLead 0 l) b.split order.leads) in
    let there : AllLead k.index rest = subst (λ (i : ℕ). AllLead i rest) (let place : 0 + length b.before ≡ k.index = omega (arith, index) in place) leads in
    let fig : FiguresBy step h f xs times =
    figures_by step e.held.rx e.held.main.size f k rest times some there (omega (arith, few, lengths, index)) times_are rises in
    let arrived : arrivals_of e.held.parts ≡ times = ap (λ (g : Held). arrivals_of g.parts) held ∙ fig.arrived in
    let ended : List Excess = excesses_ended step tb_size 0 None times in
    let under : transport_under_way e.held ≡ excess_after step tb_size 0 None times = ap (λ (g : Held). transport_under_way g) held ∙ fig.under_way in
    let zero_reported : first.tally.excesses ≡ 0 = ap (λ (x : EntryState). x.tally.excesses) new in
    let zero_units : first.tally.units ≡ 0 = ap (λ (x : EntryState). x.tally.units) new in
    let zero_late : first.tally.late ≡ 0 = ap (λ (x : EntryState). x.tally.late) new in
    let number : e.tally.excesses ≡ length ended =
    b.grown.excesses ∙ ap (λ (n : ℕ). excesses_more n (entered_by first.held (entering_among (followed s first) (known s first) rest))) zero_reported
    ∙ ap (λ (l : List EnteredView). excesses_more 0 l) entered_is ∙ fig.number in
    let units_are : e.tally.units ≡ units_more 0 vs =
    b.grown.units ∙ ap (λ (n : ℕ). units_more n (entered_by first.held (entering_among (followed s first) (known s first) rest))) zero_units
    ∙ ap (λ (l : List EnteredView). units_more 0 l) entered_is in
    let late_are : e.tally.late ≡ late_more 0 vs =
    b.grown.late ∙ ap (λ (n : ℕ). late_more n (entered_by first.held (entering_among (followed s first) (known s first) rest))) zero_late
    ∙ ap (λ (l : List EnteredView). late_more 0 l) entered_is in
    let units = units_by step e.held.rx e.held.main.size e xs held (omega (arith, few_entering f k rest, lengths, few)) units_are late_are in
    let all_of : ended ++ option_to_list (transport_under_way e.held) ≡ excesses step tb_size times =
    ap (λ (o : Option Excess). ended ++ option_to_list o) under in
    record {
      begun = record {
        before = b.before;
        first = b.p;
        later = b.later;
        split = b.split;
        packet = b.packet;
        sound = b.sound;
        stream = stream;
        begins = b.begins.begins;
        pid = b.grown.pid ∙ ap (λ (x : EntryState). x.pid) new;
        clock_pid = b.grown.clock_pid ∙ ap (λ (x : EntryState). x.clock_pid) new;
        rx = rx_is;
        size = size_is;
      };
      held = held;
      arrived = arrived;
      rises = subst (λ (ts : List ℕ). Rises 0 ts) (sym arrived) rises;
      lines = record {
        transport = subst (λ (g : Held). IsPeak (λ x. fullness x times (departures step 0 times)) (transport_most g)) (sym held) fig.transport;
        reported = ap (λ (l : List Excess). l ++ option_to_list (transport_under_way e.held)) fig.ended ∙ all_of;
        excesses = λ window. one_counted (closed window e).excesses ended (transport_under_way e.held)
            (unit_excesses e.tally window (unit_before e.held) ∙ number) ∙ ap (λ (l : List Excess). length l) all_of;
        main = subst (λ (g : Held). IsPeak (main_fullness step g.parts) (main_most g)) (sym held) fig.main;
        reported_units = units.reported;
        units = units.units;
        late = units.late;
      };
    }

pub timed_stream_law : TimedStreamLaw
timed_stream_law request step packets place e some order few there =
    elim (came_by (start request) packets place e (none_agree request) (omega (arith, few)) there) [
      | inl old ↦ absurd (none place old.0 old.1)
      | inr began ↦ assemble_by request step packets e some order few began
    ]
  where
    none : (j : ℕ) (d : EntryState) → slice_get [] j ≡ Some d → ⊥
    none j d h = cc
