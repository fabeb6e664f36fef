-- At a constant rate all packets arrive alike: a law of streams for any arrival says what the last lines of a stream say at that rate.
use Rattle.std.proofs.Common.{◌≡◌, ◌∙◌, sym, ℕ, ◌+◌, ◌*◌, ◌^◌, ◌≤◌, ◌<◌, Bool, true, false, nat_le, List, [], ◌∷◌, ◌++◌, length, Option, Some, None, Result, Ok}
use Rattle.std.proofs.Common.{Err, if◌then◌else◌, refl, ap, subst, inl, inr, nat_eq, arith}
use Rattle.std.specs.Prelude.{slice_get}
use Rattle.std.proofs.lemmas.Bool.{le-leb}
use Rattle.std.proofs.lemmas.Bool.Decides.{eqb_tells}
use Rattle.std.proofs.lemmas.List.{length-append}
use Rattle.clock27.specs.Arrival.{arrivals, bytes_from}
use Rattle.ts_packet.specs.declared.packet.PacketError.{PacketError}
use Rattle.ts_packet.specs.Views.{PacketView}
use Rattle.ts_packet.specs.Reading.{packet_at}
use Rattle.unit_timing.specs.Schedule.{Packet}
use Rattle.unit_timing.specs.Transport.{slots_of}
use Rattle.tstd.specs.PidPackets.{listed, packets_from, size_in}
use Rattle.arrival.specs.declared.arrival.Arrival.{Arrival}
use Rattle.arrival.specs.declared.arrival.Arrival.TheVariants.{Unknown, AtRate, OnLines}
use Rattle.arrival.specs.Arrivals.{has_times}
use Rattle.es_view.specs.LastPayloads.{no_payload}
use Rattle.laws_view.specs.TimedPackets.{Timed, arriving_so}
use Rattle.laws_view.specs.Times.{packet_times, times_among}
use Rattle.laws_view.proofs.TimedPackets.{many_arrive}
use Rattle.tstd_rows.specs.declared.arriving.Arriving.{Arriving}
use Rattle.tstd_rows.specs.Entering.{EnteredView, after, entered}
use Rattle.tstd_rows.specs.Held.{Held, empty}
use Rattle.ts_tables.specs.NamedStreams.{NamedView, clock_of as program_clock}
use Rattle.es_events.specs.declared.view_options.ViewOptions.{ViewOptions}
use Rattle.ts_watch.specs.Choices.{RequestView}
use Rattle.es_view.specs.Entries.{EntryState}
use Rattle.ts_report.specs.Seen.{origin_after, with_arrival}
use Rattle.ts_report.specs.StreamTables.{TableState, beginning, stream_buffers}
use Rattle.ts_report.specs.Views.{after_all, start}
use Rattle.laws_view.specs.StreamPackets.{Before, Followed, after_each, entered_each, known_after, known_after_all, most_packets, seen_among, seen_in}
use Rattle.laws_view.specs.StreamPackets.{sound_packet}
use Rattle.laws_view.specs.TimedStreams.{Entering, IsWholeBy, after_entering, entered_by, entering, entering_among, followed_by, followed_so, is_on}
use Rattle.laws_view.specs.TimedStreams.{known_at_first, known_by, on_pid, pid_times, stream_entering, view_by}
use Rattle.laws_view.specs.WholeStreams.{IsWhole, SaysAll, WholeStreamLaw, indices_of, known_at_begin, nothing_known, stream_packets}
use Rattle.laws_view.specs.WholeStreams as whole
use Rattle.laws_view.proofs.ClockedStreams.{Like, each_more}
use Rattle.laws_view.proofs.Lists.{apart, itself}
use Rattle.laws_view.proofs.TimedBytes.{rate_row}
use Rattle.laws_view.proofs.TimedOrder.{rate_order_law}
use Rattle.laws_view.proofs.TimedWhole.{timed_stream_law}

-- Packets that arrive alike, in two parts

pub record TwoParts (a : Arrival) (packets : List (List ℕ)) (xs : List Timed) (y : Timed) (ys : List Timed) : Type 0 where
  pub before : List (List ℕ)
  pub first : List ℕ
  pub later : List (List ℕ)
  pub split : packets ≡ before ++ first ∷ later
  pub xs_are : xs ≡ arriving_so a before
  pub y_is : y ≡ record { arrival = a; bytes = first }
  pub ys_are : ys ≡ arriving_so a later

two_parts : (a : Arrival) (packets : List (List ℕ)) (xs : List Timed) (y : Timed) (ys : List Timed) → arriving_so a packets ≡ xs ++ y ∷ ys →
    TwoParts a packets xs y ys
two_parts a [] [] y ys e = absurd (let no : ⊥ = cc in no)
two_parts a [] (x ∷ xs) y ys e = absurd (let no : ⊥ = cc in no)
two_parts a (b ∷ packets) [] y ys e =
    let one : record { arrival = a; bytes = b } ≡ y = cc in
    let rest : arriving_so a packets ≡ ys = cc in
    record { before = []; first = b; later = packets; split = refl; xs_are = refl; y_is = sym one; ys_are = sym rest }
two_parts a (b ∷ packets) (x ∷ xs) y ys e =
    let one : record { arrival = a; bytes = b } ≡ x = cc in
    let rest : arriving_so a packets ≡ xs ++ y ∷ ys = cc in
    let more = two_parts a packets xs y ys rest in
    record {
      before = b ∷ more.before;
      first = more.first;
      later = more.later;
      split = ap (λ (l : List (List ℕ)). b ∷ l) more.split;
      xs_are = ap (λ (t : Timed). t ∷ xs) (sym one) ∙ ap (λ (l : List Timed). record { arrival = a; bytes = b } ∷ l) more.xs_are;
      y_is = more.y_is;
      ys_are = more.ys_are;
    }

-- A stream is followed with the same options.

pub same_options : (o : ViewOptions) (a : Arrival) → (a ≡ Unknown → ⊥) → o.arrival ≡ a → with_arrival o a ≡ o
unfolding origin_after
same_options o Unknown known e = absurd (known refl)
same_options o (AtRate rate) known e =
    let origin : origin_after o.arrival o.origin (AtRate rate) ≡ o.origin = rw e refl in
    ap (λ (n : ℕ). record o { arrival = AtRate rate; origin = n }) origin ∙ subst (λ (a : Arrival). record o { arrival = a; origin = o.origin } ≡ o) e refl
same_options o (OnLines lines) known e =
    let origin : origin_after o.arrival o.origin (OnLines lines) ≡ o.origin = rw e refl in
    ap (λ (n : ℕ). record o { arrival = OnLines lines; origin = n }) origin ∙ subst (λ (a : Arrival). record o { arrival = a; origin = o.origin } ≡ o) e refl

rate_options : (o : ViewOptions) (rate : ℕ) → o.arrival ≡ AtRate rate → with_arrival o (AtRate rate) ≡ o
rate_options o rate e = same_options o (AtRate rate) (λ h. let no : ⊥ = cc in no) e

-- The stream is followed with this arrival already.
abbrev pub Same : Arrival → Followed → Type 0
Same a f = with_arrival f.options a ≡ f.options

so_is : (a : Arrival) (f : Followed) → Same a f → followed_so f a ≡ f
so_is a f same = ap (λ (o : ViewOptions). record f { options = o }) same

pub followed_is : (a : Arrival) (f : Followed) (packets : List (List ℕ)) → Same a f → followed_by f (arriving_so a packets) ≡ f
unfolding followed_by
followed_is a f [] same = refl
followed_is a f (bytes ∷ packets) same = ap (λ (g : Followed). followed_by g (arriving_so a packets)) (so_is a f same) ∙ followed_is a f packets same

known_is : (a : Arrival) (f : Followed) (b : Before) (packets : List (List ℕ)) → Same a f → known_by f b (arriving_so a packets) ≡ known_after_all f b packets
unfolding known_by known_after_all
known_is a f b [] same = refl
known_is a f b (bytes ∷ packets) same =
    ap (λ (g : Followed). known_by g (known_after g b (sound_packet (packet_at bytes))) (arriving_so a packets)) (so_is a f same)
    ∙ known_is a f (known_after f b (sound_packet (packet_at bytes))) packets same

pub entering_is : (a : Arrival) (f : Followed) (b : Before) (packets : List (List ℕ)) → Same a f →
    entering_among f b (arriving_so a packets) ≡ entering a (seen_among f b packets)
unfolding entering_among seen_among
entering_is a f b [] same = refl
entering_is a f b (bytes ∷ packets) same =
    let o : Option PacketView = sound_packet (packet_at bytes) in
    ap (λ (g : Followed). entering a (seen_in g b o) ++ entering_among g (known_after g b o) (arriving_so a packets)) (so_is a f same)
    ∙ ap (λ (l : List Entering). entering a (seen_in f b o) ++ l) (entering_is a f (known_after f b o) packets same)
    ∙ sym (entering_two a (seen_in f b o) (seen_among f (known_after f b o) packets))
  where
    entering_two : (a : Arrival) (ps qs : List Arriving) → entering a (ps ++ qs) ≡ entering a ps ++ entering a qs
    entering_two a [] qs = refl
    entering_two a (p ∷ ps) qs = ap (λ (l : List Entering). record { arrival = a; packet = p } ∷ l) (entering_two a ps qs)

pub after_is : (h : Held) (a : Arrival) (ps : List Arriving) → after_entering h (entering a ps) ≡ after_each h a ps
unfolding after_entering after_each
after_is h a [] = refl
after_is h a (p ∷ ps) = after_is (after h a p) a ps

pub entered_is : (h : Held) (a : Arrival) (ps : List Arriving) → entered_by h (entering a ps) ≡ entered_each h a ps
unfolding entered_by entered_each
entered_is h a [] = refl
entered_is h a (p ∷ ps) = ap (λ (l : List EnteredView). entered h a p ∷ l) (entered_is (after h a p) a ps)

-- Bytes arrive by the rate.

at_rate : (rate drain index : ℕ) → index < most_packets → packet_times drain index (AtRate rate) ≡ bytes_from drain (188 * index) 188
unfolding has_times
at_rate rate drain index few =
    let near : nat_le (188 * index + 188) (2 ^ 40) ≡ true = le-leb (188 * index + 188) (2 ^ 40) (omega (arith, few)) in
    rw near (sym (rate_row rate drain (188 * index) 188))

one_times : (rate pid drain index : ℕ) (r : Result PacketView PacketError) (rest : List Packet) → index < most_packets →
    (if is_on pid (sound_packet r) then packet_times drain index (AtRate rate) else [])
    ++ arrivals drain (slots_of rest) ≡ arrivals drain (slots_of (listed index (size_in pid r) rest))
unfolding is_on sound_packet size_in
one_times rate pid drain index (Err error) rest few = refl
one_times rate pid drain index (Ok packet) rest few = by packet.header.transport_error_indicator refl
  where
    by : (w : Bool) → packet.header.transport_error_indicator ≡ w →
        (if is_on pid (sound_packet (Ok packet)) then packet_times drain index (AtRate rate) else []) ++ arrivals drain (slots_of rest)
        ≡ arrivals drain (slots_of (listed index (size_in pid (Ok packet)) rest))
    by true h = elim (eqb_tells packet.header.pid pid) [
      | inl same ↦ rw (h, same.0) refl
      | inr other ↦ rw (h, other.0) refl
    ]
    by false h = elim (eqb_tells packet.header.pid pid) [
      | inl same ↦
          let other : nat_eq pid packet.header.pid ≡ true = rw same.1 (itself pid) in
          rw (h, same.0, other) (unfold arrivals in ap (λ (ts : List ℕ). ts ++ arrivals drain (slots_of rest)) (at_rate rate drain index few))
      | inr other ↦ let no : nat_eq pid packet.header.pid ≡ false = apart pid packet.header.pid (λ p. other.1 (sym p)) in rw (h, other.0, no) refl
    ]

rate_times : (rate pid drain index : ℕ) (packets : List (List ℕ)) → index + length packets ≤ most_packets →
    pid_times pid drain index (arriving_so (AtRate rate) packets) ≡ arrivals drain (indices_of pid index packets)
unfolding times_among packets_from
rate_times rate pid drain index [] few = unfold arrivals in refl
rate_times rate pid drain index (bytes ∷ packets) few =
    let rest = rate_times rate pid drain (index + 1) packets (omega (arith, few)) in
    ap (λ (ts : List ℕ). (if on_pid pid index bytes then packet_times drain index (AtRate rate) else []) ++ ts) rest
    ∙ one_times rate pid drain index (packet_at bytes) (packets_from pid (index + 1) packets) (omega (arith, few))

-- A whole stream at a constant rate

as_whole : (request : RequestView) (rate : ℕ) (packets : List (List ℕ)) (e : EntryState) (w : IsWholeBy request rate (arriving_so (AtRate rate) packets) e) →
    TwoParts (AtRate rate) packets w.begun.before w.begun.first w.begun.later → request.options.arrival ≡ AtRate rate → length packets ≤ most_packets →
    IsWhole request rate packets e
as_whole request rate packets e w t is few =
    let a : Arrival = AtRate rate in
    let f : Followed = whole.followed request e in
    let pre : List (List ℕ) = t.before in
    let rest : List (List ℕ) = t.first ∷ t.later in
    let same : Same a f = rate_options request.options rate is in
    let itself : Like (start request) (start request) = record { options = refl; packets = refl; clocks = refl; named = refl; table = refl } in
    let like : Like (after_all (start request) pre) (view_by (start request) (arriving_so a pre)) =
    each_more (start request) (start request) a pre itself same in
    let named = ap (λ (l : List Timed). (view_by (start request) l).seen.named) t.xs_are ∙ like.named in
    let table : (view_by (start request) w.begun.before).table ≡ (after_all (start request) pre).table =
    ap (λ (l : List Timed). (view_by (start request) l).table) t.xs_are ∙ like.table in
    let rest_is : w.begun.first ∷ w.begun.later ≡ arriving_so a rest =
    ap (λ (y : Timed). y ∷ w.begun.later) t.y_is ∙ ap (λ (l : List Timed). record { arrival = a; bytes = t.first } ∷ l) t.ys_are in
    let ps : List Arriving = stream_packets request e pre rest in
    let xs_are : stream_entering request e w.begun.before (w.begun.first ∷ w.begun.later) ≡ entering a ps =
    ap (λ (l : List Timed). stream_entering request e l (w.begun.first ∷ w.begun.later)) t.xs_are
    ∙ ap (λ (l : List Timed). stream_entering request e (arriving_so a pre) l) rest_is
    ∙ ap (λ (g : Followed). entering_among g (known_at_first f (arriving_so a pre)) (arriving_so a rest)) (followed_is a f pre same)
    ∙ ap (λ (k : Before). entering_among f (record k { last = no_payload }) (arriving_so a rest)) (known_is a f nothing_known pre same)
    ∙ entering_is a f (known_at_begin f pre) rest same in
    let h : Held = empty rate e.held.rx e.held.main.size in
    let vs_are : entered_by h (stream_entering request e w.begun.before (w.begun.first ∷ w.begun.later)) ≡ entered_each h a ps =
    ap (λ (l : List Entering). entered_by h l) xs_are ∙ entered_is h a ps in
    let many : length w.begun.before ≡ length pre = ap (λ (l : List Timed). length l) t.xs_are ∙ many_arrive a pre in
    let lengths : length packets ≡ length pre + length rest = ap (λ (l : List (List ℕ)). length l) t.split ∙ length-append pre rest in
    let times_are : pid_times e.pid e.held.rx (length w.begun.before) (w.begun.first ∷ w.begun.later) ≡ arrivals e.held.rx
    (indices_of e.pid (length pre) rest) =
    ap (λ (i : ℕ). pid_times e.pid e.held.rx i (w.begun.first ∷ w.begun.later)) many
    ∙ ap (λ (l : List Timed). pid_times e.pid e.held.rx (length pre) l) rest_is
    ∙ rate_times rate e.pid e.held.rx (length pre) rest (omega (arith, few, lengths)) in
    record {
      begun = record {
        before = pre;
        first = t.first;
        later = t.later;
        split = t.split;
        packet = w.begun.packet;
        sound = ap (λ (y : Timed). sound_packet (packet_at y.bytes)) (sym t.y_is) ∙ w.begun.sound;
        stream = w.begun.stream;
        begins = sym (ap (λ (n : NamedView). beginning n (view_by (start request) w.begun.before).table w.begun.packet) named
            ∙ ap (λ (tb : TableState). beginning (after_all (start request) pre).seen.named tb w.begun.packet) table) ∙ w.begun.begins;
        pid = w.begun.pid;
        clock_pid = w.begun.clock_pid ∙ ap (λ (n : NamedView). program_clock n w.begun.stream.program) named;
        rx = w.begun.rx ∙ ap (λ (tb : TableState). (stream_buffers tb w.begun.stream w.begun.packet).rx) table;
        size = w.begun.size ∙ ap (λ (tb : TableState). (stream_buffers tb w.begun.stream w.begun.packet).main) table;
      };
      held = w.held ∙ ap (λ (l : List Entering). after_entering h l) xs_are ∙ after_is h a ps;
      lines = subst (λ (ts : List ℕ). SaysAll rate ts (entered_each h a ps) e) times_are
          (subst (λ (vs : List EnteredView). SaysAll rate (pid_times e.pid e.held.rx (length w.begun.before) (w.begun.first ∷ w.begun.later)) vs e) vs_are
          w.lines);
    }

pub whole_stream_law : WholeStreamLaw
whole_stream_law request rate packets place e is some few there drained =
    let a : Arrival = AtRate rate in
    let timed : List Timed = arriving_so a packets in
    let same = rate_options request.options rate is in
    let itself : Like (start request) (start request) = record { options = refl; packets = refl; clocks = refl; named = refl; table = refl } in
    let like : Like (after_all (start request) packets) (view_by (start request) timed) = each_more (start request) (start request) a packets itself same in
    let in_view : slice_get (view_by (start request) timed).table.entries place ≡ Some e = ap (λ (tb : TableState). slice_get tb.entries place) like.table
    ∙ there in
    let w = timed_stream_law request rate timed place e some (rate_order_law rate packets) (omega (arith, few, many_arrive a packets)) in_view in
    as_whole request rate packets e w (two_parts a packets w.begun.before w.begun.first w.begun.later w.begun.split) is few
