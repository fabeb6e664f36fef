-- In a stream with clock references each packet arrives once, and no byte arrives before an earlier byte.
use Rattle.std.proofs.Common.{◌≡◌, ◌∙◌, sym, ℕ, ◌+◌, ◌*◌, ◌≤◌, ◌<◌, Bool, true, false, List, [], ◌∷◌, ◌++◌, length, map, Option, Some, None, if◌then◌else◌}
use Rattle.std.proofs.Common.{refl, ap, subst, inl, arith}
use Rattle.std.specs.Prelude.{IfSome}
use Rattle.std.proofs.lemmas.List.{append_assoc, append-nil, map-append}
use Rattle.arrival.specs.declared.line.Line.{Line}
use Rattle.arrival.specs.Clock.{IsClockLine}
use Rattle.arrival.specs.Lines.{arrival_at}
use Rattle.tstd_rows.specs.TransportLaws.{Rises}
use Rattle.tstd_rows.proofs.Rising.{rises_appended}
use Rattle.arrival.specs.Arrivals.{has_times}
use Rattle.arrival.specs.declared.arrival.Arrival.{Arrival}
use Rattle.arrival.specs.declared.arrival.Arrival.TheVariants.{Unknown, OnLines}
use Rattle.arrival.specs.declared.arrival.ClockLines.{ClockLines}
use Rattle.packet_times.specs.Waiting.{QueueState, arrival_by, clock_by, last_arrival, no_packet, reference_in, released, still_wait}
use Rattle.laws_view.specs.TimedPackets.{EachOnceLaw, Timed, arrived, arriving_so, timed_from, waiting, with_one}
use Rattle.laws_view.specs.Times.{RisesLaw, times_among}
use Rattle.laws_view.proofs.ClockStates.{Meet, MeetAt, meets_itself}
use Rattle.laws_view.proofs.Rising.{Between, among-append, both_between, first_time, last_time, lines_in_order, none_between, packets_between}
use Rattle.laws_view.proofs.Waits.{Comes, Waits, alone_waits, comes_with, one_waits, waits_first}

-- The packets, each of them once

pub bytes_of : (arrival : Arrival) (packets : List (List ℕ)) → map (λ p. p.bytes) (arriving_so arrival packets) ≡ packets
bytes_of arrival [] = refl
bytes_of arrival (bytes ∷ packets) = ap (λ (l : List (List ℕ)). bytes ∷ l) (bytes_of arrival packets)

pub many_arrive : (arrival : Arrival) (packets : List (List ℕ)) → length (arriving_so arrival packets) ≡ length packets
many_arrive arrival [] = refl
many_arrive arrival (bytes ∷ packets) = let e = many_arrive arrival packets in omega (arith, e)

pub all_of : (a : Option Arrival) (held packets : List (List ℕ)) (bytes : List ℕ) (rest : List Timed) → map (λ p. p.bytes) rest ≡ (waiting a held ++ bytes ∷ [])
    ++ packets →
    map (λ p. p.bytes) (arrived a held ++ rest) ≡ held ++ bytes ∷ packets
unfolding arrived waiting
all_of None held packets bytes rest e = e ∙ append_assoc held (bytes ∷ []) packets
all_of (Some arrival) held packets bytes rest e = map-append (λ p. p.bytes) (arriving_so arrival held) rest ∙ rw (bytes_of arrival held, e) refl

pub once_from : (q : QueueState) (packets : List (List ℕ)) → map (λ p. p.bytes) (timed_from q packets) ≡ q.held ++ packets
unfolding timed_from
once_from q [] = bytes_of (last_arrival q) q.held ∙ sym (append-nil q.held)
once_from q (bytes ∷ packets) = all_of (released q bytes) q.held packets bytes (timed_from (with_one q bytes) packets) (once_from (with_one q bytes) packets)

pub each_once : EachOnceLaw
each_once pid packets = once_from (no_packet pid) packets

-- Packets that arrive on their lines

-- The time at which the first byte of packet `index` arrives on a line
unfoldable pub bound : ℕ → ℕ → Option Line → ℕ
bound drain index None = 0
bound drain index (Some line) = arrival_at drain line (188 * index)

without_times : (chosen : ℕ → List ℕ → Bool) (drain index : ℕ) (packets : List (List ℕ)) → times_among chosen drain index (arriving_so Unknown packets) ≡ []
unfolding times_among has_times
without_times chosen drain index [] = refl
without_times chosen drain index (bytes ∷ packets) = by (chosen index bytes) (without_times chosen drain (index + 1) packets)
  where
    by : (b : Bool) → times_among chosen drain (index + 1) (arriving_so Unknown packets) ≡ [] →
        (if b then [] else []) ++ times_among chosen drain (index + 1) (arriving_so Unknown packets) ≡ []
    by true e = e
    by false e = e

on_lines : (lines : ClockLines) (chosen : ℕ → List ℕ → Bool) (drain index : ℕ) (packets : List (List ℕ)) → MeetAt lines.before lines.line index →
    lines.line.byte < 188 * (index + length packets) →
    Between (arrival_at drain lines.before (188 * index)) (arrival_at drain lines.line (188 * (index + length packets)))
    (times_among chosen drain index (arriving_so (OnLines lines) packets))
on_lines lines chosen drain index packets meet begun =
    rw (first_time lines index drain meet, sym (last_time lines drain (188 * (index + length packets)) begun))
    (packets_between (OnLines lines) chosen drain index packets (lines_in_order lines index drain meet))

pub those_between : (before line : Option Line) (chosen : ℕ → List ℕ → Bool) (drain index : ℕ) (packets : List (List ℕ)) → Meet before line index →
    (line ≡ None → before ≡ None) →
    IfSome line (λ l. l.byte < 188 * (index + length packets)) →
    Between (bound drain index before) (bound drain (index + length packets) line)
    (times_among chosen drain index (arriving_so (arrival_by before line) packets))
unfolding bound arrival_by
those_between before None chosen drain index packets meet none begun =
    rw (none refl, without_times chosen drain index packets) (none_between 0 0 (omega arith))
those_between None (Some line) chosen drain index packets meet none begun =
    let lines : ClockLines = record { before = line; line = line } in
    let itself : MeetAt line line index = record { begun = meet.0; some = meet.0; meets = λ scale. omega arith; same_or_within = inl refl } in
    let low : ℕ = arrival_at drain line (188 * index) in
    let high : ℕ = arrival_at drain line (188 * (index + length packets)) in
    let times : List ℕ = times_among chosen drain index (arriving_so (OnLines lines) packets) in
    both_between 0 low high [] times (none_between 0 low (omega arith)) (on_lines lines chosen drain index packets itself begun)
those_between (Some before) (Some line) chosen drain index packets meet none begun =
    on_lines (record { before = before; line = line }) chosen drain index packets meet.1 begun

pub begun_by : (line : Option Line) (first here : ℕ) → IfSome line (λ l. IsClockLine l × (l.byte + 178 ≤ 188 * first)) → first ≤ here →
    IfSome line (λ l. l.byte < 188 * here)
begun_by None first here is le = tt
begun_by (Some line) first here is le = omega (arith, is.1, le)

-- All packets

-- The times of all later packets rise.
abbrev LaterRise : QueueState → List (List ℕ) → (ℕ → List ℕ → Bool) → ℕ → Type 0
LaterRise q packets chosen drain = (first here : ℕ) → Waits q first here →
    Rises (bound drain first q.before) (times_among chosen drain first (timed_from q packets))

-- If the times of these packets rise, and then the times of the rest, all times rise.
pub those_first : (chosen : ℕ → List ℕ → Bool) (drain first here low middle : ℕ) (a : Arrival) (held : List (List ℕ)) (o : Option Arrival) (rest : List Timed) →
    o ≡ Some a →
    first + length held ≡ here → Between low middle (times_among chosen drain first (arriving_so a held)) → Rises middle (times_among chosen drain here rest) →
    Rises low (times_among chosen drain first (arrived o held ++ rest))
unfolding arrived
those_first chosen drain first here low middle a held o rest is place all after =
    let many : first + length (arriving_so a held) ≡ here = omega (arith, place, many_arrive a held) in
    rw (is, among-append chosen drain first (arriving_so a held) rest, many)
    (rises_appended low middle (times_among chosen drain first (arriving_so a held)) (times_among chosen drain here rest) all.rises all.order all.within after)

one_more : (q : QueueState) (bytes : List ℕ) (packets : List (List ℕ)) (first here : ℕ) (chosen : ℕ → List ℕ → Bool) (drain : ℕ) → Waits q first here →
    Comes q (reference_in q bytes) first here → LaterRise (with_one q bytes) packets chosen drain → (b : Bool) → still_wait q (reference_in q bytes) ≡ b →
    Rises (bound drain first q.before) (times_among chosen drain first (arrived (released q bytes) q.held ++ timed_from (with_one q bytes) packets))
unfolding arrived
one_more q bytes packets first here chosen drain w c later true h =
    rw h (rw h at (later first (here + 1) (one_waits q bytes first here w c h)))
one_more q bytes packets first here chosen drain w c later false h =
    let line : Option Line = (clock_by q (reference_in q bytes)).line in
    let a : Arrival = arrival_by q.before line in
    let rest : List Timed = timed_from (with_one q bytes) packets in
    let begun = begun_by line here (first + length q.held) (rw c.same_line at (c.leaves h).begun) (omega (arith, w.held)) in
    let meets : Meet q.before line first = subst (λ (b : Option Line). Meet b line first) (sym w.before) c.meets in
    let those = those_between q.before line chosen drain first q.held meets (λ e. w.before ∙ c.none e) begun in
    let all = subst (λ (i : ℕ). Between (bound drain first q.before) (bound drain i line) (times_among chosen drain first (arriving_so a q.held))) w.held
    those in
    let leave : released q bytes ≡ Some a = rw h refl in
    let then_line : (with_one q bytes).before ≡ line = rw h refl in
    let after = subst (λ (l : Option Line). Rises (bound drain here l) (times_among chosen drain here rest)) then_line
    (later here (here + 1) (alone_waits q bytes first here w c h)) in
    those_first chosen drain first here (bound drain first q.before) (bound drain here line) a q.held (released q bytes) rest leave w.held all after

rise : (packets : List (List ℕ)) (q : QueueState) (chosen : ℕ → List ℕ → Bool) (drain : ℕ) → LaterRise q packets chosen drain
unfolding timed_from
rise [] q chosen drain first here w =
    let line : Option Line = q.clock.line in
    let all = those_between line line chosen drain first q.held (meets_itself line first w.clock.begun) (λ e. e)
    (begun_by line first (first + length q.held) w.clock.begun (omega arith)) in
    rw w.before all.rises
rise (bytes ∷ packets) q chosen drain first here w =
    one_more q bytes packets first here chosen drain w (comes_with q bytes first here w) (rise packets (with_one q bytes) chosen drain)
    (still_wait q (reference_in q bytes)) refl

pub rises_law : RisesLaw
rises_law pid packets chosen drain = unfold bound in (rise packets (no_packet pid) chosen drain 0 0 (waits_first pid))
