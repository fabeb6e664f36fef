-- The arrival times of the bytes of successive packets rise.
use Rattle.std.proofs.Common.{◌≡◌, sym, ℕ, zero, suc, ◌+◌, ◌*◌, ◌≤◌, ◌<◌, Bool, true, false, List, [], ◌∷◌, ◌++◌, length, if◌then◌else◌, refl, inl, inr, arith}
use Rattle.std.proofs.Common.{All}
use Rattle.std.proofs.lemmas.Bool.{cases_lt, le-leb, lt-leb}
use Rattle.std.proofs.lemmas.List.{append_assoc}
use Rattle.std.proofs.lemmas.List.Elements.{All-nil, All-cons, All-append, All-weaker}
use Rattle.arrival.specs.Lines.{arrival_at}
use Rattle.arrival.proofs.Lines.{rises}
use Rattle.tstd_rows.specs.TransportLaws.{Rises}
use Rattle.tstd_rows.proofs.Rising.{rises_appended}
use Rattle.arrival.specs.Arrivals.{has_times, line_at}
use Rattle.arrival.specs.declared.arrival.Arrival.{Arrival}
use Rattle.arrival.specs.declared.arrival.Arrival.TheVariants.{OnLines}
use Rattle.arrival.specs.declared.arrival.ClockLines.{ClockLines}
use Rattle.laws_view.specs.TimedPackets.{Timed, arriving_so}
use Rattle.laws_view.specs.Times.{packet_times, time_of, times_among, times_from}
use Rattle.laws_view.proofs.ClockStates.{MeetAt}

-- No byte arrives before an earlier byte.
abbrev pub InOrder : Arrival → ℕ → Type 0
InOrder arrival drain = (i j : ℕ) → i ≤ j → time_of arrival drain i ≤ time_of arrival drain j

-- Times that rise between two moments
pub record Between (low high : ℕ) (times : List ℕ) : Type 0 where
  pub rises : Rises low times
  pub within : All (λ t. t ≤ high) times
  pub order : low ≤ high

pub none_between : (low high : ℕ) → low ≤ high → Between low high []
none_between low high le = record { rises = unfold Rises in tt; within = All-nil (λ t. t ≤ high); order = le }

pub both_between : (low middle high : ℕ) (times more : List ℕ) → Between low middle times → Between middle high more → Between low high (times ++ more)
both_between low middle high times more p q = record {
  rises = rises_appended low middle times more p.rises p.order p.within q.rises;
  within = All-append (λ t. t ≤ high) times more (All-weaker (λ t. t ≤ middle) (λ t. t ≤ high) (λ t le. omega (arith, le, q.order)) times p.within) q.within;
  order = omega (arith, p.order, q.order);
}

-- Successive bytes have times that rise.
pub bytes_between : (arrival : Arrival) (drain i n : ℕ) → InOrder arrival drain →
    Between (time_of arrival drain i) (time_of arrival drain (i + n)) (times_from arrival drain i n)
unfolding times_from
bytes_between arrival drain i zero order = none_between (time_of arrival drain i) (time_of arrival drain (i + zero)) (order i (i + zero) (omega arith))
bytes_between arrival drain i (suc n) order =
    let t : ℕ = time_of arrival drain i in
    let e : suc i + n ≡ i + suc n = omega arith in
    let rest : Between (time_of arrival drain (suc i)) (time_of arrival drain (i + suc n)) (times_from arrival drain (suc i) n) =
    rw e at (bytes_between arrival drain (suc i) n order) in
    let next : t ≤ time_of arrival drain (suc i) = order i (suc i) (omega arith) in
    let one : Between t (time_of arrival drain (suc i)) (t ∷ []) = record {
      rises = unfold Rises in (omega arith, tt);
      within = All-cons (λ u. u ≤ time_of arrival drain (suc i)) t [] next (All-nil (λ u. u ≤ time_of arrival drain (suc i)));
      order = next;
    } in
    both_between t (time_of arrival drain (suc i)) (time_of arrival drain (i + suc n)) (t ∷ []) (times_from arrival drain (suc i) n) one rest

-- Successive packets with this arrival have times that rise, whichever packets are chosen.
packet_between : (arrival : Arrival) (drain index : ℕ) (counts : Bool) → InOrder arrival drain →
    Between (time_of arrival drain (188 * index)) (time_of arrival drain (188 * (index + 1))) (if counts then packet_times drain index arrival else [])
packet_between arrival drain index counts order = by counts (has_times arrival (188 * index) 188)
  where
    low : ℕ
    low = time_of arrival drain (188 * index)

    high : ℕ
    high = time_of arrival drain (188 * (index + 1))

    none : Between low high []
    none = none_between low high (order (188 * index) (188 * (index + 1)) (omega arith))

    by : (a b : Bool) → Between low high (if a then (if b then times_from arrival drain (188 * index) 188 else []) else [])
    by true true = let e : 188 * index + 188 ≡ 188 * (index + 1) = omega arith in rw e at (bytes_between arrival drain (188 * index) 188 order)
    by true false = none
    by false b = none

pub packets_between : (arrival : Arrival) (chosen : ℕ → List ℕ → Bool) (drain index : ℕ) (packets : List (List ℕ)) → InOrder arrival drain →
    Between (time_of arrival drain (188 * index)) (time_of arrival drain (188 * (index + length packets)))
    (times_among chosen drain index (arriving_so arrival packets))
unfolding times_among
packets_between arrival chosen drain index [] order =
    none_between (time_of arrival drain (188 * index)) (time_of arrival drain (188 * (index + 0))) (order (188 * index) (188 * (index + 0)) (omega arith))
packets_between arrival chosen drain index (bytes ∷ packets) order =
    let e : index + 1 + length packets ≡ index + length (bytes ∷ packets) = omega arith in
    let rest = rw e at (packets_between arrival chosen drain (index + 1) packets order) in
    both_between (time_of arrival drain (188 * index)) (time_of arrival drain (188 * (index + 1)))
    (time_of arrival drain (188 * (index + length (bytes ∷ packets))))
    (if chosen index bytes then packet_times drain index arrival else []) (times_among chosen drain (index + 1) (arriving_so arrival packets))
    (packet_between arrival drain index (chosen index bytes) order) rest

-- The times of concatenated lists of packets are concatenated.
pub among-append : (chosen : ℕ → List ℕ → Bool) (drain index : ℕ) (ps qs : List Timed) →
    times_among chosen drain index (ps ++ qs) ≡ times_among chosen drain index ps ++ times_among chosen drain (index + length ps) qs
unfolding times_among
among-append chosen drain index [] qs = let e : index + 0 ≡ index = omega arith in rw e refl
among-append chosen drain index (p ∷ ps) qs =
    let e : index + 1 + length ps ≡ index + length (p ∷ ps) = omega arith in
    let rest = rw e at (among-append chosen drain (index + 1) ps qs) in
    rw rest (sym (append_assoc (if chosen index p.bytes then packet_times drain index p.arrival else []) (times_among chosen drain (index + 1) ps)
    (times_among chosen drain (index + length (p ∷ ps)) qs)))

-- Times on two lines that meet rise.
pub before_is : (lines : ClockLines) (i : ℕ) → i ≤ lines.line.byte → line_at lines i ≡ lines.before
before_is lines i le = rw (le-leb i lines.line.byte le) refl

pub after_is : (lines : ClockLines) (i : ℕ) → lines.line.byte < i → line_at lines i ≡ lines.line
after_is lines i lt = rw (lt-leb i lines.line.byte lt) refl

pub lines_in_order : (lines : ClockLines) (first drain : ℕ) → MeetAt lines.before lines.line first → InOrder (OnLines lines) drain
unfolding time_of
lines_in_order lines first drain meet i j le = elim (cases_lt lines.line.byte i) [
  | inl late ↦ rw (after_is lines i late, after_is lines j (omega (arith, late, le))) (rises drain lines.line i j meet.some le)
  | inr early ↦ elim (cases_lt lines.line.byte j) [
    | inl late ↦
        rw (before_is lines i early, after_is lines j late)
        (omega (
          arith,
          rises drain lines.before i lines.line.byte meet.begun early,
          meet.meets drain,
          rises drain lines.line lines.line.byte j meet.some (omega (arith, late)),
        ))
    | inr soon ↦ rw (before_is lines i early, before_is lines j soon) (rises drain lines.before i j meet.begun le)
  ]
]

-- The first byte of the waiting packets arrives on the earlier line, and bytes after the begin of the later line arrive on the later line.
pub first_time : (lines : ClockLines) (first drain : ℕ) → MeetAt lines.before lines.line first →
    arrival_at drain lines.before (188 * first) ≡ time_of (OnLines lines) drain (188 * first)
unfolding time_of
first_time lines first drain meet = elim meet.same_or_within [
  | inl same ↦ elim (cases_lt lines.line.byte (188 * first)) [
    | inl late ↦ rw (after_is lines (188 * first) late, same) refl
    | inr early ↦ rw (before_is lines (188 * first) early) refl
  ]
  | inr within ↦ rw (before_is lines (188 * first) within) refl
]

pub last_time : (lines : ClockLines) (drain i : ℕ) → lines.line.byte < i → time_of (OnLines lines) drain i ≡ arrival_at drain lines.line i
unfolding time_of
last_time lines drain i after = rw (after_is lines i after) refl
