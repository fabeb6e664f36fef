-- In a stream with stamps each packet arrives once, and no byte arrives before an earlier byte.
use Rattle.std.proofs.Common.{◌≡◌, ◌∙◌, sym, ℕ, ◌+◌, ◌*◌, ◌≤◌, ◌==◌, Bool, true, false, List, [], ◌∷◌, ◌++◌, length, map, Option, Some, None, if◌then◌else◌}
use Rattle.std.proofs.Common.{refl, ap, subst, arith}
use Rattle.std.specs.Prelude.{IfSome}
use Rattle.std.specs.Option.{option_map}
use Rattle.std.proofs.lemmas.Bool.Decides.{nat_tests}
use Rattle.std.proofs.lemmas.List.{append-nil, length-append}
use Rattle.arrival.specs.StampClocks.{StampState, after, is_near, is_same, near_sample, no_stamp, sample_at, sample_if, sample_of, stamp_in, step_at}
use Rattle.arrival.specs.StampClocks.{ticks_since}
use Rattle.arrival.specs.StampClocks.{value_after}
use Rattle.arrival.specs.declared.clock.PcrSample.{PcrSample}
use Rattle.arrival.specs.declared.line.Line.{Line}
use Rattle.arrival.specs.declared.stamp_clock.StampValue.{StampValue}
use Rattle.arrival.specs.declared.arrival.Arrival.{Arrival}
use Rattle.tstd_rows.specs.TransportLaws.{Rises}
use Rattle.packet_times.specs.Waiting.{QueueState, arrival_by, clock_by, given_sample, last_arrival, no_packet, released_with, still_wait}
use Rattle.packet_times.specs.declared.packet_queue.ClockPid.{ClockPid}
use Rattle.laws_view.specs.StampedPackets.{Stamped, StampedOnceLaw, StampedRiseLaw, stamped_from, with_stamped}
use Rattle.laws_view.specs.TimedPackets.{Timed, arrived, arriving_so, waiting}
use Rattle.laws_view.specs.Times.{times_among}
use Rattle.laws_view.proofs.Rising.{Between}
use Rattle.laws_view.proofs.ClockStates.{IsAt, Meet, meets_itself}
use Rattle.laws_view.proofs.TimedPackets.{all_of, begun_by, bound, bytes_of, those_between, those_first}
use Rattle.laws_view.proofs.Waits.{ComesAt, WaitsAt, comes, none_waits}

-- The packets, each of them once

stamped_once : (packets : List Stamped) (c : StampState) (q : QueueState) →
    map (λ p. p.bytes) (stamped_from c q packets) ≡ q.held ++ map (λ p. p.bytes) packets
unfolding stamped_from
stamped_once [] c q = bytes_of (last_arrival q) q.held ∙ sym (append-nil q.held)
stamped_once (p ∷ packets) c q =
    let sample = (step_at c p.head).sample in
    all_of (released_with q sample) q.held (map (λ p. p.bytes) packets) p.bytes (stamped_from (after c p.head) (with_stamped q sample p.bytes) packets)
    (stamped_once packets (after c p.head) (with_stamped q sample p.bytes))

pub once_law : StampedOnceLaw
once_law pid packets = stamped_once packets no_stamp (no_packet pid)

-- The sample of a packet, which is at its first byte

near_at : (index : ℕ) (value : StampValue) (b : Bool) → is_near index ≡ b → IfSome (if b then Some (sample_of index value) else None) (IsAt 0 index)
near_at index value true e = record { byte = omega arith; small = omega arith; near = grind (arith, nat_tests) }
near_at index value false e = tt

if_at : (same : Bool) (index : ℕ) (value : StampValue) → IfSome (sample_if same index value) (IsAt 0 index)
if_at true index value = tt
if_at false index value = near_at index value (is_near index) refl

given_at : (index : ℕ) (sample : Option PcrSample) → IfSome sample (IsAt 0 index) → IfSome (given_sample sample) (λ r. IsAt 0 index r.1)
given_at index None at = tt
given_at index (Some sample) at = at

pub stamp_at : (c : StampState) (head : ℕ) → IfSome (given_sample (step_at c head).sample) (λ r. IsAt 0 c.packets r.1)
stamp_at c head =
    given_at c.packets (step_at c head).sample
    (if_at (is_same (ticks_since c.last (stamp_in head))) c.packets (value_after c.last (stamp_in head)))

-- One more packet

-- The waiting packets before this packet
pub record StampsWait (c : StampState) (q : QueueState) (first here : ℕ) : Type 0 where
  pub waits : WaitsAt 0 q first here
  pub count : c.packets ≡ q.packets

pub comes_stamped : (c : StampState) (q : QueueState) (head first here : ℕ) → StampsWait c q first here →
    ComesAt 0 q (given_sample (step_at c head).sample) first here
comes_stamped c q head first here w =
    comes 0 q (given_sample (step_at c head).sample) first here w.waits
    (subst (λ (n : ℕ). IfSome (given_sample (step_at c head).sample) (λ r. IsAt 0 n r.1)) w.count (stamp_at c head))

-- If the waiting packets still wait, this packet waits with them.
pub one_stamped : (c : StampState) (q : QueueState) (head : ℕ) (bytes : List ℕ) (first here : ℕ) → StampsWait c q first here →
    ComesAt 0 q (given_sample (step_at c head).sample) first here → still_wait q (given_sample (step_at c head).sample) ≡ true →
    StampsWait (after c head) (with_stamped q (step_at c head).sample bytes) first (here + 1)
unfolding waiting
one_stamped c q head bytes first here s c' h = record {
  waits = record {
    count = omega (arith, s.waits.count);
    held = rw h (omega (arith, s.waits.held, length-append q.held (bytes ∷ [])));
    before = rw h (s.waits.before ∙ sym (c'.no_line h));
    clock = rw h (c'.stays h);
  };
  count = omega (arith, s.count);
}

-- If the waiting packets arrive, this packet waits alone.
pub alone_stamped : (c : StampState) (q : QueueState) (head : ℕ) (bytes : List ℕ) (first here : ℕ) → StampsWait c q first here →
    ComesAt 0 q (given_sample (step_at c head).sample) first here → still_wait q (given_sample (step_at c head).sample) ≡ false →
    StampsWait (after c head) (with_stamped q (step_at c head).sample bytes) here (here + 1)
unfolding waiting
alone_stamped c q head bytes first here s c' h = record {
  waits = record {
    count = omega (arith, s.waits.count);
    held = rw h refl;
    before = rw h (sym c'.same_line);
    clock = rw h (c'.leaves h);
  };
  count = omega (arith, s.count);
}

-- All packets

abbrev LaterRise : StampState → QueueState → List Stamped → (ℕ → List ℕ → Bool) → ℕ → Type 0
LaterRise c q packets chosen drain = (first here : ℕ) → StampsWait c q first here →
    Rises (bound drain first q.before) (times_among chosen drain first (stamped_from c q packets))

one_more : (c : StampState) (q : QueueState) (head : ℕ) (bytes : List ℕ) (packets : List Stamped) (first here : ℕ) (chosen : ℕ → List ℕ → Bool) (drain : ℕ) →
    StampsWait c q first here → ComesAt 0 q (given_sample (step_at c head).sample) first here →
    LaterRise (after c head) (with_stamped q (step_at c head).sample bytes) packets chosen drain →
    (b : Bool) → still_wait q (given_sample (step_at c head).sample) ≡ b →
    Rises (bound drain first q.before) (times_among chosen drain first (arrived (released_with q (step_at c head).sample) q.held
    ++ stamped_from (after c head) (with_stamped q (step_at c head).sample bytes) packets))
unfolding arrived
one_more c q head bytes packets first here chosen drain s c' later true h =
    rw h (rw h at (later first (here + 1) (one_stamped c q head bytes first here s c' h)))
one_more c q head bytes packets first here chosen drain s c' later false h =
    let sample = (step_at c head).sample in
    let w : WaitsAt 0 q first here = s.waits in
    let line : Option Line = (clock_by q (given_sample sample)).line in
    let a : Arrival = arrival_by q.before line in
    let rest : List Timed = stamped_from (after c head) (with_stamped q sample bytes) packets in
    let begun = begun_by line here (first + length q.held) (rw c'.same_line at (c'.leaves h).begun) (omega (arith, w.held)) in
    let meets : Meet q.before line first = subst (λ (b : Option Line). Meet b line first) (sym w.before) c'.meets in
    let those = those_between q.before line chosen drain first q.held meets (λ e. w.before ∙ c'.none e) begun in
    let all = subst (λ (i : ℕ). Between (bound drain first q.before) (bound drain i line) (times_among chosen drain first (arriving_so a q.held))) w.held
    those in
    let leave : released_with q sample ≡ Some a = rw h refl in
    let then_line : (with_stamped q sample bytes).before ≡ line = rw h refl in
    let next = subst (λ (l : Option Line). Rises (bound drain here l) (times_among chosen drain here rest)) then_line
    (later here (here + 1) (alone_stamped c q head bytes first here s c' h)) in
    those_first chosen drain first here (bound drain first q.before) (bound drain here line) a q.held (released_with q sample) rest leave w.held all next

rise : (packets : List Stamped) (c : StampState) (q : QueueState) (chosen : ℕ → List ℕ → Bool) (drain : ℕ) → LaterRise c q packets chosen drain
unfolding stamped_from
rise [] c q chosen drain first here s =
    let w : WaitsAt 0 q first here = s.waits in
    let line : Option Line = q.clock.line in
    let all = those_between line line chosen drain first q.held (meets_itself line first w.clock.begun) (λ e. e)
    (begun_by line first (first + length q.held) w.clock.begun (omega arith)) in
    rw w.before all.rises
rise (p ∷ packets) c q chosen drain first here s =
    let sample = (step_at c p.head).sample in
    one_more c q p.head p.bytes packets first here chosen drain s (comes_stamped c q p.head first here s)
    (rise packets (after c p.head) (with_stamped q sample p.bytes) chosen drain) (still_wait q (given_sample sample)) refl

pub none_stamped : (pid : ClockPid) → StampsWait no_stamp (no_packet pid) 0 0
none_stamped pid = record { waits = none_waits 0 pid; count = refl }

pub rise_law : StampedRiseLaw
rise_law pid packets chosen drain = unfold bound in (rise packets no_stamp (no_packet pid) chosen drain 0 0 (none_stamped pid))
