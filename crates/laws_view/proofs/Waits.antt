-- The state of the waiting packets before each packet, and the packets whose arrival becomes known.
use Rattle.std.proofs.Common.{◌≡◌, ◌∙◌, sym, ℕ, ◌+◌, ◌-◌, ◌^◌, ◌≤◌, ◌&&◌, not, nat_lt, is_some, Bool, true, false, List, [], ◌∷◌, length, Option, Some, None}
use Rattle.std.proofs.Common.{Result, Ok, Err, if◌then◌else◌, refl, subst, arith}
use Rattle.std.specs.Prelude.{IfSome, min}
use Rattle.std.specs.Option.{option_map}
use Rattle.std.proofs.lemmas.List.{length-append}
use Rattle.std.proofs.lemmas.Bool.Decides.{nat_tests}
use Rattle.clock27.specs.Reference.{Reference}
use Rattle.ts_packet.specs.declared.packet.PacketError.{PacketError}
use Rattle.ts_packet.specs.Reading.{packet_at}
use Rattle.ts_packet.specs.Views.{AdaptationView, NoFlags, WithFlags, PacketView}
use Rattle.arrival.specs.declared.clock.PcrSample.{PcrSample}
use Rattle.arrival.specs.declared.line.Line.{Line}
use Rattle.tr101290.specs.Samples.{is_near, pcr_sample, sample_in, sample_of, sample_with}
use Rattle.arrival.specs.ArrivalClocks.{ArrivalClockState, line_to}
use Rattle.packet_times.specs.Waiting.{QueueState, begun_by, clock_by, is_of_clock, line_by, no_packet, reference_in, reference_of, reference_read}
use Rattle.packet_times.specs.Waiting.{still_wait}
use Rattle.packet_times.specs.declared.packet_queue.ClockPid.{ClockPid}
use Rattle.laws_view.specs.TimedPackets.{waiting, with_one}
use Rattle.laws_view.proofs.ClockStates.{IsAt, Meet, Next, Origin, IsStateAt, meets_itself, next, origin_before, state_later, state_without}

-- The reference of a packet, which is at its byte 10

near_sample : (index : ℕ) (anew : Bool) (pcr : Reference) (b : Bool) → is_near index ≡ b →
    IfSome (if b then Some (sample_of index anew pcr) else None) (IsAt 10 index)
near_sample index anew pcr true e = record { byte = refl; small = omega arith; near = grind (arith, nat_tests) }
near_sample index anew pcr false e = tt

sample_at : (index : ℕ) (anew : Bool) (pcr : Option Reference) → IfSome (sample_with index anew pcr) (IsAt 10 index)
unfolding sample_with
sample_at index anew None = tt
sample_at index anew (Some pcr) = near_sample index anew pcr (is_near index) refl

field_at : (index : ℕ) (field : Option AdaptationView) → IfSome (sample_in index field) (IsAt 10 index)
unfolding sample_in
field_at index None = tt
field_at index (Some NoFlags) = tt
field_at index (Some (WithFlags parts)) = sample_at index parts.discontinuity_indicator parts.pcr

with_pid : (index pid : ℕ) (o : Option PcrSample) → IfSome o (IsAt 10 index) →
    IfSome {T = ℕ × PcrSample} (option_map (λ sample. (pid, sample)) o) (λ r. IsAt 10 index r.1)
with_pid index pid None at = tt
with_pid index pid (Some sample) at = at

packet_reference : (clock : ClockPid) (index : ℕ) (packet : PacketView) → IfSome (reference_of clock index packet) (λ r. IsAt 10 index r.1)
packet_reference clock index packet = by (not packet.header.transport_error_indicator && is_of_clock clock packet.header.pid)
  where
    by : (b : Bool) → IfSome {T = ℕ × PcrSample} (if b then option_map (λ sample. (packet.header.pid, sample)) (pcr_sample index packet) else None)
        (λ r. IsAt 10 index r.1)
    by true = with_pid index packet.header.pid (pcr_sample index packet) (field_at index packet.adaptation)
    by false = tt

pub reference_at : (clock : ClockPid) (index : ℕ) (r : Result PacketView PacketError) → IfSome (reference_read clock index r) (λ r. IsAt 10 index r.1)
unfolding reference_read
reference_at clock index (Err error) = tt
reference_at clock index (Ok packet) = packet_reference clock index packet

-- The state before packet `here`: the packets from `first` on wait

abbrev pub IsClockAt : ℕ → ArrivalClockState → ℕ → ℕ → Type 0
IsClockAt d clock first here = IsStateAt d clock.clock.last clock.moment clock.line first here

pub record WaitsAt (d : ℕ) (q : QueueState) (first here : ℕ) : Type 0 where
  pub count : q.packets ≡ min here (2 ^ 64 - 1)
  pub held : first + length q.held ≡ here
  pub before : q.before ≡ q.clock.line
  pub clock : IsClockAt d q.clock first here

-- The state for clock references, which are at byte 10
abbrev pub Waits : QueueState → ℕ → ℕ → Type 0
Waits q first here = WaitsAt 10 q first here

pub none_waits : (d : ℕ) (pid : ClockPid) → WaitsAt d (no_packet pid) 0 0
none_waits d pid = record { count = refl; held = refl; before = refl; clock = record { placed = tt; begun = tt; meets = tt } }

pub waits_first : (pid : ClockPid) → Waits (no_packet pid) 0 0
waits_first pid = none_waits 10 pid

-- One more packet

-- In the first 2^40 bytes the count of packets is exact, so a reference is in packet `here`.
pub exact : (d packets here : ℕ) (sample : PcrSample) → packets ≡ min here (2 ^ 64 - 1) → IsAt d packets sample → IsAt d here sample
exact d packets here sample count at =
    let e : packets ≡ here = omega (arith, count, at.byte, at.near) in
    subst (λ (i : ℕ). IsAt d i sample) e at

-- The state after the packet, if the packets from `first` on still wait or if they arrive, and how the two lines meet.
pub record ComesAt (d : ℕ) (q : QueueState) (o : Option (ℕ × PcrSample)) (first here : ℕ) : Type 0 where
  pub stays : still_wait q o ≡ true → IsClockAt d (clock_by q o) first (here + 1)
  pub no_line : still_wait q o ≡ true → (clock_by q o).line ≡ q.clock.line
  pub leaves : still_wait q o ≡ false → IsClockAt d (begun_by (clock_by q o) o) here (here + 1)
  pub same_line : (begun_by (clock_by q o) o).line ≡ (clock_by q o).line
  pub meets : Meet q.clock.line (clock_by q o).line first
  pub none : (clock_by q o).line ≡ None → q.clock.line ≡ None
  pub origin : Origin q.clock.clock.last first (clock_by q o).line

abbrev pub Comes : QueueState → Option (ℕ × PcrSample) → ℕ → ℕ → Type 0
Comes q o first here = ComesAt 10 q o first here

none_given : (o : Option Line) (b : Bool) → (not (is_some o) && b) ≡ true → o ≡ None
none_given None b e = refl
none_given (Some line) b e = absurd (let no : ⊥ = cc in no)

if_none : (o : Option Line) (k here : ℕ) → o ≡ None → IfSome o (λ l. k ≡ here)
if_none o k here e = rw e tt

if_here : (o : Option Line) (here : ℕ) → IfSome o (λ l. here ≡ here)
if_here None here = tt
if_here (Some line) here = refl

pub comes : (d : ℕ) (q : QueueState) (o : Option (ℕ × PcrSample)) (first here : ℕ) → WaitsAt d q first here → IfSome o (λ r. IsAt d q.packets r.1) →
    ComesAt d q o first here
unfolding line_by clock_by begun_by
comes d q None first here w at =
    let le : first ≤ here = omega (arith, w.held) in
    record {
      stays = λ e. state_later d q.clock.clock.last q.clock.moment q.clock.line first here w.clock;
      no_line = λ e. refl;
      leaves = λ e. state_without d q.clock first here w.clock le;
      same_line = refl;
      meets = meets_itself q.clock.line first w.clock.begun;
      none = λ e. e;
      origin = origin_before q.clock.clock.last first q.clock.line w.clock.begun;
    }
comes d q (Some r) first here w at =
    let le : first ≤ here = omega (arith, w.held) in
    let n : Next d q.clock r.1 first here = next d q.clock r.1 first here w.clock le (exact d q.packets here r.1 w.count at) in
    let few : Bool = nat_lt (length q.held) 65536 in
    record {
      stays = λ e. n.state_is first (if_none (line_to q.clock r.1) first here (none_given (line_to q.clock r.1) few e));
      no_line = λ e.
          let none : line_to q.clock r.1 ≡ None = none_given (line_to q.clock r.1) few e in
          none ∙ sym (n.none none);
      leaves = λ e. n.state_is here (if_here (line_to q.clock r.1) here);
      same_line = refl;
      meets = n.meets;
      none = n.none;
      origin = n.origin;
    }

-- If the waiting packets still wait, this packet waits with them.
pub one_waits : (q : QueueState) (bytes : List ℕ) (first here : ℕ) → Waits q first here → Comes q (reference_in q bytes) first here →
    still_wait q (reference_in q bytes) ≡ true → Waits (with_one q bytes) first (here + 1)
unfolding waiting
one_waits q bytes first here w c h = record {
  count = omega (arith, w.count);
  held = rw h (omega (arith, w.held, length-append q.held (bytes ∷ [])));
  before = rw h (w.before ∙ sym (c.no_line h));
  clock = rw h (c.stays h);
}

-- If the waiting packets arrive, this packet waits alone.
pub alone_waits : (q : QueueState) (bytes : List ℕ) (first here : ℕ) → Waits q first here → Comes q (reference_in q bytes) first here →
    still_wait q (reference_in q bytes) ≡ false → Waits (with_one q bytes) here (here + 1)
unfolding waiting
alone_waits q bytes first here w c h = record {
  count = omega (arith, w.count);
  held = rw h refl;
  before = rw h (sym c.same_line);
  clock = rw h (c.leaves h);
}

pub comes_with : (q : QueueState) (bytes : List ℕ) (first here : ℕ) → Waits q first here → Comes q (reference_in q bytes) first here
comes_with q bytes first here w = comes 10 q (reference_in q bytes) first here w (reference_at q.pid q.packets (packet_at bytes))
