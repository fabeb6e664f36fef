-- In a stream with stamps, if a line begins within a packet, the packet's payload lies on that line.
use Rattle.std.proofs.Common.{◌≡◌, sym, ℕ, ◌+◌, ◌-◌, ◌*◌, ◌≤◌, ◌<◌, Bool, true, false, List, [], ◌∷◌, ◌++◌, length, All}
use Rattle.std.proofs.Common.{Option, Some, None, Result, Ok, Err, refl, subst, arith}
use Rattle.std.specs.Prelude.{IfSome, unwrap_or}
use Rattle.std.proofs.lemmas.List.Elements.{All-head, All-tail}
use Rattle.ts_packet.specs.declared.packet.PacketError.{PacketError}
use Rattle.ts_packet.specs.Reading.{packet_at}
use Rattle.ts_packet.specs.Views.{PacketView}
use Rattle.arrival.specs.StampClocks.{StampState, after, no_stamp, step_at}
use Rattle.arrival.specs.declared.clock.PcrSample.{PcrSample}
use Rattle.arrival.specs.declared.clock.TimedSample.{TimedSample}
use Rattle.arrival.specs.declared.line.Line.{Line}
use Rattle.arrival.specs.declared.arrival.Arrival.{Arrival}
use Rattle.arrival.specs.Clock.{IsMoment}
use Rattle.packet_times.specs.Waiting.{QueueState, arrival_by, begun_by, clock_by, given_sample, no_packet, released_with, still_wait}
use Rattle.packet_times.specs.declared.packet_queue.ClockPid.{ClockPid}
use Rattle.laws_view.specs.Leads.{AllLead, payload_in, payload_size}
use Rattle.laws_view.specs.StampedPackets.{Stamped, StampedLeadLaw, stamped_from, with_stamped}
use Rattle.laws_view.specs.TimedPackets.{Timed, arrived, arriving_so, waiting}
use Rattle.laws_view.proofs.Headers.{packet_left}
use Rattle.laws_view.proofs.Leads.{AllHead, HeadAt, Heads, head_before, head_one, line_heads, those_first, those_lead}
use Rattle.laws_view.proofs.StampedPackets.{StampsWait, alone_stamped, comes_stamped, none_stamped, one_stamped, stamp_at}
use Rattle.laws_view.proofs.ClockStates.{IsAt, origin_before}
use Rattle.laws_view.proofs.Waits.{ComesAt, WaitsAt, exact}

-- Packets of 188 bytes, which have at most 184 payload bytes

read_left : (bytes : List ℕ) (r : Result PacketView PacketError) → packet_at bytes ≡ r → length bytes ≡ 188 → payload_in r ≤ 184
unfolding payload_in
read_left bytes (Err error) e whole = omega arith
read_left bytes (Ok packet) e whole = packet_left bytes packet whole e

payload_left : (bytes : List ℕ) → length bytes ≡ 188 → payload_size bytes ≤ 184
payload_left bytes whole = read_left bytes (packet_at bytes) refl whole

stamp_head : (here : ℕ) (sample : PcrSample) (bytes : List ℕ) → sample.byte ≡ 188 * here + 0 → payload_size bytes ≤ 184 → HeadAt sample.byte here bytes
stamp_head here sample bytes at small begun ends = omega (arith, at, small)

-- The waiting packets before each packet

at_place : (q : QueueState) (o : Option (ℕ × PcrSample)) (first here : ℕ) → WaitsAt 0 q first here → IfSome o (λ r. IsAt 0 q.packets r.1) →
    IfSome o (λ r. IsAt 0 here r.1)
at_place q None first here w at = tt
at_place q (Some r) first here w at = exact 0 q.packets here r.1 w.count at

still_head : (q : QueueState) (o : Option (ℕ × PcrSample)) (bytes : List ℕ) (first here : ℕ) → WaitsAt 0 q first here → Heads q first →
    IfSome o (λ r. IsAt 0 here r.1) → payload_size bytes ≤ 184 → IfSome (clock_by q o).clock.last (λ l. AllHead l.sample.byte first (q.held ++ bytes ∷ []))
unfolding clock_by
still_head q None bytes first here w heads at small = kept q.clock.clock.last w.clock.placed heads
  where
    kept : (last : Option TimedSample) → IfSome last (λ l. IsMoment l.sample.byte q.clock.moment × (l.sample.byte + 178 ≤ 188 * here)) →
        IfSome last (λ l. AllHead l.sample.byte first q.held) → IfSome last (λ l. AllHead l.sample.byte first (q.held ++ bytes ∷ []))
    kept None placed heads = tt
    kept (Some last) placed heads =
        head_one last.sample.byte first q.held bytes heads (λ begun ends. absurd (let no : ⊥ = omega (arith, begun, placed.1, w.held) in no))
still_head q (Some r) bytes first here w heads at small =
    head_one r.1.byte first q.held bytes (head_before r.1.byte first q.held (omega (arith, at.byte, w.held)))
    (stamp_head (first + length q.held) r.1 bytes (omega (arith, at.byte, w.held)) small)

alone_head : (q : QueueState) (o : Option (ℕ × PcrSample)) (bytes : List ℕ) (here : ℕ) → IfSome o (λ r. IsAt 0 here r.1) → payload_size bytes ≤ 184 →
    IfSome (begun_by (clock_by q o) o).clock.last (λ l. AllHead l.sample.byte here (bytes ∷ []))
unfolding clock_by begun_by AllHead
alone_head q None bytes here at small = tt
alone_head q (Some r) bytes here at small = (stamp_head here r.1 bytes at.byte small, tt)

-- All packets

abbrev LaterLead : StampState → QueueState → List Stamped → Type 0
LaterLead c q packets = (first here : ℕ) → StampsWait c q first here → Heads q first → AllLead first (stamped_from c q packets)

one_leads : (c : StampState) (q : QueueState) (head : ℕ) (bytes : List ℕ) (packets : List Stamped) (first here : ℕ) → StampsWait c q first here →
    Heads q first → length bytes ≡ 188 → LaterLead (after c head) (with_stamped q (step_at c head).sample bytes) packets →
    (b : Bool) → still_wait q (given_sample (step_at c head).sample) ≡ b →
    AllLead first (arrived (released_with q (step_at c head).sample) q.held
    ++ stamped_from (after c head) (with_stamped q (step_at c head).sample bytes) packets)
unfolding arrived waiting
one_leads c q head bytes packets first here s heads whole later true h =
    let sample = (step_at c head).sample in
    let o = given_sample sample in
    let c' : ComesAt 0 q o first here = comes_stamped c q head first here s in
    let at = at_place q o first here s.waits (subst (λ (n : ℕ). IfSome o (λ r. IsAt 0 n r.1)) s.count (stamp_at c head)) in
    let small = payload_left bytes whole in
    let none : released_with q sample ≡ None = rw h refl in
    let now : Heads (with_stamped q sample bytes) first = rw h (still_head q o bytes first here s.waits heads at small) in
    subst (λ (a : Option Arrival). AllLead first (arrived a q.held ++ stamped_from (after c head) (with_stamped q sample bytes) packets)) (sym none)
    (later first (here + 1) (one_stamped c q head bytes first here s c' h) now)
one_leads c q head bytes packets first here s heads whole later false h =
    let sample = (step_at c head).sample in
    let o = given_sample sample in
    let w : WaitsAt 0 q first here = s.waits in
    let c' : ComesAt 0 q o first here = comes_stamped c q head first here s in
    let at = at_place q o first here w (subst (λ (n : ℕ). IfSome o (λ r. IsAt 0 n r.1)) s.count (stamp_at c head)) in
    let small = payload_left bytes whole in
    let line : Option Line = (clock_by q o).line in
    let a : Arrival = arrival_by q.before line in
    let leave : released_with q sample ≡ Some a = rw h refl in
    let now : Heads (with_stamped q sample bytes) here = rw h (alone_head q o bytes here at small) in
    let those = those_lead q.before line first q.held (line_heads q.clock.clock.last line first q.held heads c'.origin) in
    those_first first here a q.held (released_with q sample) (stamped_from (after c head) (with_stamped q sample bytes) packets) leave w.held those
    (later here (here + 1) (alone_stamped c q head bytes first here s c' h) now)

lead : (packets : List Stamped) (c : StampState) (q : QueueState) → All (λ p. length p.bytes ≡ 188) packets → LaterLead c q packets
unfolding stamped_from
lead [] c q whole first here s heads =
    let line : Option Line = q.clock.line in
    those_lead q.before line first q.held
    (line_heads q.clock.clock.last line first q.held heads (origin_before q.clock.clock.last first line s.waits.clock.begun))
lead (p ∷ packets) c q whole first here s heads =
    one_leads c q p.head p.bytes packets first here s heads (All-head (λ p. length p.bytes ≡ 188) p packets whole)
    (lead packets (after c p.head) (with_stamped q (step_at c p.head).sample p.bytes) (All-tail (λ p. length p.bytes ≡ 188) p packets whole))
    (still_wait q (given_sample (step_at c p.head).sample)) refl

pub lead_law : StampedLeadLaw
lead_law pid packets whole = lead packets no_stamp (no_packet pid) whole 0 0 (none_stamped pid) tt
