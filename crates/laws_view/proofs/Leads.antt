-- If a line begins within a packet, the packet's payload lies on that line.
use Rattle.std.proofs.Common.{◌≡◌, sym, ℕ, ◌+◌, ◌-◌, ◌*◌, ◌≤◌, ◌<◌, ◌&&◌, not, Bool, true, false, nat_le, nat_lt, is_some, List, [], ◌∷◌, ◌++◌, length, All}
use Rattle.std.proofs.Common.{Option, Some, None, Result, Ok, Err, if◌then◌else◌, refl, subst, inl, inr, arith}
use Rattle.std.specs.Prelude.{IfSome, unwrap_or}
use Rattle.std.specs.Option.{option_map}
use Rattle.std.proofs.lemmas.Bool.Decides.{nat_tests}
use Rattle.std.proofs.lemmas.List.Elements.{All-head, All-tail}
use Rattle.clock27.specs.Reference.{Reference}
use Rattle.ts_packet.specs.declared.packet.PacketError.{PacketError}
use Rattle.ts_packet.specs.Reading.{packet_at}
use Rattle.ts_packet.specs.Views.{AdaptationView, NoFlags, WithFlags, PacketView}
use Rattle.arrival.specs.declared.clock.PcrSample.{PcrSample}
use Rattle.arrival.specs.declared.clock.TimedSample.{TimedSample}
use Rattle.arrival.specs.declared.line.Line.{Line}
use Rattle.arrival.specs.Clock.{IsMoment}
use Rattle.tr101290.specs.Samples.{is_near, pcr_sample, sample_in, sample_of, sample_with}
use Rattle.arrival.specs.Arrivals.{lead_of}
use Rattle.arrival.specs.declared.arrival.Arrival.{Arrival}
use Rattle.arrival.specs.declared.arrival.Arrival.TheVariants.{Unknown, OnLines}
use Rattle.arrival.specs.declared.arrival.ClockLines.{ClockLines}
use Rattle.packet_times.specs.Waiting.{QueueState, arrival_by, begun_by, clock_by, is_of_clock, no_packet, reference_in, reference_read, released}
use Rattle.packet_times.specs.Waiting.{still_wait}
use Rattle.packet_times.specs.declared.packet_queue.ClockPid.{ClockPid}
use Rattle.laws_view.specs.Leads.{AllLead, LeadLaw, payload_in, payload_size}
use Rattle.laws_view.specs.TimedPackets.{Timed, arrived, arriving_so, timed_from, waiting, with_one}
use Rattle.laws_view.proofs.Headers.{packet_rest, pcr_in}
use Rattle.laws_view.proofs.ClockStates.{IsAt, Origin, origin_before}
use Rattle.laws_view.proofs.Waits.{Comes, Waits, alone_waits, comes_with, exact, one_waits, reference_at, waits_first}
use Rattle.laws_view.proofs.TimedPackets.{many_arrive}

-- Packets with a reference, which have at most 176 payload bytes

sample_has : (index : ℕ) (field : Option AdaptationView) → IfSome (sample_in index field) (λ s. is_some (pcr_in field) ≡ true)
unfolding sample_in pcr_in
sample_has index None = tt
sample_has index (Some NoFlags) = tt
sample_has index (Some (WithFlags parts)) = by parts.pcr
  where
    near : (pcr : Reference) (b : Bool) → IfSome (if b then Some (sample_of index parts.discontinuity_indicator pcr) else None) (λ s. true ≡ true)
    near pcr true = refl
    near pcr false = tt

    by : (pcr : Option Reference) → IfSome (sample_with index parts.discontinuity_indicator pcr) (λ s. is_some pcr ≡ true)
    by None = unfold sample_with in tt
    by (Some pcr) = unfold sample_with in near pcr (is_near index)

if_has : (o : Option PcrSample) (pid size : ℕ) (has : Bool) → IfSome o (λ s. has ≡ true) → (has ≡ true → size ≤ 176) →
    IfSome {T = ℕ × PcrSample} (option_map (λ sample. (pid, sample)) o) (λ r. size ≤ 176)
if_has None pid size has is small = tt
if_has (Some sample) pid size has is small = small is

read_small : (clock : ClockPid) (index : ℕ) (read : Result PacketView PacketError) →
    ((packet : PacketView) → read ≡ Ok packet → is_some (pcr_in packet.adaptation) ≡ true →
    length (unwrap_or packet.payload []) ≤ 176) → IfSome (reference_read clock index read) (λ r. payload_in read ≤ 176)
unfolding reference_read payload_in
read_small clock index (Err error) small = tt
read_small clock index (Ok packet) small = by (not packet.header.transport_error_indicator && is_of_clock clock packet.header.pid)
  where
    size : ℕ
    size = length (unwrap_or packet.payload [])

    by : (b : Bool) → IfSome {T = ℕ × PcrSample} (if b then option_map (λ sample. (packet.header.pid, sample)) (pcr_sample index packet) else None)
        (λ r. size ≤ 176)
    by true = if_has (pcr_sample index packet) packet.header.pid size (is_some (pcr_in packet.adaptation)) (sample_has index packet.adaptation)
        (small packet refl)
    by false = tt

pub reference_small : (q : QueueState) (bytes : List ℕ) → length bytes ≡ 188 → IfSome (reference_in q bytes) (λ r. payload_size bytes ≤ 176)
reference_small q bytes whole = read_small q.pid q.packets (packet_at bytes) (λ packet e has. packet_rest bytes packet whole e has)

-- The head of a packet: if the byte is in the packet, the payload begins after it

abbrev pub HeadAt : ℕ → ℕ → List ℕ → Type 0
HeadAt byte index bytes = 188 * index ≤ byte → byte < 188 * index + 188 → (byte + 1 - 188 * index) + payload_size bytes ≤ 188

unfoldable pub AllHead : ℕ → ℕ → List (List ℕ) → Type 0
AllHead byte index [] = Unit {0}
AllHead byte index (bytes ∷ packets) = HeadAt byte index bytes × AllHead byte (index + 1) packets

head_after : (byte index : ℕ) (packets : List (List ℕ)) → byte < 188 * index → AllHead byte index packets
unfolding AllHead
head_after byte index [] before = tt
head_after byte index (bytes ∷ packets) before =
    (λ begun ends. absurd (let no : ⊥ = omega (arith, begun, before) in no), head_after byte (index + 1) packets (omega (arith, before)))

pub head_one : (byte index : ℕ) (packets : List (List ℕ)) (bytes : List ℕ) → AllHead byte index packets → HeadAt byte (index + length packets) bytes →
    AllHead byte index (packets ++ bytes ∷ [])
unfolding AllHead
head_one byte index [] bytes all one = let e : index + 0 ≡ index = omega arith in (rw e at one, tt)
head_one byte index (p ∷ packets) bytes all one =
    let e : index + length (p ∷ packets) ≡ index + 1 + length packets = omega arith in
    (all.0, head_one byte (index + 1) packets bytes all.1 (rw e at one))

pub head_before : (byte index : ℕ) (packets : List (List ℕ)) → 188 * (index + length packets) ≤ byte → AllHead byte index packets
unfolding AllHead
head_before byte index [] after = tt
head_before byte index (p ∷ packets) after = (
  λ begun ends. absurd (let no : ⊥ = omega (arith, after, ends) in no),
  head_before byte (index + 1) packets (omega (arith, after)),
)

-- The reference is in the head of its packet.
reference_head : (here : ℕ) (sample : PcrSample) (bytes : List ℕ) → sample.byte ≡ 188 * here + 10 → payload_size bytes ≤ 176 → HeadAt sample.byte here bytes
reference_head here sample bytes at small begun ends = omega (arith, at, small)

-- The same for arriving packets

timed_leads : (lines : ClockLines) (index : ℕ) (packets : List (List ℕ)) → AllHead lines.line.byte index packets →
    AllLead index (arriving_so (OnLines lines) packets)
unfolding AllHead AllLead lead_of
timed_leads lines index [] all = tt
timed_leads lines index (bytes ∷ packets) all =
    (by (nat_le (188 * index) lines.line.byte) (nat_lt lines.line.byte (188 * index + 188)) refl refl, timed_leads lines (index + 1) packets all.1)
  where
    lead : Bool → ℕ
    lead b = if b then lines.line.byte + 1 - 188 * index else 0

    by : (a b : Bool) → nat_le (188 * index) lines.line.byte ≡ a → nat_lt lines.line.byte (188 * index + 188) ≡ b →
        0 < (if nat_le (188 * index) lines.line.byte && nat_lt lines.line.byte (188 * index + 188) then lines.line.byte + 1 - 188 * index else 0) →
        (if nat_le (188 * index) lines.line.byte && nat_lt lines.line.byte (188 * index + 188) then lines.line.byte + 1 - 188 * index else 0)
        + payload_size bytes ≤ 188
    by true true e f some = rw (e, f) (all.0 (grind (arith, nat_tests)) (grind (arith, nat_tests)))
    by true false e f some = absurd (let no : 0 < 0 = rw (e, f) at some in omega (arith, no))
    by false b e f some = absurd (let no : 0 < 0 = rw e at some in omega (arith, no))

unknown_leads : (index : ℕ) (packets : List (List ℕ)) → AllLead index (arriving_so Unknown packets)
unfolding AllLead lead_of
unknown_leads index [] = tt
unknown_leads index (bytes ∷ packets) = (λ some. absurd (let no : ⊥ = omega (arith, some) in no), unknown_leads (index + 1) packets)

pub those_lead : (before line : Option Line) (index : ℕ) (packets : List (List ℕ)) → IfSome line (λ l. AllHead l.byte index packets) →
    AllLead index (arriving_so (arrival_by before line) packets)
unfolding arrival_by
those_lead before None index packets all = unknown_leads index packets
those_lead None (Some line) index packets all = timed_leads (record { before = line; line = line }) index packets all
those_lead (Some before) (Some line) index packets all = timed_leads (record { before = before; line = line }) index packets all

lead_append : (index : ℕ) (ps qs : List Timed) → AllLead index ps → AllLead (index + length ps) qs → AllLead index (ps ++ qs)
unfolding AllLead
lead_append index [] qs all more = let e : index + 0 ≡ index = omega arith in rw e at more
lead_append index (p ∷ ps) qs all more =
    let e : index + length (p ∷ ps) ≡ index + 1 + length ps = omega arith in
    (all.0, lead_append (index + 1) ps qs all.1 (rw e at more))

-- The waiting packets before each packet

abbrev pub Heads : QueueState → ℕ → Type 0
Heads q first = IfSome q.clock.clock.last (λ l. AllHead l.sample.byte first q.held)

pub line_heads : (last : Option TimedSample) (line : Option Line) (first : ℕ) (held : List (List ℕ)) → IfSome last (λ l. AllHead l.sample.byte first held) →
    Origin last first line → IfSome line (λ l. AllHead l.byte first held)
line_heads last None first held heads origin = tt
line_heads last (Some line) first held heads (inl far) = head_after line.byte first held (omega (arith, far))
line_heads last (Some line) first held heads (inr from) = rw from.byte (rw from.is at heads)

-- The last reference is in the head of its packet after one more packet, if the waiting packets still wait or if this packet waits alone.
still_head : (q : QueueState) (o : Option (ℕ × PcrSample)) (bytes : List ℕ) (first here : ℕ) → Waits q first here → Heads q first →
    IfSome o (λ r. IsAt 10 here r.1) →
    IfSome o (λ r. payload_size bytes ≤ 176) → IfSome (clock_by q o).clock.last (λ l. AllHead l.sample.byte first (q.held ++ bytes ∷ []))
unfolding clock_by
still_head q None bytes first here w heads at small = kept q.clock.clock.last w.clock.placed heads
  where
    kept : (last : Option TimedSample) → IfSome last (λ l. IsMoment l.sample.byte q.clock.moment × (l.sample.byte + 178 ≤ 188 * here)) →
        IfSome last (λ l. AllHead l.sample.byte first q.held) → IfSome last (λ l. AllHead l.sample.byte first (q.held ++ bytes ∷ []))
    kept None placed heads = tt
    kept (Some last) placed heads =
        head_one last.sample.byte first q.held bytes heads (λ begun ends. absurd (let no : ⊥ = omega (arith, begun, placed.1, w.held) in no))
still_head q (Some r) bytes first here w heads at small =
    head_one r.1.byte first q.held bytes (head_before r.1.byte first q.held (omega (arith, at.byte, w.held)))
    (reference_head (first + length q.held) r.1 bytes (omega (arith, at.byte, w.held)) small)

alone_head : (q : QueueState) (o : Option (ℕ × PcrSample)) (bytes : List ℕ) (here : ℕ) → IfSome o (λ r. IsAt 10 here r.1) →
    IfSome o (λ r. payload_size bytes ≤ 176) →
    IfSome (begun_by (clock_by q o) o).clock.last (λ l. AllHead l.sample.byte here (bytes ∷ []))
unfolding clock_by begun_by AllHead
alone_head q None bytes here at small = tt
alone_head q (Some r) bytes here at small = (reference_head here r.1 bytes at.byte small, tt)

pub at_here : (q : QueueState) (o : Option (ℕ × PcrSample)) (first here : ℕ) → Waits q first here → IfSome o (λ r. IsAt 10 q.packets r.1) →
    IfSome o (λ r. IsAt 10 here r.1)
at_here q None first here w at = tt
at_here q (Some r) first here w at = exact 10 q.packets here r.1 w.count at

-- All packets

abbrev LaterLead : QueueState → List (List ℕ) → Type 0
LaterLead q packets = (first here : ℕ) → Waits q first here → Heads q first → AllLead first (timed_from q packets)

pub those_first : (index here : ℕ) (a : Arrival) (held : List (List ℕ)) (o : Option Arrival) (rest : List Timed) → o ≡ Some a → index + length held ≡ here →
    AllLead index (arriving_so a held) → AllLead here rest → AllLead index (arrived o held ++ rest)
unfolding arrived
those_first index here a held o rest is place all after =
    let many : index + length (arriving_so a held) ≡ here = omega (arith, place, many_arrive a held) in
    rw is (lead_append index (arriving_so a held) rest all (rw (sym many) at after))

one_leads : (q : QueueState) (bytes : List ℕ) (packets : List (List ℕ)) (first here : ℕ) → Waits q first here → Heads q first → length bytes ≡ 188 →
    LaterLead (with_one q bytes) packets → (b : Bool) → still_wait q (reference_in q bytes) ≡ b →
    AllLead first (arrived (released q bytes) q.held ++ timed_from (with_one q bytes) packets)
unfolding arrived waiting
one_leads q bytes packets first here w heads whole later true h =
    let o = reference_in q bytes in
    let c : Comes q o first here = comes_with q bytes first here w in
    let at = at_here q o first here w (reference_at q.pid q.packets (packet_at bytes)) in
    let small = reference_small q bytes whole in
    let none : released q bytes ≡ None = rw h refl in
    let now : Heads (with_one q bytes) first = rw h (still_head q o bytes first here w heads at small) in
    subst (λ (a : Option Arrival). AllLead first (arrived a q.held ++ timed_from (with_one q bytes) packets)) (sym none)
    (later first (here + 1) (one_waits q bytes first here w c h) now)
one_leads q bytes packets first here w heads whole later false h =
    let o = reference_in q bytes in
    let c : Comes q o first here = comes_with q bytes first here w in
    let at = at_here q o first here w (reference_at q.pid q.packets (packet_at bytes)) in
    let small = reference_small q bytes whole in
    let line : Option Line = (clock_by q o).line in
    let a : Arrival = arrival_by q.before line in
    let leave : released q bytes ≡ Some a = rw h refl in
    let now : Heads (with_one q bytes) here = rw h (alone_head q o bytes here at small) in
    let those = those_lead q.before line first q.held (line_heads q.clock.clock.last line first q.held heads c.origin) in
    those_first first here a q.held (released q bytes) (timed_from (with_one q bytes) packets) leave w.held those
    (later here (here + 1) (alone_waits q bytes first here w c h) now)

lead : (packets : List (List ℕ)) (q : QueueState) → All (λ bytes. length bytes ≡ 188) packets → LaterLead q packets
unfolding timed_from
lead [] q whole first here w heads =
    let line : Option Line = q.clock.line in
    those_lead q.before line first q.held (line_heads q.clock.clock.last line first q.held heads (origin_before q.clock.clock.last first line w.clock.begun))
lead (bytes ∷ packets) q whole first here w heads =
    one_leads q bytes packets first here w heads (All-head (λ bytes. length bytes ≡ 188) bytes packets whole)
    (lead packets (with_one q bytes) (All-tail (λ bytes. length bytes ≡ 188) bytes packets whole)) (still_wait q (reference_in q bytes)) refl

pub lead_law : LeadLaw
lead_law pid packets whole = lead packets (no_packet pid) whole 0 0 (waits_first pid) tt
