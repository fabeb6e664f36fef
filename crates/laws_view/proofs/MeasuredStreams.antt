-- The most in a transport buffer, in a view and by measuring
use Rattle.std.proofs.Common.{◌≡◌, ◌∙◌, sym, ℕ, ◌+◌, ◌≤◌, List, ◌∷◌, ◌++◌, length, ap, arith}
use Rattle.ts_packet.specs.PidList.{cut_packets}
use Rattle.unit_timing.specs.Schedule.{Packet}
use Rattle.unit_timing.specs.Transport.{slots_of, tb_fullness}
use Rattle.tstd.specs.PidPackets.{packets_from}
use Rattle.tstd.specs.Carried.{packets_on}
use Rattle.tstd.proofs.StreamPackets.{packets_same}
use Rattle.tstd_rows.specs.Held.{transport_most}
use Rattle.ts_watch.specs.Choices.{RequestView}
use Rattle.es_view.specs.Entries.{EntryState}
use Rattle.laws_view.specs.WholeStreams.{IsWhole, indices_of}
use Rattle.laws_view.specs.MeasuredStreams.{MeasuredStreamLaw}
use Rattle.laws_view.proofs.LaterPackets.{last_slots, packets_two, peak_le, slots_two}

-- The packets of the PID are the packets before its buffers begin and the packets after.
pub all_slots : (request : RequestView) (rate : ℕ) (bytes : List ℕ) (e : EntryState) (pid : ℕ) (w : IsWhole request rate (cut_packets bytes) e) → e.pid ≡ pid →
    slots_of (packets_on pid bytes) ≡ slots_of (packets_from pid 0 w.begun.before) ++ indices_of e.pid (length w.begun.before) (w.begun.first ∷ w.begun.later)
all_slots request rate bytes e pid w same =
    let rest : List (List ℕ) = w.begun.first ∷ w.begun.later in
    let none : 0 + length w.begun.before ≡ length w.begun.before = omega arith in
    ap (λ (ps : List Packet). slots_of ps)
    (packets_same pid 0 (cut_packets bytes) ∙ ap (λ (l : List (List ℕ)). packets_from pid 0 l) w.begun.split ∙ packets_two pid 0 w.begun.before rest)
    ∙ slots_two (packets_from pid 0 w.begun.before) (packets_from pid (0 + length w.begun.before) rest)
    ∙ ap (λ (i : ℕ). slots_of (packets_from pid 0 w.begun.before) ++ indices_of pid i rest) none
    ∙ ap (λ (q : ℕ). slots_of (packets_from pid 0 w.begun.before) ++ indices_of q (length w.begun.before) rest) (sym same)

-- At each moment the packets of the view leave no more in the buffer than all packets.
pub no_fuller : (request : RequestView) (rate x : ℕ) (bytes : List ℕ) (e : EntryState) (pid rx : ℕ) (w : IsWhole request rate (cut_packets bytes) e) →
    e.pid ≡ pid → e.held.rx ≡ rx →
    tb_fullness rate e.held.rx x (indices_of e.pid (length w.begun.before) (w.begun.first ∷ w.begun.later)) ≤ tb_fullness rate rx x
    (slots_of (packets_on pid bytes))
no_fuller request rate x bytes e pid rx w same drained =
    let last : List ℕ = indices_of e.pid (length w.begun.before) (w.begun.first ∷ w.begun.later) in
    let all : tb_fullness rate rx x (slots_of (packets_on pid bytes)) ≡ tb_fullness rate rx x (slots_of (packets_from pid 0 w.begun.before) ++ last) =
    ap (λ (l : List ℕ). tb_fullness rate rx x l) (all_slots request rate bytes e pid w same) in
    let here : tb_fullness rate e.held.rx x last ≡ tb_fullness rate rx x last = ap (λ (r : ℕ). tb_fullness rate r x last) drained in
    omega (arith, all, here, last_slots rate rx x (slots_of (packets_from pid 0 w.begun.before)) last)

pub measured_stream_law : MeasuredStreamLaw
measured_stream_law request rate base0 bytes e s units f w same drained full = (
  peak_le _ _ (transport_most e.held) f.transport (λ x. no_fuller request rate x bytes e s.pid s.rx w same drained) w.lines.transport full.transport,
  λ none.
      let last : List ℕ = indices_of e.pid (length w.begun.before) (w.begun.first ∷ w.begun.later) in
      let slots : slots_of (packets_on s.pid bytes) ≡ last = all_slots request rate bytes e s.pid w same
      ∙ ap (λ (ps : List Packet). slots_of ps ++ last) none in
      let alike : (x : ℕ) → tb_fullness rate s.rx x (slots_of (packets_on s.pid bytes)) ≡ tb_fullness rate e.held.rx x last =
      λ x. ap (λ (l : List ℕ). tb_fullness rate s.rx x l) slots ∙ ap (λ (r : ℕ). tb_fullness rate r x last) (sym drained) in
      let one = peak_le _ _ (transport_most e.held) f.transport (λ x. no_fuller request rate x bytes e s.pid s.rx w same drained) w.lines.transport
      full.transport in
      let other = peak_le _ _ f.transport (transport_most e.held) (λ x. omega (arith, alike x)) full.transport w.lines.transport in
      omega (arith, one, other),
)
