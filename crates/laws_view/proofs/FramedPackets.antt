-- The bytes of a packet that is viewed by access units arrive and leave the transport buffer as in a view by PES packets.
use Rattle.std.proofs.Common.{◌≡◌, ◌∙◌, sym, ℕ, suc, ◌+◌, ◌-◌, ◌*◌, ◌≤◌, ◌<◌, Bool, true, false, List, [], ◌++◌, length}
use Rattle.std.proofs.Common.{refl, ap, ap₂, subst, arith}
use Rattle.std.proofs.lemmas.List.{length-append}
use Rattle.clock27.specs.Arrival.{bytes_from}
use Rattle.clock27.specs.Departure.{departures, last_left}
use Rattle.tstd.proofs.ByteRows.{length-row, row_split}
use Rattle.sound_frames.specs.declared.frame_walk.FramePart.{FramePart}
use Rattle.arrival.specs.declared.arrival.Arrival.{Arrival}
use Rattle.arrival.specs.declared.arrival.Arrival.TheVariants.{AtRate}
use Rattle.tstd_rows.specs.History.{arrivals_of, payload_left}
use Rattle.tstd_rows.specs.declared.arriving.Arriving.{Arriving}
use Rattle.tstd_rows.specs.Held.{Held}
use Rattle.tstd_rows.specs.Entering.{after, after_bytes, after_first, after_unit, size_of, takes_in, with_first, with_packet}
use Rattle.es_events.specs.declared.view_options.ViewOptions.{ViewOptions}
use Rattle.es_view.specs.EntryFrames.{FramedPayload, frames_held, place_of}
use Rattle.laws_view.specs.StreamPackets.{most_packets}
use Rattle.laws_view.proofs.EnteredBytes.{Alike, arrives_trans, packet_arrives, taken_in}
use Rattle.laws_view.proofs.MainBytes.{no_lead}
use Rattle.laws_view.proofs.FrameRows.{InTurn}
use Rattle.laws_view.proofs.FramedBytes.{Ahead, Row, ahead_times, base_of, bytes_row, frames_row, passed_ahead, row_trans, unit_ahead}

-- Two buffers with the same arrivals, from at most n packets, and with the same bytes passed on to the main buffer
pub record Together (rate n : ℕ) (h g : Held) : Type 0 where
  pub alike : Alike h g
  pub arrivals : arrivals_of g.parts ≡ arrivals_of h.parts
  pub few : length (arrivals_of h.parts) ≤ 188 * n
  pub left : payload_left rate g.parts ≡ payload_left rate h.parts

-- Some bytes arrive and do not pass on, then further bytes arrive and pass on.
record Come (rate : ℕ) (g g' : Held) (ts us : List ℕ) : Type 0 where
  alike : Alike g g'
  arrivals : arrivals_of g'.parts ≡ arrivals_of g.parts ++ (ts ++ us)
  left : payload_left rate g'.parts ≡ payload_left rate g.parts ++ departures rate (last_left rate 0 (arrivals_of g.parts ++ ts)) us

come_of : (rate : ℕ) (g c g' : Held) (ts us : List ℕ) → Ahead rate g c ts → Row rate c g' us → Come rate g g' ts us
come_of rate g c g' ts us a r =
    let both = arrives_trans g c g' ts us a.come r.come in
    record {
      alike = both.alike;
      arrivals = both.arrivals;
      left = r.left ∙ ap₂ (λ (l m : List ℕ). l ++ departures rate (last_left rate 0 m) us) a.left a.come.arrivals;
    }

both_alike : (h g h' g' : Held) → Alike h g → Alike h h' → Alike g g' → Alike h' g'
both_alike h g h' g' a p q = record { rate = q.rate ∙ a.rate ∙ sym p.rate; rx = q.rx ∙ a.rx ∙ sym p.rx; size = q.size ∙ a.size ∙ sym p.size }

both_come : (rate n m : ℕ) (h g h' g' : Held) (ts us : List ℕ) → Together rate n h g → Come rate h h' ts us → Come rate g g' ts us →
    length (arrivals_of h'.parts) ≤ 188 * m → Together rate m h' g'
both_come rate n m h g h' g' ts us t p q few = record {
  alike = both_alike h g h' g' t.alike p.alike q.alike;
  arrivals = q.arrivals ∙ ap (λ (l : List ℕ). l ++ (ts ++ us)) t.arrivals ∙ sym p.arrivals;
  few = few;
  left = q.left ∙ ap₂ (λ (l m : List ℕ). l ++ departures rate (last_left rate 0 (m ++ ts)) us) t.left t.arrivals ∙ sym p.left;
}

both_ahead : (rate n m : ℕ) (h g h' g' : Held) (ts : List ℕ) → Together rate n h g → Ahead rate h h' ts → Ahead rate g g' ts →
    length (arrivals_of h'.parts) ≤ 188 * m → Together rate m h' g'
both_ahead rate n m h g h' g' ts t p q few = record {
  alike = both_alike h g h' g' t.alike p.come.alike q.come.alike;
  arrivals = q.come.arrivals ∙ ap (λ (l : List ℕ). l ++ ts) t.arrivals ∙ sym p.come.arrivals;
  few = few;
  left = q.left ∙ t.left ∙ sym p.left;
}

-- A packet whose payload passes on to the main buffer

-- The payload bytes before the first frame that begins pass on.
first_row : (rate rx : ℕ) (g : Held) (p : Arriving) (size count : ℕ) → g.rx ≡ rx → p.enters ≡ true →
    Row rate (after_unit g (AtRate rate) p size 0) (with_first g (AtRate rate) p size 0 count) (bytes_from rx (188 * p.index + (188 - size)) count)
first_row rate rx g p size count e enters =
    let c : Held = after_unit g (AtRate rate) p size 0 in
    let i : ℕ = 188 * p.index + (188 - size) in
    subst (λ (w : Bool). Row rate c (after_bytes c (AtRate rate) w i count) (bytes_from rx i count)) (sym enters)
    (bytes_row rate rx c i count ((unit_ahead rate rx g p size e).come.alike.rx ∙ e))

first_is : (g : Held) (rate : ℕ) (p : Arriving) (count : ℕ) → takes_in g (AtRate rate) p ≡ true →
    after_first g (AtRate rate) p count ≡ with_first g (AtRate rate) p (size_of p) 0 count
unfolding after_first
first_is g rate p count takes = rw (takes, no_lead rate p) refl

packet_is : (g : Held) (rate : ℕ) (p : Arriving) → takes_in g (AtRate rate) p ≡ true → after g (AtRate rate) p ≡ with_packet g (AtRate rate) p (size_of p) 0
unfolding after
packet_is g rate p takes = rw (takes, no_lead rate p) refl

-- A payload in frames and the same payload in one part keep the buffers `Together`.
pub packet_together : (options : ViewOptions) (limit : ℕ) (y : FramedPayload) (tick : ℕ) (rate n : ℕ) (h g : Held) (p : Arriving) (count place : ℕ)
    (ps : List FramePart) →
    options.arrival ≡ AtRate rate → Together rate n h g → n ≤ p.index → p.index < most_packets → p.enters ≡ true → count ≤ size_of p →
    InTurn place (size_of p - count) ps → base_of y + place ≡ 188 * p.index + (188 - size_of p) + count →
    Together rate (suc p.index) (after h (AtRate rate) p) (frames_held options (place_of limit y tick) (after_first g (AtRate rate) p count) ps)
packet_together options limit y tick rate n h g p count place ps is t first early enters le turn there =
    let a : Arrival = AtRate rate in
    let size : ℕ = size_of p in
    let rx : ℕ = h.rx in
    let b : ℕ = 188 * p.index + (188 - size) in
    let h_takes : takes_in h a p ≡ true = taken_in h rate p early (omega (arith, t.few, first)) in
    let g_few : length (arrivals_of g.parts) ≡ length (arrivals_of h.parts) = ap (λ (l : List ℕ). length l) t.arrivals in
    let g_takes : takes_in g a p ≡ true = taken_in g rate p early (omega (arith, g_few, t.few, first)) in
    let ts : List ℕ = ahead_times rx p.index size in
    let ahead_h = unit_ahead rate rx h p size refl in
    let ahead_g = unit_ahead rate rx g p size t.alike.rx in
    let g1 : Held = with_first g a p size 0 count in
    let g' : Held = frames_held options (place_of limit y tick) g1 ps in
    let row1 : List ℕ = bytes_from rx b count in
    let row2 : List ℕ = bytes_from rx (b + count) (size - count) in
    let front : Row rate (after_unit g a p size 0) g1 row1 = first_row rate rx g p size count t.alike.rx enters in
    let g1_rx : g1.rx ≡ rx = front.come.alike.rx ∙ ahead_g.come.alike.rx ∙ t.alike.rx in
    let few_ts : length ts ≤ 188 - size =
    omega (
      arith,
      length-append (bytes_from rx (188 * p.index) 0) (bytes_from rx (188 * p.index + 0) (188 - size - 0) ++ []),
      length-append (bytes_from rx (188 * p.index + 0) (188 - size - 0)) [],
      length-row rx (188 * p.index) 0,
      length-row rx (188 * p.index + 0) (188 - size - 0),
    ) in
    let many1 : length (arrivals_of g1.parts) ≤ length (arrivals_of g.parts) + (188 - size) + count =
    omega (
      arith,
      few_ts,
      ap (λ (l : List ℕ). length l) front.come.arrivals,
      length-append (arrivals_of (after_unit g a p size 0).parts) row1,
      length-row rx b count,
      ap (λ (l : List ℕ). length l) ahead_g.come.arrivals,
      length-append (arrivals_of g.parts) ts,
    ) in
    let rest : Row rate g1 g' row2 =
    subst (λ (i : ℕ). Row rate g1 g' (bytes_from rx i (size - count))) there
    (frames_row options limit y tick rate rx place (size - count) g1 ps is g1_rx turn (omega (arith, there, early, le))
    (omega (arith, many1, g_few, t.few, first, early, le)) (omega (arith, le))) in
    let sizes : count + (size - count) ≡ size = omega (arith, le) in
    let rows : row1 ++ row2 ≡ bytes_from rx b size = sym (row_split rx b count (size - count)) ∙ ap (λ (m : ℕ). bytes_from rx b m) sizes in
    let whole_g : Row rate (after_unit g a p size 0) g' (bytes_from rx b size) =
    subst (λ (l : List ℕ). Row rate (after_unit g a p size 0) g' l) rows (row_trans rate (after_unit g a p size 0) g1 g' row1 row2 front rest) in
    let h' : Held = with_packet h a p size 0 in
    let whole_h : Row rate (after_unit h a p size 0) h' (bytes_from rx b size) = first_row rate rx h p size size refl enters in
    let h_is : after h a p ≡ h' = packet_is h rate p h_takes in
    let come = packet_arrives h rate p h_takes in
    let few : length (arrivals_of (after h a p).parts) ≤ 188 * suc p.index =
    omega (
      arith,
      t.few,
      first,
      ap (λ (l : List ℕ). length l) come.arrivals,
      length-append (arrivals_of h.parts) (bytes_from rx (188 * p.index) 188),
      length-row rx (188 * p.index) 188,
    ) in
    let both : Together rate (suc p.index) h' g' =
    both_come rate n (suc p.index) h g h' g' ts (bytes_from rx b size) t (come_of rate h (after_unit h a p size 0) h' ts (bytes_from rx b size) ahead_h whole_h)
    (come_of rate g (after_unit g a p size 0) g' ts (bytes_from rx b size) ahead_g whole_g)
    (subst (λ (k : Held). length (arrivals_of k.parts) ≤ 188 * suc p.index) h_is few) in
    subst (λ (k : Held). Together rate (suc p.index) k (frames_held options (place_of limit y tick) (after_first g a p count) ps)) (sym h_is)
    (subst (λ (k : Held). Together rate (suc p.index) h' (frames_held options (place_of limit y tick) k ps)) (sym (first_is g rate p count g_takes)) both)

-- If a packet repeats another, none of its bytes passes on.

passes_ahead : (rate rx : ℕ) (g : Held) (p : Arriving) (size : ℕ) → g.rx ≡ rx → p.enters ≡ false →
    Ahead rate (after_unit g (AtRate rate) p size 0) (with_packet g (AtRate rate) p size 0) (bytes_from rx (188 * p.index + (188 - size)) size)
passes_ahead rate rx g p size e enters =
    let c : Held = after_unit g (AtRate rate) p size 0 in
    let i : ℕ = 188 * p.index + (188 - size) in
    subst (λ (w : Bool). Ahead rate c (after_bytes c (AtRate rate) w i size) (bytes_from rx i size)) (sym enters)
    (passed_ahead rate rx c i size ((unit_ahead rate rx g p size e).come.alike.rx ∙ e))

pub repeat_together : (rate n : ℕ) (h g : Held) (p : Arriving) → Together rate n h g → n ≤ p.index → p.index < most_packets → p.enters ≡ false →
    Together rate (suc p.index) (after h (AtRate rate) p) (after_first g (AtRate rate) p (size_of p))
repeat_together rate n h g p t first early enters =
    let a : Arrival = AtRate rate in
    let size : ℕ = size_of p in
    let rx : ℕ = h.rx in
    let h_takes : takes_in h a p ≡ true = taken_in h rate p early (omega (arith, t.few, first)) in
    let g_few : length (arrivals_of g.parts) ≡ length (arrivals_of h.parts) = ap (λ (l : List ℕ). length l) t.arrivals in
    let g_takes : takes_in g a p ≡ true = taken_in g rate p early (omega (arith, g_few, t.few, first)) in
    let ts : List ℕ = ahead_times rx p.index size in
    let row : List ℕ = bytes_from rx (188 * p.index + (188 - size)) size in
    let h' : Held = with_packet h a p size 0 in
    let g' : Held = with_packet g a p size 0 in
    let ahead_h = unit_ahead rate rx h p size refl in
    let ahead_g = unit_ahead rate rx g p size t.alike.rx in
    let all_h : Ahead rate h h' (ts ++ row) = two rate h (after_unit h a p size 0) h' ts row ahead_h (passes_ahead rate rx h p size refl enters) in
    let all_g : Ahead rate g g' (ts ++ row) = two rate g (after_unit g a p size 0) g' ts row ahead_g (passes_ahead rate rx g p size t.alike.rx enters) in
    let h_is : after h a p ≡ h' = packet_is h rate p h_takes in
    let come = packet_arrives h rate p h_takes in
    let few : length (arrivals_of (after h a p).parts) ≤ 188 * suc p.index =
    omega (
      arith,
      t.few,
      first,
      ap (λ (l : List ℕ). length l) come.arrivals,
      length-append (arrivals_of h.parts) (bytes_from rx (188 * p.index) 188),
      length-row rx (188 * p.index) 188,
    ) in
    let both : Together rate (suc p.index) h' g' =
    both_ahead rate n (suc p.index) h g h' g' (ts ++ row) t all_h all_g (subst (λ (k : Held). length (arrivals_of k.parts) ≤ 188 * suc p.index) h_is few) in
    subst (λ (k : Held). Together rate (suc p.index) k (after_first g a p size)) (sym h_is)
    (subst (λ (k : Held). Together rate (suc p.index) h' k) (sym (first_is g rate p size g_takes)) both)
  where
    two : (rate : ℕ) (a b c : Held) (ts us : List ℕ) → Ahead rate a b ts → Ahead rate b c us → Ahead rate a c (ts ++ us)
    two rate a b c ts us p q = record { come = arrives_trans a b c ts us p.come q.come; left = q.left ∙ p.left }
