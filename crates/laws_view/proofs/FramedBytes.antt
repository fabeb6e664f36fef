-- The bytes of a payload that enter buffers frame by frame arrive and leave the transport buffer like a payload in one part.
use Rattle.std.proofs.Common.{◌≡◌, ◌∙◌, sym, ℕ, ◌+◌, ◌-◌, ◌*◌, ◌^◌, ◌≤◌, ◌<◌, ◌&&◌, min, nat_le, true, false, List, [], ◌∷◌, ◌++◌, length, refl}
use Rattle.std.proofs.Common.{ap, ap₂, subst, arith}
use Rattle.std.proofs.lemmas.Bool.Decides.{nat_tests}
use Rattle.std.proofs.lemmas.List.{append_assoc, append-nil, length-append}
use Rattle.clock27.specs.Arrival.{bytes_from}
use Rattle.clock27.specs.Departure.{departures, last_left}
use Rattle.clock27.proofs.Departures.{departures-append, last_left-append}
use Rattle.tstd.proofs.ByteRows.{length-row, row_split}
use Rattle.sound_frames.specs.declared.frame_walk.FramePart.{FramePart}
use Rattle.arrival.specs.declared.arrival.Arrival.{Arrival}
use Rattle.arrival.specs.declared.arrival.Arrival.TheVariants.{AtRate}
use Rattle.arrival.specs.Arrivals.{has_times, times_at}
use Rattle.tstd_rows.specs.History.{arrivals_of, last_of, left_after, payload_left}
use Rattle.tstd_rows.specs.declared.arriving.Arriving.{Arriving}
use Rattle.tstd_rows.specs.declared.arriving.UnitPart.{UnitPart}
use Rattle.tstd_rows.specs.declared.unit_seen.DueTime.{DueTime}
use Rattle.tstd_rows.specs.Held.{Held, begun}
use Rattle.tstd_rows.specs.Entering.{after_bytes, after_header, after_lead, after_part, after_unit, takes_part}
use Rattle.es_events.specs.declared.view_options.ViewOptions.{ViewOptions}
use Rattle.es_view.specs.EntryFrames.{FramedPayload, frames_held, header_size, part_of, place_of}
use Rattle.laws_view.proofs.EnteredBytes.{Arrives, arrives_trans, begin_arrives, bytes_arrive, no_times, payload_arrives}
use Rattle.laws_view.proofs.FrameRows.{InTurn}
use Rattle.laws_view.proofs.VideoBytes.{begin_left, carried_left, passed_left}

-- Bytes arrive at these times, and all of them pass on to the main buffer.
pub record Row (rate : ℕ) (g g' : Held) (times : List ℕ) : Type 0 where
  pub come : Arrives g g' times
  pub left : payload_left rate g'.parts ≡ payload_left rate g.parts ++ left_after rate g.parts times

pub last_come : (rate : ℕ) (g g' : Held) (times : List ℕ) → Arrives g g' times → last_of rate g'.parts ≡ last_left rate (last_of rate g.parts) times
last_come rate g g' times a = ap (λ (l : List ℕ). last_left rate 0 l) a.arrivals ∙ last_left-append rate 0 (arrivals_of g.parts) times

pub row_trans : (rate : ℕ) (a b c : Held) (ts us : List ℕ) → Row rate a b ts → Row rate b c us → Row rate a c (ts ++ us)
row_trans rate a b c ts us p q =
    let prev : ℕ = last_of rate a.parts in
    record {
      come = arrives_trans a b c ts us p.come q.come;
      left = q.left ∙ ap₂ (λ (l : List ℕ) (n : ℕ). l ++ departures rate n us) p.left (last_come rate a b ts p.come)
          ∙ append_assoc (payload_left rate a.parts) (departures rate prev ts) (departures rate (last_left rate prev ts) us)
          ∙ ap (λ (l : List ℕ). payload_left rate a.parts ++ l) (sym (departures-append rate prev ts us));
    }

no_row : (rate : ℕ) (g : Held) → Row rate g g []
unfolding departures
no_row rate g = record {
  come = record { alike = record { rate = refl; rx = refl; size = refl }; arrivals = sym (append-nil (arrivals_of g.parts)) };
  left = sym (append-nil (payload_left rate g.parts));
}

-- The n bytes of the stream from byte i on pass on to the main buffer.
pub bytes_row : (rate rx : ℕ) (g : Held) (i n : ℕ) → g.rx ≡ rx → Row rate g (after_bytes g (AtRate rate) true i n) (bytes_from rx i n)
unfolding times_at
bytes_row rate rx g i n e =
    subst (λ (r : ℕ). Row rate g (after_bytes g (AtRate rate) true i n) (bytes_from r i n)) e
    (record {
      come = payload_arrives g true n (bytes_from g.rx i n) (length-row g.rx i n);
      left = carried_left g n (bytes_from g.rx i n) rate (length-row g.rx i n);
    })

-- Bytes arrive at these times, and none of them passes on to the main buffer.
pub record Ahead (rate : ℕ) (g c : Held) (times : List ℕ) : Type 0 where
  pub come : Arrives g c times
  pub left : payload_left rate c.parts ≡ payload_left rate g.parts

pub passed_ahead : (rate rx : ℕ) (g : Held) (i n : ℕ) → g.rx ≡ rx → Ahead rate g (after_bytes g (AtRate rate) false i n) (bytes_from rx i n)
unfolding times_at
passed_ahead rate rx g i n e =
    record { come = bytes_arrive g rate rx false i n e; left = passed_left g n (bytes_from g.rx i n) rate }

ahead_trans : (rate : ℕ) (a b c : Held) (ts us : List ℕ) → Ahead rate a b ts → Ahead rate b c us → Ahead rate a c (ts ++ us)
ahead_trans rate a b c ts us p q = record { come = arrives_trans a b c ts us p.come q.come; left = q.left ∙ p.left }

-- The times of the bytes before a payload of this size
abbrev pub ahead_times : ℕ → ℕ → ℕ → List ℕ
ahead_times rx index size = bytes_from rx (188 * index) 0 ++ (bytes_from rx (188 * index + 0) (188 - size - 0) ++ [])

pub unit_ahead : (rate rx : ℕ) (g : Held) (p : Arriving) (size : ℕ) → g.rx ≡ rx →
    Ahead rate g (after_unit g (AtRate rate) p size 0) (ahead_times rx p.index size)
unit_ahead rate rx g p size e =
    let a : Held = after_lead g (AtRate rate) p 0 in
    let b : Held = after_header g (AtRate rate) p size 0 in
    let c : Held = after_unit g (AtRate rate) p size 0 in
    let one : Ahead rate g a (bytes_from rx (188 * p.index) 0) = passed_ahead rate rx g (188 * p.index) 0 e in
    let two : Ahead rate a b (bytes_from rx (188 * p.index + 0) (188 - size - 0)) =
    passed_ahead rate rx a (188 * p.index + 0) (188 - size - 0) (one.come.alike.rx ∙ e) in
    let three : Ahead rate b c [] = record { come = begin_arrives b p.begins; left = begin_left b p.begins rate } in
    ahead_trans rate g a c _ _ one (ahead_trans rate a b c _ _ two three)

-- One frame

begun_row : (rate : ℕ) (g g' : Held) (due : DueTime) (times : List ℕ) → Row rate (begun g due) g' times → Row rate g g' times
unfolding arrivals_of payload_left
begun_row rate g g' due times r = record {
  come = record { alike = record { rate = r.come.alike.rate; rx = r.come.alike.rx; size = r.come.alike.size }; arrivals = r.come.arrivals };
  left = r.left;
}

frame_taken : (rate : ℕ) (g : Held) (p : UnitPart) → p.byte + p.size ≤ 2 ^ 40 - 188 → length (arrivals_of g.parts) ≤ 2 ^ 40 - 188 → p.size ≤ 188 →
    takes_part g (AtRate rate) p ≡ true
unfolding has_times
frame_taken rate g p near few small =
    by_tests p.byte (2 ^ 40 - 188) (0 + length (arrivals_of g.parts)) (2 ^ 40 - 188) p.size 188 (p.byte + p.size) (2 ^ 40) (omega (arith, near))
    (omega (arith, few)) small
    (omega (arith, near))
  where
    by_tests : (a b c d e f m n : ℕ) → a ≤ b → c ≤ d → e ≤ f → m ≤ n → (nat_le a b && nat_le c d && (nat_le e f && nat_le m n)) ≡ true
    by_tests a b c d e f m n p q r s = grind (arith, nat_tests)

pub frame_row : (rate rx : ℕ) (g : Held) (p : UnitPart) → g.rx ≡ rx → p.byte + p.size ≤ 2 ^ 40 - 188 → length (arrivals_of g.parts) ≤ 2 ^ 40 - 188 →
    p.size ≤ 188 →
    Row rate g (after_part g (AtRate rate) p) (bytes_from rx p.byte p.size)
unfolding after_part
frame_row rate rx g p e near few small =
    let one : Row rate (begun g p.due) (after_bytes (begun g p.due) (AtRate rate) true p.byte p.size) (bytes_from rx p.byte p.size) =
    bytes_row rate rx (begun g p.due) p.byte p.size e in
    rw (frame_taken rate g p near few small)
    (begun_row rate g (after_bytes (begun g p.due) (AtRate rate) true p.byte p.size) p.due (bytes_from rx p.byte p.size) one)

-- Consecutive frames

-- The first byte of a payload where a frame may begin
abbrev pub base_of : FramedPayload → ℕ
base_of y = min (y.base + header_size y) (2 ^ 64 - 1)

low_place : (base place : ℕ) → base + place < 2 ^ 64 - 1 → min (base + place) (2 ^ 64 - 1) ≡ base + place
low_place base place low = omega (arith, low)

pub frames_row : (options : ViewOptions) (limit : ℕ) (y : FramedPayload) (tick : ℕ) (rate rx place n : ℕ) (g : Held) (ps : List FramePart) →
    options.arrival ≡ AtRate rate → g.rx ≡ rx →
    InTurn place n ps → base_of y + place + n ≤ 2 ^ 40 - 188 → length (arrivals_of g.parts) + n ≤ 2 ^ 40 - 188 → n ≤ 188 →
    Row rate g (frames_held options (place_of limit y tick) g ps) (bytes_from rx (base_of y + place) n)
unfolding InTurn frames_held
frames_row options limit y tick rate rx place n g [] is e turn near few small =
    let none : bytes_from rx (base_of y + place) n ≡ [] = no_times (bytes_from rx (base_of y + place) n) (length-row rx (base_of y + place) n ∙ turn) in
    subst (λ (l : List ℕ). Row rate g g l) (sym none) (no_row rate g)
frames_row options limit y tick rate rx place n g (p ∷ ps) is e turn near few small =
    let u : UnitPart = part_of options (place_of limit y tick) g p in
    let g' : Held = after_part g options.arrival u in
    let low : u.byte ≡ base_of y + place =
    ap (λ (m : ℕ). min (base_of y + m) (2 ^ 64 - 1)) turn.0 ∙ low_place (base_of y) place (omega (arith, near)) in
    let one : Row rate g (after_part g (AtRate rate) u) (bytes_from rx u.byte u.size) =
    frame_row rate rx g u e (omega (arith, low, turn.1, near)) (omega (arith, few)) (omega (arith, turn.1, small)) in
    let first : Row rate g g' (bytes_from rx (base_of y + place) p.size) =
    subst (λ (a : Arrival). Row rate g (after_part g a u) (bytes_from rx (base_of y + place) p.size)) (sym is)
    (subst (λ (m : ℕ). Row rate g (after_part g (AtRate rate) u) (bytes_from rx m p.size)) low one) in
    let many : length (arrivals_of g'.parts) ≡ length (arrivals_of g.parts) + p.size =
    ap (λ (l : List ℕ). length l) first.come.arrivals ∙ length-append (arrivals_of g.parts) (bytes_from rx (base_of y + place) p.size)
    ∙ ap (λ (m : ℕ). length (arrivals_of g.parts) + m) (length-row rx (base_of y + place) p.size) in
    let next : base_of y + (place + p.size) ≡ base_of y + place + p.size = omega arith in
    let rest : Row rate g' (frames_held options (place_of limit y tick) g' ps) (bytes_from rx (base_of y + place + p.size) (n - p.size)) =
    subst (λ (m : ℕ). Row rate g' (frames_held options (place_of limit y tick) g' ps) (bytes_from rx m (n - p.size))) next
    (frames_row options limit y tick rate rx (place + p.size) (n - p.size) g' ps is (first.come.alike.rx ∙ e) turn.2 (omega (arith, near, turn.1))
    (omega (arith, many, few, turn.1))
    (omega (arith, small))) in
    let sizes : p.size + (n - p.size) ≡ n = omega (arith, turn.1) in
    let row : bytes_from rx (base_of y + place) p.size ++ bytes_from rx (base_of y + place + p.size) (n - p.size) ≡ bytes_from rx (base_of y + place) n =
    sym (row_split rx (base_of y + place) p.size (n - p.size)) ∙ ap (λ (m : ℕ). bytes_from rx (base_of y + place) m) sizes in
    subst (λ (l : List ℕ). Row rate g (frames_held options (place_of limit y tick) g' ps) l) row
    (row_trans rate g g' (frames_held options (place_of limit y tick) g' ps) (bytes_from rx (base_of y + place) p.size)
    (bytes_from rx (base_of y + place + p.size) (n - p.size)) first
    rest)

pub no_frames_held : (options : ViewOptions) (limit : ℕ) (y : FramedPayload) (tick : ℕ) (g : Held) → frames_held options (place_of limit y tick) g [] ≡ g
unfolding frames_held
no_frames_held options limit y tick g = refl
