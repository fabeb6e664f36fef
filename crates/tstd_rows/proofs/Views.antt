-- Parts of a stream one after another, and the contents of the main buffer
use Rattle.std.proofs.Common.{◌≡◌, ◌∙◌, sym, ℕ, suc, ◌+◌, ◌≤◌, ◌<◌, max, List, [], ◌∷◌, ◌++◌, length, Option, Some, None, refl, subst, ap, ap₂, arith, All}
use Rattle.std.proofs.Math.Nat.{le_trans}
use Rattle.std.proofs.lemmas.List.Elements.{All-nil, All-append, All-weaker, All-head, All-tail}
use Rattle.clock27.specs.Departure.{departures, last_left}
use Rattle.clock27.specs.Peak.{Climbs, greatest_at, most_found}
use Rattle.clock27.proofs.Departures.{last_left-append, length-departures, rising}
use Rattle.clock27.proofs.Peak.{departures_climb}
use Rattle.tstd.proofs.RisingTimes.{climbs_low, greatest_ext}
use Rattle.tstd_rows.specs.RowEntry.{entered, fullness_with}
use Rattle.tstd_rows.proofs.RowEntries.{none_entered}
use Rattle.tstd_rows.specs.Least.{least_found, least_in}
use Rattle.tstd_rows.proofs.Least.{found_shift}
use Rattle.tstd_rows.proofs.LeavingBytes.{greatest_at-append, climbs_rises}
use Rattle.tstd_rows.specs.History.{Part, arrivals_of, last_of, left_after, payload_left, main_fullness, main_peak, row_least, until_of, with_bytes, unit_of}
use Rattle.tstd_rows.specs.Viewed.{IsViewOf}
use Rattle.tstd_rows.specs.declared.viewed_buffers.StreamView.{StreamView}
use Rattle.tstd_rows.specs.declared.transport_buffer.TransportBuffer.{TransportBuffer}
use Rattle.tstd_rows.specs.declared.excess.Excess.{Excess}
use Rattle.tstd_rows.specs.declared.excess.ExcessWatch.{ExcessWatch}
use Rattle.tstd_rows.specs.declared.leaving.Leaving.{Leaving}
use Rattle.tstd_rows.specs.Buffers.{entered as buffer_entered, times_left}
use Rattle.arrival.specs.declared.row.Row.{Row}
use Rattle.arrival.specs.Rows.{times_of}
use Rattle.std.specs.Option.{ForSome}
use Rattle.std.proofs.lemmas.List.{length-append}
use Rattle.tstd_rows.proofs.Pieces.{length-row}
use Rattle.tstd_rows.specs.TransportLaws.{empty}
use Rattle.tstd_rows.specs.Excesses.{excess_after}
use Rattle.tstd_rows.proofs.Levels.{entered_law}
use Rattle.tstd_rows.proofs.ExcessBytes.{after-append}
use Rattle.tstd.specs.BufferState.{fullness_at}
use Rattle.tstd.specs.declared.main_buffer.MainBuffer.{MainBuffer}
use Rattle.tstd_rows.specs.declared.unit_seen.UnitSeen.{UnitSeen}
use Rattle.tstd_rows.specs.declared.unit_seen.DueTime.{DueTime}
use Rattle.tstd_rows.specs.History.Part.{Passes, Carries, Begins}

-- The last departure is no earlier than the departure before the first byte.
pub prev_le : (step prev : ℕ) (ts : List ℕ) → prev ≤ last_left step prev ts
unfolding last_left
prev_le step prev [] = omega arith
prev_le step prev (t ∷ ts) = omega (arith, prev_le step (max t prev + step) ts)

-- Payload bytes leave no later than the last of all bytes.
pub payload_by : (step : ℕ) (parts : List Part) → All (λ d. d ≤ last_of step parts) (payload_left step parts)
unfolding payload_left arrivals_of
payload_by step [] = All-nil (λ d. d ≤ last_of step [])
payload_by step (Passes ts ∷ before) =
    rw (last_left-append step 0 (arrivals_of before) ts)
    (All-weaker (λ d. d ≤ last_of step before) (λ d. d ≤ last_left step (last_of step before) ts)
    (λ d le. le_trans le (prev_le step (last_of step before) ts)) (payload_left step before) (payload_by step before))
payload_by step (Carries ts ∷ before) =
    rw (last_left-append step 0 (arrivals_of before) ts)
    (All-append (λ d. d ≤ last_left step (last_of step before) ts) (payload_left step before) (left_after step before ts)
    (All-weaker (λ d. d ≤ last_of step before) (λ d. d ≤ last_left step (last_of step before) ts)
    (λ d le. le_trans le (prev_le step (last_of step before) ts)) (payload_left step before) (payload_by step before))
    (rising step (last_of step before) ts))
payload_by step (Begins due ∷ before) = payload_by step before

-- At times up to `by`, bytes that enter later make no difference.
pub greatest_before : (f : ℕ → ℕ) (until by : ℕ) (ds us : List ℕ) → All (λ d. d ≤ by) ds → Climbs (suc by) us →
    greatest_at (λ x. f x + entered until x us) ds ≡ greatest_at f ds
unfolding greatest_at
greatest_before f until by [] us all climbs = refl
greatest_before f until by (d ∷ ds) us all climbs =
    let none = none_entered until d us (suc by) (omega (arith, All-head (λ d. d ≤ by) d ds all)) (climbs_rises (suc by) us climbs) in
    omega (arith, none, greatest_before f until by ds us (All-tail (λ d. d ≤ by) d ds all) climbs)

-- If two functions agree from `from` on, their greatest values at later times are equal.
greatest_from : (f g : ℕ → ℕ) (until from : ℕ) (ds us : List ℕ) → Climbs (suc from) ds → ((x : ℕ) → from ≤ x → f x ≡ g x) →
    greatest_at (λ x. f x + entered until x us) ds ≡ greatest_at (λ x. g x + entered until x us) ds
unfolding greatest_at Climbs
greatest_from f g until from [] us climbs same = refl
greatest_from f g until from (d ∷ ds) us climbs same =
    omega (
      arith,
      same d (omega (arith, climbs.0)),
      greatest_from f g until from ds us (climbs_low (suc from) (suc d) ds (omega (arith, climbs.0)) climbs.1)
          same,
    )

-- The most bytes so far, and the most at the entries of later bytes, are the most of the longer parts.
most_more : (step peak : ℕ) (held : ℕ → ℕ) (before : List Part) (ts : List ℕ) → 0 < step →
    ((x : ℕ) → last_of step before ≤ x → held x ≡ main_fullness step before x) → peak ≡ main_peak step before →
    max peak (greatest_at (λ x. held x + entered (until_of before) x (left_after step before ts)) (left_after step before ts)) ≡ main_peak step
    (Carries ts ∷ before)
unfolding main_fullness payload_left
most_more step peak held before ts pos same is =
    let ds = left_after step before ts in
    let until = until_of before in
    let left = payload_left step before in
    let f : ℕ → ℕ = main_fullness step before in
    let climbs = departures_climb step (last_of step before) ts pos in
    let ext = greatest_ext (main_fullness step (Carries ts ∷ before)) (λ x. f x + entered until x ds) (left ++ ds) (λ x. refl) in
    let both = greatest_at-append (λ x. f x + entered until x ds) left ds in
    let first = greatest_before f until (last_of step before) left ds (payload_by step before) climbs in
    let later = greatest_from held f until (last_of step before) ds ds climbs same in
    omega (arith, ext, both, first, later, is)

-- At the entries of these bytes, the most bytes of the buffer are the most bytes of the parts.
pub row_most : (step : ℕ) (held : ℕ → ℕ) (before : List Part) (ts : List ℕ) → 0 < step →
    ((x : ℕ) → last_of step before ≤ x → held x ≡ main_fullness step before x) →
    greatest_at (λ x. held x + entered (until_of before) x (left_after step before ts)) (left_after step before ts)
    ≡ greatest_at (main_fullness step (Carries ts ∷ before)) (left_after step before ts)
unfolding main_fullness
row_most step held before ts pos same =
    let ds = left_after step before ts in
    let until = until_of before in
    let f : ℕ → ℕ = main_fullness step before in
    greatest_from held f until (last_of step before) ds ds (departures_climb step (last_of step before) ts pos) same
    ∙ sym (greatest_ext (main_fullness step (Carries ts ∷ before)) (λ x. f x + entered until x ds) ds (λ x. refl))

-- The fewest bytes that these bytes find in the buffer are the fewest in the parts.
pub row_lowest : (step : ℕ) (held : ℕ → ℕ) (before : List Part) (ts : List ℕ) → 0 < step →
    ((x : ℕ) → last_of step before ≤ x → held x ≡ main_fullness step before x) →
    least_found held (until_of before) 0 None (left_after step before ts) ≡ row_least step before ts
row_lowest step held before ts pos same =
    let ds = left_after step before ts in
    let climbs = departures_climb step (last_of step before) ts pos in
    found_shift (main_fullness step before) held (until_of before) 0 0 (suc (last_of step before)) None ds (climbs_rises (suc (last_of step before)) ds climbs)
    (λ x le. omega (arith, same x (omega (arith, le))))

-- Equal states give the same number of bytes after more bytes.
held_more : (step x last last' until until' now here before : ℕ) (ts : List ℕ) → last ≡ last' → until ≡ until' → here ≡ before →
    now ≡ here + entered until x (departures step last ts) → now ≡ before + entered until' x (departures step last' ts)
held_more step x last last' until until' now here before ts at stays same is = is ∙ rw (at, stays, same) refl

watched_more : (step size last : ℕ) (under_way under_way' : Option Excess) (earlier ts : List ℕ) → last ≡ last_left step 0 earlier →
    under_way ≡ excess_after step size 0 None earlier → under_way' ≡ excess_after step size last under_way ts →
    under_way' ≡ excess_after step size 0 None (earlier ++ ts)
watched_more step size last under_way under_way' earlier ts at is is' = is' ∙ rw (at, is) (sym (after-append step size 0 None earlier ts))

-- One more part

-- Bytes enter after earlier bytes.
entered_more : (buffer buffer' : TransportBuffer) (earlier ts : List ℕ) → buffer ≡ buffer_entered (empty buffer.step) earlier →
    buffer' ≡ buffer_entered buffer ts →
    buffer' ≡ buffer_entered (empty buffer'.step) (earlier ++ ts)
entered_more buffer buffer' earlier ts is is' =
    let same : buffer'.step ≡ buffer.step = ap (λ (b : TransportBuffer). b.step) is' in
    is' ∙ ap (λ (b : TransportBuffer). buffer_entered b ts) is ∙ entered_law (empty buffer.step) earlier ts
    ∙ ap (λ (s : ℕ). buffer_entered (empty s) (earlier ++ ts)) (sym same)

last_same : (buffer : TransportBuffer) (earlier : List ℕ) → buffer ≡ buffer_entered (empty buffer.step) earlier → buffer.last ≡ last_left buffer.step 0 earlier
last_same buffer earlier is = ap (λ (b : TransportBuffer). b.last) is

pub passed : {A : Type 0} (view view' : StreamView A) (before : List Part) (ts : List ℕ) → IsViewOf view before →
    view'.transport ≡ buffer_entered view.transport ts →
    view'.watch.under_way ≡ excess_after view.transport.step view.watch.size view.transport.last view.watch.under_way ts → view'.watch.size ≡ view.watch.size →
    view'.main ≡ view.main → view'.unit ≡ view.unit → IsViewOf view' (Passes ts ∷ before)
unfolding arrivals_of payload_left main_fullness until_of unit_of
passed {A = A} view view' before ts v enters grows size main unit =
    let step : view'.transport.step ≡ view.transport.step = ap (λ (b : TransportBuffer). b.step) enters in
    let last : view.transport.last ≡ last_of view.transport.step before = last_same view.transport (arrivals_of before) v.arrived in
    let last' : view'.transport.last ≡ last_left view.transport.step view.transport.last ts = ap (λ (b : TransportBuffer). b.last) enters in
    record {
      arrived = entered_more view.transport view'.transport (arrivals_of before) ts v.arrived enters;
      watched = watched_more view.transport.step view.watch.size view.transport.last view.watch.under_way view'.watch.under_way (arrivals_of before) ts last
          v.watched grows
          ∙ ap₂ (λ (n z : ℕ). excess_after n z 0 None (arrivals_of before ++ ts)) (sym step) (sym size);
      held = λ x le. ap (λ (m : MainBuffer A). fullness_at m x) main
          ∙ v.held x (omega (arith, le, last', prev_le view.transport.step view.transport.last ts))
          ∙ ap (λ (n : ℕ). main_fullness n before x) (sym step);
      most = ap (λ (m : MainBuffer A). m.peak) main ∙ v.most ∙ ap (λ (n : ℕ). main_peak n before) (sym step);
      until = ap (λ (m : MainBuffer A). m.current.until) main ∙ v.until;
      unit = unit ∙ v.unit ∙ ap (λ (n : ℕ). unit_of n before) (sym step);
    }

pub carried : {A : Type 0} (view view' : StreamView A) (before : List Part) (ts : List ℕ) → IsViewOf view before → 0 < view.transport.step →
    view'.transport ≡ buffer_entered view.transport ts →
    view'.watch.under_way ≡ excess_after view.transport.step view.watch.size view.transport.last view.watch.under_way ts → view'.watch.size ≡ view.watch.size →
    ((x : ℕ) → All (λ d. d ≤ x) (departures view.transport.step view.transport.last ts) →
    fullness_at view'.main x ≡ fullness_with view.main (departures view.transport.step view.transport.last ts) x) →
    view'.main.current.until ≡ view.main.current.until →
    view'.main.peak ≡ max view.main.peak
    (greatest_at (fullness_with view.main (departures view.transport.step view.transport.last ts)) (departures view.transport.step view.transport.last ts))
    →
    view'.unit ≡ with_bytes view.unit (length ts) view'.transport.last → IsViewOf view' (Carries ts ∷ before)
unfolding arrivals_of payload_left main_fullness until_of unit_of
carried {A = A} view view' before ts v pos enters grows size held until most unit =
    let s : ℕ = view.transport.step in
    let step : view'.transport.step ≡ s = ap (λ (b : TransportBuffer). b.step) enters in
    let last : view.transport.last ≡ last_of s before = last_same view.transport (arrivals_of before) v.arrived in
    let last' : view'.transport.last ≡ last_left s view.transport.last ts = ap (λ (b : TransportBuffer). b.last) enters in
    let ends : view'.transport.last ≡ last_of s (Carries ts ∷ before) = last' ∙ rw last (sym (last_left-append s 0 (arrivals_of before) ts)) in
    let by = rising s view.transport.last ts in
    record {
      arrived = entered_more view.transport view'.transport (arrivals_of before) ts v.arrived enters;
      watched = watched_more s view.watch.size view.transport.last view.watch.under_way view'.watch.under_way (arrivals_of before) ts last v.watched grows
          ∙ ap₂ (λ (n z : ℕ). excess_after n z 0 None (arrivals_of before ++ ts)) (sym step) (sym size);
      held = λ x le.
          let all = All-weaker (λ d. d ≤ last_left s view.transport.last ts) (λ d. d ≤ x) (λ d h. omega (arith, h, le, last'))
          (departures s view.transport.last ts) by in
          let here = v.held x (omega (arith, le, last', prev_le s view.transport.last ts)) in
          held_more s x view.transport.last (last_of s before) view.main.current.until (until_of before) (fullness_at view'.main x) (fullness_at view.main x)
          (main_fullness s before x) ts
          last v.until here (held x all)
          ∙ ap (λ (n : ℕ). main_fullness n (Carries ts ∷ before) x) (sym step);
      most = most
          ∙ ap₂ (λ (u l : ℕ). max view.main.peak (greatest_at (λ x. fullness_at view.main x + entered u x (departures s l ts)) (departures s l ts))) v.until
          last
          ∙ most_more s view.main.peak (fullness_at view.main) before ts pos (λ x le. v.held x (omega (arith, le, last))) v.most
          ∙ ap (λ (n : ℕ). main_peak n (Carries ts ∷ before)) (sym step);
      until = until ∙ v.until;
      unit = unit ∙ ap₂ (λ (u : Option UnitSeen) (l : ℕ). with_bytes u (length ts) l) v.unit ends
          ∙ ap (λ (n : ℕ). with_bytes (unit_of n before) (length ts) (last_of n (Carries ts ∷ before))) (sym step);
    }

-- Before the first part, the state is a view of no parts.
pub nothing : {A : Type 0} (view : StreamView A) (step : ℕ) → view.transport ≡ empty step → view.watch.under_way ≡ None →
    ((x : ℕ) → fullness_at view.main x ≡ 0) →
    view.main.peak ≡ 0 → view.main.current.until ≡ 0 → view.unit ≡ None → IsViewOf view []
unfolding arrivals_of payload_left main_fullness until_of unit_of excess_after last_left greatest_at most_found
nothing view step transport none held peak until unit =
    let same : view.transport.step ≡ step = ap (λ (b : TransportBuffer). b.step) transport in
    record {
      arrived = transport ∙ ap empty (sym same);
      watched = none;
      held = λ x le. held x;
      most = peak;
      until = until;
      unit = unit;
    }

-- If a unit begins, the state is a view of the parts with this unit.
pub unit_begun : {A : Type 0} (view view' : StreamView A) (before : List Part) (due : DueTime) → IsViewOf view before →
    view'.transport ≡ view.transport → view'.watch ≡ view.watch → ((x : ℕ) → fullness_at view'.main x ≡ fullness_at view.main x) →
    view'.main.peak ≡ view.main.peak →
    view'.main.current.until ≡ due.until → view'.unit ≡ Some (record { due = due; bytes = 0; left = 0 }) → IsViewOf view' (Begins due ∷ before)
unfolding arrivals_of payload_left main_fullness until_of unit_of
unit_begun view view' before due v transport watch held peak until unit =
    let step : view'.transport.step ≡ view.transport.step = ap (λ (b : TransportBuffer). b.step) transport in
    let last : view'.transport.last ≡ view.transport.last = ap (λ (b : TransportBuffer). b.last) transport in
    record {
      arrived = transport ∙ v.arrived ∙ ap (λ (n : ℕ). buffer_entered (empty n) (arrivals_of before)) (sym step);
      watched = ap (λ (w : ExcessWatch). w.under_way) watch ∙ v.watched
          ∙ ap₂ (λ (n z : ℕ). excess_after n z 0 None (arrivals_of before)) (sym step) (sym (ap (λ (w : ExcessWatch). w.size) watch));
      held = λ x le. held x ∙ v.held x (omega (arith, le, last)) ∙ ap (λ (n : ℕ). main_fullness n before x) (sym step);
      most = peak ∙ v.most ∙ ap (λ (n : ℕ). main_peak n before) (sym step);
      until = until;
      unit = unit;
    }

-- Numbers of bytes

-- All bytes that arrive leave.
pub left_bytes : (step last : ℕ) (leaving : Leaving) (row : Row) → times_left leaving ≡ departures step last (times_of row) →
    leaving.waiting.bytes + leaving.free.bytes ≡ row.bytes
left_bytes step last leaving row is =
    let w : Row = leaving.waiting in
    let f : Row = leaving.free in
    let many : length (times_of w ++ times_of f) ≡ length (departures step last (times_of row)) = ap length is in
    omega (
      arith,
      many,
      length-append (times_of w) (times_of f),
      length-departures step last (times_of row),
      length-row w.from w.pace w.parts w.bytes,
      length-row f.from f.pace f.parts f.bytes,
      length-row row.from row.pace row.parts row.bytes,
    )

pub bytes_more : (buffer buffer' : TransportBuffer) (row : Row) → buffer' ≡ buffer_entered buffer (times_of row) → buffer'.bytes ≡ buffer.bytes + row.bytes
bytes_more buffer buffer' row is =
    ap (λ (b : TransportBuffer). b.bytes) is ∙ ap (λ (n : ℕ). buffer.bytes + n) (length-row row.from row.pace row.parts row.bytes)

pub climbing : (step last : ℕ) (leaving : Leaving) (ts : List ℕ) → 0 < step → times_left leaving ≡ departures step last ts → Climbs 0 (times_left leaving)
climbing step last leaving ts pos is = rw is (climbs_low 0 (suc last) (departures step last ts) (omega arith) (departures_climb step last ts pos))

-- The state after the bytes that leave is the state after the departures.
pub held_left : {A : Type 0} (buffer buffer' : MainBuffer A) (leaving : Leaving) (ds : List ℕ) → times_left leaving ≡ ds →
    ((x : ℕ) → All (λ t. t ≤ x) (times_left leaving) → fullness_at buffer' x ≡ fullness_with buffer (times_left leaving) x) →
    (x : ℕ) → All (λ t. t ≤ x) ds → fullness_at buffer' x ≡ fullness_with buffer ds x
held_left buffer buffer' leaving ds is there =
    subst (λ (es : List ℕ). (x : ℕ) → All (λ t. t ≤ x) es → fullness_at buffer' x ≡ fullness_with buffer es x) is there

pub most_left : {A : Type 0} (buffer : MainBuffer A) (leaving : Leaving) (ds : List ℕ) → times_left leaving ≡ ds →
    greatest_at (fullness_with buffer (times_left leaving)) (times_left leaving) ≡ greatest_at (fullness_with buffer ds) ds
most_left buffer leaving ds is = ap (λ (es : List ℕ). greatest_at (fullness_with buffer es) es) is

pub least_left : {A : Type 0} (buffer : MainBuffer A) (leaving : Leaving) (ds : List ℕ) → times_left leaving ≡ ds →
    least_in buffer None (times_left leaving) ≡ least_in buffer None ds
least_left buffer leaving ds is = ap (least_in buffer None) is

abbrev bytes_of : Option UnitSeen → ℕ
bytes_of None = 0
bytes_of (Some u) = u.bytes

pub counted_more : (unit : Option UnitSeen) (count left few many : ℕ) → ForSome unit (λ u. u.bytes ≤ few) → few + count ≤ many →
    ForSome (with_bytes unit count left) (λ u. u.bytes ≤ many)
counted_more None count left few many all le = λ u e. cc
counted_more (Some v) count left few many all le = λ u e.
    let same : v.bytes + count ≡ u.bytes = ap bytes_of e in
    omega (arith, all v refl, le, same)
