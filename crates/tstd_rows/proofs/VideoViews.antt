-- Bytes that arrive in two rows, one after another, have the same effect as in one row.
use Rattle.std.proofs.Common.{◌≡◌, ◌∙◌, sym, ℕ, ◌+◌, ◌≤◌, ◌<◌, max, List, [], ◌∷◌, ◌++◌, length, Option, Some, None, refl, ap, ap₂, arith, append_assoc, All}
use Rattle.std.proofs.lemmas.List.{append-nil, length-append}
use Rattle.clock27.specs.Departure.{departures, last_left}
use Rattle.clock27.specs.Peak.{greatest_at, most_found}
use Rattle.clock27.proofs.Departures.{departures-append, last_left-append, rising}
use Rattle.clock27.proofs.Peak.{departures_climb}
use Rattle.tstd.proofs.RisingTimes.{greatest_ext}
use Rattle.tstd.specs.BufferState.{fullness_at}
use Rattle.tstd_rows.specs.RowEntry.{entered, fullness_with}
use Rattle.tstd_rows.proofs.Pieces.{entered-append}
use Rattle.tstd_rows.proofs.LeavingBytes.{greatest_at-append}
use Rattle.arrival.specs.declared.row.Row.{Row}
use Rattle.arrival.specs.Rows.{times_in_row, times_of}
use Rattle.tstd_rows.specs.declared.transport_buffer.TransportBuffer.{TransportBuffer}
use Rattle.tstd_rows.specs.declared.excess.Excess.{Excess}
use Rattle.tstd_rows.specs.declared.leaving.Leaving.{Leaving}
use Rattle.tstd_rows.specs.Buffers.{entered as buffer_entered, times_left}
use Rattle.tstd_rows.specs.TransportLaws.{empty}
use Rattle.tstd_rows.specs.Excesses.{excess_after, excesses_ended}
use Rattle.tstd_rows.proofs.ExcessBytes.{in_two_ended}
use Rattle.tstd_rows.specs.History.{Part, arrivals_of, last_of, left_after, payload_left, main_fullness, main_peak, until_of, with_bytes, unit_of}
use Rattle.tstd_rows.specs.History.Part.{Carries}
use Rattle.tstd_rows.specs.Viewed.{IsViewOf}
use Rattle.tstd_rows.specs.declared.viewed_buffers.StreamView.{StreamView}
use Rattle.tstd_rows.specs.declared.unit_seen.UnitSeen.{UnitSeen}
use Rattle.tstd_rows.proofs.Views.{greatest_before, row_most}

arrivals_joined : (a b : List ℕ) (parts : List Part) → arrivals_of (Carries b ∷ Carries a ∷ parts) ≡ arrivals_of (Carries (a ++ b) ∷ parts)
unfolding arrivals_of
arrivals_joined a b parts = append_assoc (arrivals_of parts) a b

last_joined : (step : ℕ) (a : List ℕ) (parts : List Part) → last_of step (Carries a ∷ parts) ≡ last_left step (last_of step parts) a
unfolding arrivals_of
last_joined step a parts = last_left-append step 0 (arrivals_of parts) a

left_joined : (step : ℕ) (a b : List ℕ) (parts : List Part) → left_after step parts (a ++ b) ≡ left_after step parts a ++ left_after step (Carries a ∷ parts) b
left_joined step a b parts =
    departures-append step (last_of step parts) a b
    ∙ ap (λ (l : ℕ). departures step (last_of step parts) a ++ departures step l b) (sym (last_joined step a parts))

plus : (a b c : ℕ) → a + b + c ≡ a + (b + c)
plus a b c = omega arith

held_joined : (step : ℕ) (a b : List ℕ) (parts : List Part) (x : ℕ) →
    main_fullness step (Carries b ∷ Carries a ∷ parts) x ≡ main_fullness step (Carries (a ++ b) ∷ parts) x
unfolding main_fullness until_of
held_joined step a b parts x =
    let both = entered-append (until_of parts) x (left_after step parts a) (left_after step (Carries a ∷ parts) b) in
    let all : entered (until_of parts) x (left_after step parts (a ++ b)) ≡ entered (until_of parts) x
    (left_after step parts a ++ left_after step (Carries a ∷ parts) b) =
    ap (entered (until_of parts) x) (left_joined step a b parts) in
    plus (main_fullness step parts x) (entered (until_of parts) x (left_after step parts a))
    (entered (until_of parts) x (left_after step (Carries a ∷ parts) b))
    ∙ ap (λ (n : ℕ). main_fullness step parts x + n) (sym both ∙ sym all)

payload_joined : (step : ℕ) (a b : List ℕ) (parts : List Part) →
    payload_left step (Carries b ∷ Carries a ∷ parts) ≡ payload_left step (Carries (a ++ b) ∷ parts)
unfolding payload_left
payload_joined step a b parts =
    append_assoc (payload_left step parts) (left_after step parts a) (left_after step (Carries a ∷ parts) b)
    ∙ ap (λ (ts : List ℕ). payload_left step parts ++ ts) (sym (left_joined step a b parts))

peak_joined : (step : ℕ) (a b : List ℕ) (parts : List Part) → main_peak step (Carries b ∷ Carries a ∷ parts) ≡ main_peak step (Carries (a ++ b) ∷ parts)
peak_joined step a b parts =
    greatest_ext (main_fullness step (Carries b ∷ Carries a ∷ parts)) (main_fullness step (Carries (a ++ b) ∷ parts))
    (payload_left step (Carries b ∷ Carries a ∷ parts)) (held_joined step a b parts)
    ∙ ap (greatest_at (main_fullness step (Carries (a ++ b) ∷ parts))) (payload_joined step a b parts)

bytes_joined : (unit : Option UnitSeen) (m n k left left' last : ℕ) → k ≡ m + n → left' ≡ last →
    with_bytes (with_bytes unit m left) n left' ≡ with_bytes unit k last
bytes_joined None m n k left left' last many same = refl
bytes_joined (Some u) m n k left left' last many same =
    ap₂ (λ (b l : ℕ). Some (record { due = u.due; bytes = b; left = l })) (omega (arith, many)) same

unit_joined : (step : ℕ) (a b : List ℕ) (parts : List Part) → unit_of step (Carries b ∷ Carries a ∷ parts) ≡ unit_of step (Carries (a ++ b) ∷ parts)
unfolding unit_of
unit_joined step a b parts =
    bytes_joined (unit_of step parts) (length a) (length b) (length (a ++ b)) (last_of step (Carries a ∷ parts)) (last_of step (Carries b ∷ Carries a ∷ parts))
    (last_of step (Carries (a ++ b) ∷ parts)) (length-append a b) (ap (last_left step 0) (arrivals_joined a b parts))

-- A view of two rows is a view of both as one row.
pub joined_view : {A : Type 0} (view : StreamView A) (a b : List ℕ) (parts : List Part) → IsViewOf view (Carries b ∷ Carries a ∷ parts) →
    IsViewOf view (Carries (a ++ b) ∷ parts)
unfolding until_of
joined_view view a b parts v = record {
  arrived = v.arrived ∙ ap (λ (ts : List ℕ). buffer_entered (empty view.transport.step) ts) (arrivals_joined a b parts);
  watched = v.watched ∙ ap (λ (ts : List ℕ). excess_after view.transport.step view.watch.size 0 None ts) (arrivals_joined a b parts);
  held = λ x le. v.held x le ∙ held_joined view.transport.step a b parts x;
  most = v.most ∙ peak_joined view.transport.step a b parts;
  until = v.until;
  unit = v.unit ∙ unit_joined view.transport.step a b parts;
}

-- The most bytes that a view finds at the entries of a row are the most bytes of the parts.
pub row_found : {A : Type 0} (view : StreamView A) (parts : List Part) (ts : List ℕ) (found : ℕ) → IsViewOf view parts → 0 < view.transport.step →
    found ≡ greatest_at (fullness_with view.main (departures view.transport.step view.transport.last ts))
    (departures view.transport.step view.transport.last ts) →
    found ≡ greatest_at (main_fullness view.transport.step (Carries ts ∷ parts)) (left_after view.transport.step parts ts)
row_found view parts ts found v pos is =
    let s : ℕ = view.transport.step in
    let last : view.transport.last ≡ last_of s parts = ap (λ (b : TransportBuffer). b.last) v.arrived in
    is ∙ ap₂ (λ (u l : ℕ). greatest_at (λ x. fullness_at view.main x + entered u x (departures s l ts)) (departures s l ts)) v.until last
    ∙ row_most s (fullness_at view.main) parts ts pos (λ x le. v.held x (omega (arith, le, last)))

-- The most bytes at the entries of two rows are the most at the entries of both as one row.
pub most_joined : (step : ℕ) (a b : List ℕ) (parts : List Part) → 0 < step →
    max (greatest_at (main_fullness step (Carries a ∷ parts)) (left_after step parts a))
    (greatest_at (main_fullness step (Carries b ∷ Carries a ∷ parts)) (left_after step (Carries a ∷ parts) b))
    ≡ greatest_at (main_fullness step (Carries (a ++ b) ∷ parts)) (left_after step parts (a ++ b))
unfolding main_fullness until_of
most_joined step a b parts pos =
    let until = until_of parts in
    let first = left_after step parts a in
    let second = left_after step (Carries a ∷ parts) b in
    let f : ℕ → ℕ = main_fullness step (Carries a ∷ parts) in
    let g : ℕ → ℕ = main_fullness step (Carries b ∷ Carries a ∷ parts) in
    let h : ℕ → ℕ = main_fullness step (Carries (a ++ b) ∷ parts) in
    let by : All (λ d. d ≤ last_of step (Carries a ∷ parts)) first = rw (last_joined step a parts) (rising step (last_of step parts) a) in
    let before : greatest_at g first ≡ greatest_at f first =
    greatest_before f until (last_of step (Carries a ∷ parts)) first second by (departures_climb step (last_of step (Carries a ∷ parts)) b pos) in
    let all : greatest_at h (left_after step parts (a ++ b)) ≡ greatest_at h (first ++ second) = ap (greatest_at h) (left_joined step a b parts) in
    let both = greatest_at-append h first second in
    let one : greatest_at g first ≡ greatest_at h first = greatest_ext g h first (held_joined step a b parts) in
    let two : greatest_at g second ≡ greatest_at h second = greatest_ext g h second (held_joined step a b parts) in
    ap₂ (λ (m n : ℕ). max m n) (sym before ∙ one) two ∙ sym both ∙ sym all

most_found-append : (step prev : ℕ) (a b : List ℕ) → most_found step prev (a ++ b) ≡ max (most_found step prev a) (most_found step (last_left step prev a) b)
unfolding most_found last_left
most_found-append step prev [] b = omega arith
most_found-append step prev (t ∷ ts) b = omega (arith, most_found-append step (max t prev + step) ts b)

-- The most bytes found by two rows in turn are the most found by both as one row.
pub most_found_joined : (buffer buffer' : TransportBuffer) (a b : List ℕ) → buffer' ≡ buffer_entered buffer a →
    max (most_found buffer.step buffer.last a) (most_found buffer'.step buffer'.last b) ≡ most_found buffer.step buffer.last (a ++ b)
most_found_joined buffer buffer' a b is = rw is (sym (most_found-append buffer.step buffer.last a b))

pub ended_joined : (buffer buffer' : TransportBuffer) (size size' : ℕ) (under_way under_way' : Option Excess) (a b : List ℕ) →
    buffer' ≡ buffer_entered buffer a → size' ≡ size →
    under_way' ≡ excess_after buffer.step size buffer.last under_way a →
    excesses_ended buffer.step size buffer.last under_way a ++ excesses_ended buffer'.step size' buffer'.last under_way' b ≡ excesses_ended buffer.step size
    buffer.last under_way (a ++ b)
ended_joined buffer buffer' size size' under_way under_way' a b is same grows =
    rw (is, same) (in_two_ended buffer.step size buffer.last (last_left buffer.step buffer.last a) under_way under_way' a b (a ++ b) refl refl grows)

-- A row may have no bytes.
no_times : (row : Row) → row.bytes ≡ 0 → times_of row ≡ []
unfolding times_in_row
no_times row none = rw none refl

pub all_waited : (leaving : Leaving) → leaving.free.bytes ≡ 0 → times_of leaving.waiting ≡ times_left leaving
all_waited leaving none = sym (append-nil (times_of leaving.waiting)) ∙ ap (λ (ts : List ℕ). times_of leaving.waiting ++ ts) (sym (no_times leaving.free none))

pub none_waited : (leaving : Leaving) → leaving.waiting.bytes ≡ 0 → times_of leaving.free ≡ times_left leaving
none_waited leaving none = ap (λ (ts : List ℕ). ts ++ times_of leaving.free) (sym (no_times leaving.waiting none))
