-- Bytes that enter a main buffer before any byte leaves it
use Rattle.std.proofs.Common.{◌≡◌, ◌∙◌, sym, ℕ, ◌+◌, ◌*◌, ◌≤◌, ◌<◌, max, min, List, [], ◌∷◌, ◌++◌, length, Option, Some, None, refl, ap, arith, All}
use Rattle.std.proofs.lemmas.List.{length-append, append-nil}
use Rattle.std.proofs.lemmas.List.Elements.{All-head, All-tail, All-weaker}
use Rattle.clock27.specs.Departure.{departures, last_left}
use Rattle.clock27.specs.Peak.{Climbs, greatest_at}
use Rattle.clock27.proofs.Departures.{rising}
use Rattle.arrival.specs.Rows.{times_of}
use Rattle.tstd.specs.BufferedUnits.{one_buffered}
use Rattle.tstd.specs.BufferState.{IsSound, fullness_at}
use Rattle.tstd.specs.declared.main_buffer.MainBuffer.{MainBuffer}
use Rattle.tstd_rows.specs.Buffers.{times_left}
use Rattle.tstd_rows.specs.RowEntry.{entered, fullness_with}
use Rattle.tstd_rows.specs.Least.{lesser, least_found, least_in}
use Rattle.tstd_rows.specs.declared.leaving.Leaving.{Leaving}
use Rattle.tstd_rows.specs.TransportLaws.{Rises}
use Rattle.tstd_rows.proofs.LeavingBytes.{climbs_rises}
use Rattle.tstd_rows.proofs.Least.{together_found}
use Rattle.tstd_rows.proofs.Pieces.{all_entered, all_there, entered_together, length-row}

-- The number of bytes that leave.
pub left_many : (leaving : Leaving) → length (times_left leaving) ≡ leaving.waiting.bytes + leaving.free.bytes
left_many leaving =
    let w = leaving.waiting in
    let f = leaving.free in
    omega (
      arith,
      length-append (times_of w) (times_of f),
      length-row w.from w.pace w.parts w.bytes,
      length-row f.from f.pace f.parts f.bytes,
    )

-- No byte leaves after the last one.
pub left_by : (step prev : ℕ) (leaving : Leaving) (ts : List ℕ) → times_left leaving ≡ departures step prev ts → leaving.last ≡ last_left step prev ts →
    All (λ t. t ≤ leaving.last) (times_left leaving)
left_by step prev leaving ts left last = rw (left, last) (rising step prev ts)

-- Before any unit is removed, all bytes are in the buffer.
pub holds_all : {A : Type 0} (buffer : MainBuffer A) → IsSound buffer → (limit : ℕ) → limit ≤ buffer.next → limit ≤ buffer.current.until →
    (x : ℕ) → x < limit → fullness_at buffer x ≡ buffer.fullness
holds_all buffer sound limit early stays x lt =
    all_there buffer.earlier.items buffer.current buffer.next x (omega (arith, early, lt)) (omega (arith, stays, lt)) sound.early ∙ sym sound.all

-- The last byte finds the most.
most_at_once : (before : ℕ → ℕ) (until limit now : ℕ) (ts : List ℕ) → Rises 0 ts → limit ≤ until → ((x : ℕ) → x < limit → before x ≡ now) →
    All (λ t. t < limit) ts → 0 < length ts → now + length ts ≡ greatest_at (λ x. before x + entered until x ts) ts
unfolding greatest_at
most_at_once before until limit now ts rises within same all some =
    let none : ts ++ [] ≡ ts = append-nil ts in
    let both = rw none at
    (entered_together before until limit now now ts [] 0 (rw (sym none) at rises) (omega arith) within (λ t low early. same t early) all) in
    omega (arith, both, some)

-- The first byte finds the fewest bytes.
least_at_once : (before : ℕ → ℕ) (until limit now : ℕ) (ts : List ℕ) → ((x : ℕ) → x < limit → before x ≡ now) → All (λ t. t < limit) ts → 0 < length ts →
    Some now ≡ least_found before until 0 None ts
unfolding least_found lesser
least_at_once before until limit now [] same all some = absurd (omega (arith, some))
least_at_once before until limit now (t ∷ ts) same all some =
    let here : before t + 0 * one_buffered until t ≡ now = omega (arith, same t (All-head (λ t. t < limit) t ts all)) in
    let none : ts ++ [] ≡ ts = append-nil ts in
    let rest = rw none at
    (together_found before until limit now 1 now ts [] (omega arith) same (All-tail (λ t. t < limit) t ts all)) in
    sym (ap (λ (f : ℕ). least_found before until 1 (Some f) ts) here ∙ rest)

-- Bytes that leave at such times have entered a buffer that holds them all.
pub together_there : {A : Type 0} (buffer buffer' : MainBuffer A) (leaving : Leaving) →
    ((x : ℕ) → fullness_at buffer' x ≡ fullness_at buffer x + (leaving.waiting.bytes + leaving.free.bytes) * one_buffered buffer.current.until x) →
    (x : ℕ) → All (λ t. t ≤ x) (times_left leaving) → fullness_at buffer' x ≡ fullness_with buffer (times_left leaving) x
together_there buffer buffer' leaving there x all =
    let many : length (times_left leaving) * one_buffered buffer.current.until x
    ≡ (leaving.waiting.bytes + leaving.free.bytes) * one_buffered buffer.current.until x =
    ap (λ (n : ℕ). n * one_buffered buffer.current.until x) (left_many leaving) in
    omega (arith, there x, many, all_entered buffer.current.until x (times_left leaving) all)

pub together_most : {A : Type 0} (buffer : MainBuffer A) (leaving : Leaving) → IsSound buffer → Climbs 0 (times_left leaving) →
    All (λ t. t ≤ leaving.last) (times_left leaving) → leaving.last < buffer.next → leaving.last < buffer.current.until →
    0 < leaving.waiting.bytes + leaving.free.bytes →
    buffer.fullness + (leaving.waiting.bytes + leaving.free.bytes) ≡ greatest_at (fullness_with buffer (times_left leaving)) (times_left leaving)
together_most buffer leaving sound climbs all early stays some =
    let ts : List ℕ = times_left leaving in
    let limit : ℕ = min buffer.next buffer.current.until in
    let within : All (λ t. t < limit) ts =
    All-weaker (λ t. t ≤ leaving.last) (λ t. t < limit) (λ t le. omega (arith, le, early, stays)) ts all in
    let many = left_many leaving in
    ap (λ (n : ℕ). buffer.fullness + n) (sym many)
    ∙ most_at_once (fullness_at buffer) buffer.current.until limit buffer.fullness ts (climbs_rises 0 ts climbs) (omega arith)
    (holds_all buffer sound limit (omega arith) (omega arith)) within (omega (arith, many, some))

pub together_least : {A : Type 0} (buffer : MainBuffer A) (leaving : Leaving) → IsSound buffer →
    All (λ t. t ≤ leaving.last) (times_left leaving) → leaving.last < buffer.next → leaving.last < buffer.current.until →
    0 < leaving.waiting.bytes + leaving.free.bytes → Some buffer.fullness ≡ least_in buffer None (times_left leaving)
together_least buffer leaving sound all early stays some =
    let ts : List ℕ = times_left leaving in
    let limit : ℕ = min buffer.next buffer.current.until in
    let within : All (λ t. t < limit) ts =
    All-weaker (λ t. t ≤ leaving.last) (λ t. t < limit) (λ t le. omega (arith, le, early, stays)) ts all in
    least_at_once (fullness_at buffer) buffer.current.until limit buffer.fullness ts (holds_all buffer sound limit (omega arith) (omega arith)) within
    (omega (arith, left_many leaving, some))
