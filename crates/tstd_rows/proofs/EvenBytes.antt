-- Bytes at an even pace that pass a buffer, where each finds room
use Rattle.std.proofs.Common.{◌≡◌, ◌∙◌, sym, ℕ, zero, suc, ◌+◌, ◌-◌, ◌*◌, ◌/◌, ◌<◌, ◌≤◌, max, false, List, [], ◌++◌, None, refl, ap, arith}
use Rattle.std.specs.Option.{option_to_list}
use Rattle.std.proofs.Math.Nat.{div-one, add-mul-div_right, div-lt_iff_lt-mul}
use Rattle.std.proofs.lemmas.List.{append-nil}
use Rattle.clock27.specs.Departure.{departures, last_left}
use Rattle.tstd.specs.declared.queue.Queue.{Queue}
use Rattle.tstd.specs.Queues.{all_arrived, bytes_within, greatest_residence}
use Rattle.tstd.proofs.QueueStates.{passed-step, passed-last, passed-longest}
use Rattle.tstd.proofs.Residence.{most_residence}
use Rattle.arrival.specs.Rows.{times_in_row}
use Rattle.tstd_rows.specs.Excesses.{AreOver, excess_after}
use Rattle.tstd_rows.proofs.EvenRows.{div_le, soon, soon_one, apart_one, fast_left, fast_last, frees_left, frees_last}
use Rattle.tstd_rows.proofs.OverBytes.{none_over}
use Rattle.tstd_rows.proofs.ExcessBytes.{room_row_after, room_row_ended}
use Rattle.tstd_rows.specs.EvenBytes.{AreEven, PassEvenly}
use Rattle.tstd_rows.specs.WatchedQueues.{all_entered, ended_by}
use Rattle.tstd_rows.specs.declared.even_bytes.EvenBytes.{EvenBytes}
use Rattle.tstd_rows.specs.declared.watched_queue.WatchedQueue.{WatchedQueue}

-- If bytes arrive no slower than they leave, the last byte stays longest.
stays_fast : (step prev from pace parts n : ℕ) → 0 < parts → pace ≤ step * parts →
    greatest_residence step prev (times_in_row from pace parts (suc n)) ≡ max (from / parts) prev + suc n * step - (from + n * pace) / parts
unfolding greatest_residence times_in_row
stays_fast step prev from pace parts zero some fast =
    let e : from + 0 * pace ≡ from = omega arith in
    rw e (omega arith)
stays_fast step prev from pace parts (suc n) some fast =
    let near = soon_one from pace parts step some fast in
    let all = soon from pace parts step (suc n) some fast in
    let m : max ((from + pace) / parts) (max (from / parts) prev + step) ≡ max (from / parts) prev + step = omega (arith, near) in
    let g : from + pace + n * pace ≡ from + suc n * pace = omega arith in
    let far : (from + pace + n * pace) / parts ≡ (from + suc n * pace) / parts = rw g refl in
    let rest = stays_fast step (max (from / parts) prev + step) (from + pace) pace parts n some fast in
    let same : max ((from + pace) / parts) (max (from / parts) prev + step) + suc n * step - (from + pace + n * pace) / parts
    ≡ max (from / parts) prev + suc (suc n) * step - (from + suc n * pace) / parts = rw far (omega (arith, m)) in
    larger (max (from / parts) prev + step - from / parts)
    (greatest_residence step (max (from / parts) prev + step) (times_in_row (from + pace) pace parts (suc n)))
    (max (from / parts) prev + suc (suc n) * step - (from + suc n * pace) / parts) (rest ∙ same) (omega (arith, all))
  where
    larger : (a b c : ℕ) → b ≡ c → a ≤ c → max a b ≡ c
    larger a b c e le = omega (arith, e, le)

-- If no byte waits, each stays as long as a byte takes to leave.
stays_free : (step prev from pace parts n : ℕ) → 0 < parts → step * parts ≤ pace → prev ≤ from / parts →
    greatest_residence step prev (times_in_row from pace parts (suc n)) ≡ step
unfolding greatest_residence times_in_row
stays_free step prev from pace parts zero some slow free = omega (arith, free)
stays_free step prev from pace parts (suc n) some slow free =
    let e : max (from / parts) prev ≡ from / parts = omega (arith, free) in
    let rest = stays_free step (from / parts + step) (from + pace) pace parts n some slow (apart_one from pace parts step some slow) in
    rw e (omega (arith, rest))

-- The last of n bytes that leave a step apart from `first + step` on leaves at `first + n * step`.
last_even : (first step n : ℕ) → 0 < n → first + n * step ≡ (first + step + (n - 1) * step) / 1
last_even first step zero some = absurd (omega (arith, some))
last_even first step (suc n) some =
    let k : suc n - 1 ≡ n = omega arith in
    rw (k, div-one (first + step + n * step)) (omega arith)

-- Bytes that arrive no slower than they leave, leave a step apart.
pub fast_even : (step prev : ℕ) (even : EvenBytes) (times : List ℕ) → AreEven even times → even.pace ≤ step * even.parts →
    AreEven (record { first = max even.first prev + step; last = max even.first prev + even.bytes * step; pace = step; parts = 1; bytes = even.bytes })
    (departures step prev times)
fast_even step prev even times is fast =
    let first : max even.first prev ≡ max (is.from / even.parts) prev = rw is.first refl in
    let all = fast_left step prev is.from even.pace even.parts even.bytes (max even.first prev) [] is.some is.some_parts fast first refl in
    let all' : times_in_row (max even.first prev + step) step 1 even.bytes ≡ departures step prev (times_in_row is.from even.pace even.parts even.bytes) =
    sym (append-nil (times_in_row (max even.first prev + step) step 1 even.bytes)) ∙ all in
    record {
      from = max even.first prev + step;
      some = is.some;
      some_parts = omega arith;
      row = ap (λ (ts : List ℕ). departures step prev ts) is.row ∙ sym all';
      first = sym (div-one (max even.first prev + step));
      last = last_even (max even.first prev) step even.bytes is.some;
    }

pub fast_even_last : (step prev : ℕ) (even : EvenBytes) (times : List ℕ) → AreEven even times → even.pace ≤ step * even.parts →
    last_left step prev times ≡ max even.first prev + even.bytes * step
fast_even_last step prev even times is fast =
    let first : max even.first prev ≡ max (is.from / even.parts) prev = rw is.first refl in
    ap (λ (ts : List ℕ). last_left step prev ts) is.row
    ∙ sym (fast_last step prev is.from even.pace even.parts even.bytes (max even.first prev) is.some is.some_parts fast first)

pub fast_even_longest : (step prev : ℕ) (even : EvenBytes) (times : List ℕ) → AreEven even times → even.pace ≤ step * even.parts →
    greatest_residence step prev times ≡ max even.first prev + even.bytes * step - even.last
fast_even_longest step prev even times is fast =
    ap (λ (ts : List ℕ). greatest_residence step prev ts) is.row
    ∙ row_stays even.bytes is.some
    ∙ rw (is.first, is.last) refl
  where
    row_stays : (n : ℕ) → 0 < n → greatest_residence step prev (times_in_row is.from even.pace even.parts n)
        ≡ max (is.from / even.parts) prev + n * step - (is.from + (n - 1) * even.pace) / even.parts
    row_stays zero some = absurd (omega (arith, some))
    row_stays (suc n) some =
        let k : suc n - 1 ≡ n = omega arith in
        rw k (stays_fast step prev is.from even.pace even.parts n is.some_parts fast)

-- Bytes that arrive no faster than they leave, and whose first byte does not wait, leave at the pace of their arrival.
pub free_even : (step prev : ℕ) (even : EvenBytes) (times : List ℕ) → AreEven even times → step * even.parts ≤ even.pace → prev ≤ even.first →
    AreEven (record { first = even.first + step; last = even.last + step; pace = even.pace; parts = even.parts; bytes = even.bytes })
    (departures step prev times)
free_even step prev even times is slow free =
    let free' : prev ≤ is.from / even.parts = rw is.first at free in
    let e : is.from + step * even.parts + (even.bytes - 1) * even.pace ≡ is.from + (even.bytes - 1) * even.pace + step * even.parts = omega arith in
    record {
      from = is.from + step * even.parts;
      some = is.some;
      some_parts = is.some_parts;
      row = ap (λ (ts : List ℕ). departures step prev ts) is.row ∙ row_leaves even.bytes is.some free';
      first = ap (λ (t : ℕ). t + step) is.first ∙ sym (add-mul-div_right is.from step is.some_parts);
      last = ap (λ (t : ℕ). t + step) is.last
          ∙ sym (add-mul-div_right (is.from + (even.bytes - 1) * even.pace) step is.some_parts)
          ∙ ap (λ (t : ℕ). t / even.parts) (sym e);
    }
  where
    row_leaves : (n : ℕ) → 0 < n → prev ≤ is.from / even.parts →
        departures step prev (times_in_row is.from even.pace even.parts n) ≡ times_in_row (is.from + step * even.parts) even.pace even.parts n
    row_leaves n some free' = frees_left step prev is.from even.pace even.parts n is.some_parts slow free'

pub free_even_last : (step prev : ℕ) (even : EvenBytes) (times : List ℕ) → AreEven even times → step * even.parts ≤ even.pace → prev ≤ even.first →
    last_left step prev times ≡ even.last + step
free_even_last step prev even times is slow free =
    ap (λ (ts : List ℕ). last_left step prev ts) is.row
    ∙ row_leaves even.bytes is.some (rw is.first at free)
    ∙ rw is.last refl
  where
    row_leaves : (n : ℕ) → 0 < n → prev ≤ is.from / even.parts →
        last_left step prev (times_in_row is.from even.pace even.parts n) ≡ (is.from + (n - 1) * even.pace) / even.parts + step
    row_leaves zero some free' = absurd (omega (arith, some))
    row_leaves (suc n) some free' =
        let k : suc n - 1 ≡ n = omega arith in
        rw k (frees_last step prev is.from even.pace even.parts n is.some_parts slow free')

pub free_even_longest : (step prev : ℕ) (even : EvenBytes) (times : List ℕ) → AreEven even times → step * even.parts ≤ even.pace → prev ≤ even.first →
    greatest_residence step prev times ≡ even.last + step - even.last
free_even_longest step prev even times is slow free =
    ap (λ (ts : List ℕ). greatest_residence step prev ts) is.row
    ∙ row_stays even.bytes is.some (rw is.first at free)
    ∙ omega arith
  where
    row_stays : (n : ℕ) → 0 < n → prev ≤ is.from / even.parts → greatest_residence step prev (times_in_row is.from even.pace even.parts n) ≡ step
    row_stays zero some free' = absurd (omega (arith, some))
    row_stays (suc n) some free' = stays_free step prev is.from even.pace even.parts n is.some_parts slow free'

-- The first byte of a row arrives no later than the last.
pub even_rises : (from pace parts n : ℕ) → 0 < parts → from / parts ≤ (from + n * pace) / parts
even_rises from pace parts n some = div_le from (from + n * pace) parts some (omega arith)

-- If no byte stays longer than a full buffer takes to empty, each finds room.
all_room : (step size prev : ℕ) (ts : List ℕ) → 0 < step → greatest_residence step prev ts ≤ size * step → AreOver false step size prev ts
all_room step size prev ts pos le =
    let e : (size + 1) * step ≡ size * step + step = omega arith in
    let less : greatest_residence step prev ts + (step - 1) < (size + 1) * step = omega (arith, le, e, pos) in
    let few : bytes_within step (greatest_residence step prev ts) < size + 1 = (div-lt_iff_lt-mul pos).1 less in
    none_over step size prev ts (omega (arith, few, most_residence step prev ts pos))

-- After these bytes, the longest stay is the greatest of the stays so far.
longest_passed : (q : Queue) (ts : List ℕ) → (all_arrived q ts).longest_residence ≡ max q.longest_residence (greatest_residence q.step q.last ts)
unfolding greatest_residence
longest_passed q ts =
    let all = passed-longest q ts [] in
    let none : ts ++ [] ≡ ts = append-nil ts in
    omega (arith, rw none at all)

queue_of : (q : Queue) (step last longest : ℕ) → q.step ≡ step → q.last ≡ last → q.longest_residence ≡ longest →
    record { step = step; last = last; longest_residence = longest } ≡ q
queue_of q step last longest e f g = rw (sym e, sym f, sym g) refl

some_bytes : (n : ℕ) → 0 < n → n ≡ 0 → ⊥
some_bytes n some none = omega (arith, some, none)

room_in : (b : WatchedQueue) (even left : EvenBytes) (times : List ℕ) → 0 < b.queue.step → PassEvenly b even left → AreEven even times →
    AreOver false b.queue.step b.watch.size b.queue.last times
room_in b even left times pos pass is =
    all_room b.queue.step b.watch.size b.queue.last times pos (omega (arith, pass.room, pass.longest times is))

pub even_entered : (b : WatchedQueue) (even left : EvenBytes) (times : List ℕ) → 0 < b.queue.step → PassEvenly b even left → AreEven even times →
    record {
      queue = record { step = b.queue.step; last = left.last; longest_residence = max b.queue.longest_residence (left.last - even.last) };
      watch = record { size = b.watch.size; under_way = None };
    } ≡ all_entered b times
even_entered b even left times pos pass is =
    let room = rw is.row at (room_in b even left times pos pass is) in
    let none = room_row_after b.queue.step b.watch.size b.queue.last b.watch.under_way is.from even.pace even.parts even.bytes (some_bytes even.bytes is.some)
    room in
    let queue = queue_of (all_arrived b.queue times) b.queue.step left.last (max b.queue.longest_residence (left.last - even.last))
    (passed-step b.queue times)
    (passed-last b.queue times ∙ pass.last times is)
    (longest_passed b.queue times ∙ omega (arith, pass.longest times is)) in
    let none' : excess_after b.queue.step b.watch.size b.queue.last b.watch.under_way times ≡ None = rw is.row none in
    rw (queue, none') refl

pub even_ended : (b : WatchedQueue) (even left : EvenBytes) (times : List ℕ) → 0 < b.queue.step → PassEvenly b even left → AreEven even times →
    option_to_list b.watch.under_way ≡ ended_by b times
even_ended b even left times pos pass is =
    let room = rw is.row at (room_in b even left times pos pass is) in
    rw is.row
    (sym (room_row_ended b.queue.step b.watch.size b.queue.last b.watch.under_way is.from even.pace even.parts even.bytes (some_bytes even.bytes is.some) room))
