-- Times that rise.
use Rattle.std.proofs.Common.{◌≡◌, ℕ, zero, suc, ◌-◌, ◌≤◌, ◌<◌, List, [], ◌∷◌, ◌++◌, take, drop, refl, sym, arith, All}
use Rattle.std.proofs.Math.Nat.{le_trans}
use Rattle.std.proofs.lemmas.List.{take-append-drop}
use Rattle.std.proofs.lemmas.List.Elements.{All-nil, All-cons}
use Rattle.clock27.specs.Arrival.{arrivals, bytes_from}
use Rattle.clock27.specs.Departure.{departures, last_left}
use Rattle.clock27.specs.Peak.{Climbs, greatest_at}
use Rattle.clock27.proofs.Peak.{departures_climb}
use Rattle.clock27.proofs.Departures.{departures-append}
use Rattle.unit_timing.specs.Schedule.{Packet}
use Rattle.unit_timing.specs.Transport.{slots_of, of_payloads, pes_left}
use Rattle.tstd.specs.DepartureWalk.{left_from, left_ahead, packets_ahead}
use Rattle.tstd.specs.declared.departures.Departures.{Departures}

pub climbs_low : (low from : ℕ) (ts : List ℕ) → low ≤ from → Climbs from ts → Climbs low ts
unfolding Climbs
climbs_low low from [] le climbs = tt
climbs_low low from (t ∷ ts) le climbs = (le_trans le climbs.0, climbs.1)

-- Rising times still rise if their end is replaced by times that rise from the same start.
climbs_put : (from : ℕ) (es ds xs : List ℕ) → Climbs from (es ++ ds) → ((low : ℕ) → Climbs low ds → Climbs low xs) → Climbs from (es ++ xs)
unfolding Climbs
climbs_put from [] ds xs climbs same = same from climbs
climbs_put from (e ∷ es) ds xs climbs same = (climbs.0, climbs_put (suc e) es ds xs climbs.1 same)

-- Rising times still rise without some of the first times.
climbs_fewer : (from k : ℕ) (es xs : List ℕ) → Climbs from (es ++ xs) → Climbs from (drop k es ++ xs)
unfolding Climbs
climbs_fewer from zero es xs climbs = climbs
climbs_fewer from (suc k) [] xs climbs = climbs
climbs_fewer from (suc k) (e ∷ es) xs climbs = climbs_low from (suc e) (drop k es ++ xs) (omega (arith, climbs.0)) (climbs_fewer (suc e) k es xs climbs.1)

pub payloads_climb : (packets : List Packet) (ds : List ℕ) (from : ℕ) → Climbs from ds → Climbs from (of_payloads packets ds)
unfolding of_payloads
payloads_climb [] ds from climbs = unfold Climbs in tt
payloads_climb (p ∷ packets) ds from climbs =
    let all : take 188 ds ++ drop 188 ds ≡ ds = take-append-drop 188 ds in
    climbs_fewer from (188 - p.size) (take 188 ds) (of_payloads packets (drop 188 ds))
    (climbs_put from (take 188 ds) (drop 188 ds) (of_payloads packets (drop 188 ds)) (rw all climbs) (payloads_climb packets (drop 188 ds)))

left_climb : (step last rx byte left : ℕ) (packets : List Packet) → 0 < step → Climbs (suc last) (left_from step last rx byte left packets)
left_climb step last rx byte left packets pos =
    let row = bytes_from rx byte left in
    let rest = arrivals rx (slots_of packets) in
    climbs_put (suc last) (departures step last row) (departures step (last_left step last row) rest)
    (of_payloads packets (departures step (last_left step last row) rest))
    (rw (sym (departures-append step last row rest)) (departures_climb step last (row ++ rest) pos))
    (payloads_climb packets (departures step (last_left step last row) rest))

-- Payload bytes leave a buffer one after another.
pub left_climbs : (step r : ℕ) (packets : List Packet) → 0 < step → Climbs 0 (pes_left step r 0 packets)
left_climbs step r packets pos =
    let low : 0 ≤ 1 = omega arith in
    let times = arrivals r (slots_of packets) in
    climbs_low 0 1 (of_payloads packets (departures step 0 times)) low (payloads_climb packets (departures step 0 times) 1 (departures_climb step 0 times pos))

-- The times that a walk gives rise.
pub ahead_climbs : (w : Departures) → 0 < w.queue.step → Climbs (suc w.queue.last) (left_ahead w)
unfolding left_ahead
ahead_climbs w pos = left_climb w.queue.step w.queue.last w.rx w.byte w.left (packets_ahead w) pos

pub climbs_following : (x from : ℕ) (ts : List ℕ) → x < from → Climbs from ts → All (λ t. x < t) ts
unfolding Climbs
climbs_following x from [] lt climbs = All-nil (λ t. x < t)
climbs_following x from (t ∷ ts) lt climbs =
    let here : x < t = omega (arith, climbs.0) in
    let next : x < suc t = omega arith in
    All-cons (λ t. x < t) t ts here (climbs_following x (suc t) ts next climbs.1)

-- The greatest value at rising times does not depend on values before their start.
pub greatest_same : (f g : ℕ → ℕ) (from : ℕ) (ds : List ℕ) → Climbs from ds → ((x : ℕ) → from ≤ x → f x ≡ g x) → greatest_at f ds ≡ greatest_at g ds
unfolding Climbs greatest_at
greatest_same f g from [] climbs same = refl
greatest_same f g from (d ∷ ds) climbs same =
    omega (arith, same d climbs.0, greatest_same f g (suc d) ds climbs.1 (λ x le. same x (omega (arith, le, climbs.0))))

pub greatest_ext : (f g : ℕ → ℕ) (ds : List ℕ) → ((x : ℕ) → f x ≡ g x) → greatest_at f ds ≡ greatest_at g ds
unfolding greatest_at
greatest_ext f g [] same = refl
greatest_ext f g (d ∷ ds) same = omega (arith, same d, greatest_ext f g ds same)

-- The next time of a walk is not before its last time.
pub head_climbs : (w : Departures) (time : ℕ) (rest : List ℕ) → 0 < w.queue.step → left_ahead w ≡ time ∷ rest → w.queue.last ≤ time
unfolding Climbs
head_climbs w time rest pos ahead =
    let climbs : Climbs (suc w.queue.last) (time ∷ rest) = rw ahead at (ahead_climbs w pos) in
    omega (arith, climbs.0)
