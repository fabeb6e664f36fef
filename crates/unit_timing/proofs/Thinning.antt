-- Lists with some entries left out, for example the departures of payload bytes in a list of the departures of all bytes
use Rattle.std.proofs.Common.{◌≡◌, ℕ, zero, suc, ◌+◌, ◌-◌, ◌*◌, ◌≤◌, max, Bool, true, false, cond, List, [], ◌∷◌, ◌++◌, take, drop, map, replicate, refl, ap}
use Rattle.std.proofs.Common.{◌∙◌, sym, arith}
use Rattle.std.proofs.lemmas.Bool.Decides.{nat_tests}
use Rattle.std.proofs.lemmas.List.{take_all, drop-drop}
use Rattle.clock27.specs.Departure.{departures}
use Rattle.clock27.specs.Fullness.{is_in_buffer, fullness, Stays}
use Rattle.unit_timing.specs.Schedule.{Packet}
use Rattle.unit_timing.specs.Transport.{of_payloads}
use Rattle.unit_timing.specs.VideoBuffers.{NoLater}
use Rattle.unit_timing.specs.LeakMethod.{NeverFalls}

-- The entries with `true` beside them
unfoldable pub thin : List Bool → List ℕ → List ℕ
thin [] ts = []
thin (keep ∷ keeps) [] = []
thin (true ∷ keeps) (t ∷ ts) = t ∷ thin keeps ts
thin (false ∷ keeps) (t ∷ ts) = thin keeps ts

-- ---- Payloads

-- Marks the payload bytes of each packet's 188 bytes.
unfoldable pub payload_bytes : List Packet → List Bool
payload_bytes [] = []
payload_bytes (p ∷ packets) = replicate (188 - p.size) false ++ (replicate (188 - (188 - p.size)) true ++ payload_bytes packets)

thin_none : (keeps : List Bool) → thin keeps [] ≡ []
unfolding thin
thin_none [] = refl
thin_none (true ∷ keeps) = refl
thin_none (false ∷ keeps) = refl

-- The first k entries are left out.
thin_out : (k : ℕ) (keeps : List Bool) (ts : List ℕ) → thin (replicate k false ++ keeps) ts ≡ thin keeps (drop k ts)
unfolding thin
thin_out zero keeps ts = refl
thin_out (suc k) keeps [] = sym (thin_none keeps)
thin_out (suc k) keeps (t ∷ ts) = thin_out k keeps ts

-- The first k entries are kept.
thin_in : (k : ℕ) (keeps : List Bool) (ts : List ℕ) → thin (replicate k true ++ keeps) ts ≡ take k ts ++ thin keeps (drop k ts)
unfolding thin
thin_in zero keeps ts = refl
thin_in (suc k) keeps [] = sym (thin_none keeps)
thin_in (suc k) keeps (t ∷ ts) = ap (λ l. t ∷ l) (thin_in k keeps ts)

dropped : (k n : ℕ) (ts : List ℕ) → drop k (take n ts) ≡ take (n - k) (drop k ts)
dropped zero n ts = let e : n - 0 ≡ n = omega arith in rw e refl
dropped (suc k) zero ts = let e : 0 - suc k ≡ 0 = omega arith in rw e refl
dropped (suc k) (suc n) [] = sym (take_all {A = ℕ} (suc n - suc k) [] (omega arith))
dropped (suc k) (suc n) (t ∷ ts) = let e : suc n - suc k ≡ n - k = omega arith in rw e (dropped k n ts)

pub payloads_thin : (packets : List Packet) (ds : List ℕ) → of_payloads packets ds ≡ thin (payload_bytes packets) ds
unfolding of_payloads payload_bytes thin
payloads_thin [] ds = refl
payloads_thin (p ∷ packets) ds =
    let k = 188 - p.size in
    let all : (188 - p.size) + (188 - (188 - p.size)) ≡ 188 = omega arith in
    rw (
      thin_out k (replicate (188 - k) true ++ payload_bytes packets) ds,
      thin_in (188 - k) (payload_bytes packets) (drop k ds),
      drop-drop (188 - k) k ds,
      all,
      dropped k 188 ds,
      payloads_thin packets (drop 188 ds),
    ) refl

-- ---- Lists that are thinned in the same places

thin_map : (f : ℕ → ℕ) (keeps : List Bool) (ts : List ℕ) → thin keeps (map f ts) ≡ map f (thin keeps ts)
unfolding thin
thin_map f [] ts = refl
thin_map f (keep ∷ keeps) [] = rw (thin_none (keep ∷ keeps)) refl
thin_map f (true ∷ keeps) (t ∷ ts) = ap (λ l. f t ∷ l) (thin_map f keeps ts)
thin_map f (false ∷ keeps) (t ∷ ts) = thin_map f keeps ts

pub payloads_map : (f : ℕ → ℕ) (packets : List Packet) (ds : List ℕ) → of_payloads packets (map f ds) ≡ map f (of_payloads packets ds)
payloads_map f packets ds =
    payloads_thin packets (map f ds) ∙ thin_map f (payload_bytes packets) ds ∙ ap (map f) (sym (payloads_thin packets ds))

-- Fewer bytes leave a queue no later.
thin_departures : (step early prev : ℕ) (keeps : List Bool) (ts : List ℕ) → early ≤ prev →
    NoLater (departures step early (thin keeps ts)) (thin keeps (departures step prev ts))
unfolding thin departures NoLater
thin_departures step early prev [] ts le = tt
thin_departures step early prev (true ∷ keeps) [] le = tt
thin_departures step early prev (false ∷ keeps) [] le = tt
thin_departures step early prev (true ∷ keeps) (t ∷ ts) le =
    let first : max t early + step ≤ max t prev + step = omega (arith, le) in
    (first, thin_departures step (max t early + step) (max t prev + step) keeps ts first)
thin_departures step early prev (false ∷ keeps) (t ∷ ts) le =
    thin_departures step early (max t prev + step) keeps ts (omega (arith, le))

pub payload_departures : (step : ℕ) (packets : List Packet) (ts : List ℕ) →
    NoLater (departures step 0 (of_payloads packets ts)) (of_payloads packets (departures step 0 ts))
payload_departures step packets ts =
    rw (payloads_thin packets ts, payloads_thin packets (departures step 0 ts)) (thin_departures step 0 0 (payload_bytes packets) ts (omega arith))

-- A queue of fewer bytes is no fuller.
one_sooner : (x t d e : ℕ) → d ≤ e → (let n : ℕ = cond (is_in_buffer x t d) 1 0 in n) ≤ (let n : ℕ = cond (is_in_buffer x t e) 1 0 in n)
one_sooner x t d e le = grind (arith, nat_tests)

thin_fullness : (x step early prev : ℕ) (keeps : List Bool) (ts : List ℕ) → early ≤ prev →
    fullness x (thin keeps ts) (departures step early (thin keeps ts)) ≤ fullness x ts (departures step prev ts)
unfolding thin departures fullness
thin_fullness x step early prev [] ts le = omega arith
thin_fullness x step early prev (true ∷ keeps) [] le = omega arith
thin_fullness x step early prev (false ∷ keeps) [] le = omega arith
thin_fullness x step early prev (true ∷ keeps) (t ∷ ts) le =
    let first : max t early + step ≤ max t prev + step = omega (arith, le) in
    omega (arith, one_sooner x t (max t early + step) (max t prev + step) first, thin_fullness x step (max t early + step) (max t prev + step) keeps ts first)
thin_fullness x step early prev (false ∷ keeps) (t ∷ ts) le =
    let rest = thin_fullness x step early (max t prev + step) keeps ts (omega (arith, le)) in
    omega (arith, rest)

pub payload_fullness : (x step : ℕ) (packets : List Packet) (ts : List ℕ) →
    fullness x (of_payloads packets ts) (departures step 0 (of_payloads packets ts)) ≤ fullness x ts (departures step 0 ts)
payload_fullness x step packets ts =
    rw (payloads_thin packets ts) (thin_fullness x step 0 0 (payload_bytes packets) ts (omega arith))

-- Bytes that leave a slower queue, all or some of them, never wait for one another in a faster queue.
thin_stays : (first second prev last : ℕ) (keeps : List Bool) (ts : List ℕ) → second ≤ first → last ≤ prev + first →
    Stays (1 * second) (thin keeps (departures first prev ts)) (departures second last (thin keeps (departures first prev ts)))
unfolding thin departures Stays
thin_stays first second prev last [] ts faster le = tt
thin_stays first second prev last (true ∷ keeps) [] faster le = tt
thin_stays first second prev last (false ∷ keeps) [] faster le = tt
thin_stays first second prev last (true ∷ keeps) (t ∷ ts) faster le =
    let free : max (max t prev + first) last ≡ max t prev + first = omega (arith, le) in
    let here : max (max t prev + first) last + second ≤ max t prev + first + 1 * second = omega (arith, free) in
    let next : max (max t prev + first) last + second ≤ max t prev + first + first = omega (arith, free, faster) in
    (here, thin_stays first second (max t prev + first) (max (max t prev + first) last + second) keeps ts faster next)
thin_stays first second prev last (false ∷ keeps) (t ∷ ts) faster le =
    thin_stays first second (max t prev + first) last keeps ts faster (omega (arith, le))

pub payload_stays : (first second : ℕ) (packets : List Packet) (ts : List ℕ) → second ≤ first →
    Stays (1 * second) (of_payloads packets (departures first 0 ts)) (departures second 0 (of_payloads packets (departures first 0 ts)))
payload_stays first second packets ts faster =
    rw (payloads_thin packets (departures first 0 ts)) (thin_stays first second 0 0 (payload_bytes packets) ts faster (omega arith))

-- Departures never fall, even if some are left out.
pub falls_from : (low from : ℕ) (ts : List ℕ) → low ≤ from → NeverFalls from ts → NeverFalls low ts
unfolding NeverFalls
falls_from low from [] le falls = tt
falls_from low from (t ∷ ts) le falls = (omega (arith, le, falls.0), falls.1)

thin_rises : (step prev low : ℕ) (keeps : List Bool) (ts : List ℕ) → low ≤ prev → NeverFalls low (thin keeps (departures step prev ts))
unfolding thin departures NeverFalls
thin_rises step prev low [] ts le = tt
thin_rises step prev low (true ∷ keeps) [] le = tt
thin_rises step prev low (false ∷ keeps) [] le = tt
thin_rises step prev low (true ∷ keeps) (t ∷ ts) le =
    (omega (arith, le), thin_rises step (max t prev + step) (max t prev + step) keeps ts (omega arith))
thin_rises step prev low (false ∷ keeps) (t ∷ ts) le = thin_rises step (max t prev + step) low keeps ts (omega (arith, le))

pub payload_rises : (step : ℕ) (packets : List Packet) (ts : List ℕ) → NeverFalls 0 (of_payloads packets (departures step 0 ts))
payload_rises step packets ts = rw (payloads_thin packets (departures step 0 ts)) (thin_rises step 0 0 (payload_bytes packets) ts (omega arith))
