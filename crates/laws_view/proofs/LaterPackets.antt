-- The last packets of a PID leave no more in a transport buffer than all packets of this PID.
use Rattle.std.proofs.Common.{◌≡◌, ◌∙◌, sym, ℕ, ◌+◌, ◌*◌, ◌≤◌, max, cond, ◌&&◌, nat_le, nat_lt, Bool, true, false, List, [], ◌∷◌, ◌++◌, length, Option, Some}
use Rattle.std.proofs.Common.{None, refl, ap, subst, inl, inr, arith}
use Rattle.std.proofs.lemmas.Bool.{cases_lt, lt-ltb, le-ltb}
use Rattle.std.proofs.lemmas.List.{append_assoc, map-append}
use Rattle.clock27.specs.Arrival.{arrivals, bytes_from}
use Rattle.clock27.specs.Departure.{departures, last_left}
use Rattle.clock27.specs.Fullness.{fullness}
use Rattle.clock27.specs.Peak.{IsPeak}
use Rattle.clock27.proofs.Departures.{departures-append, length-departures}
use Rattle.clock27.proofs.Fullness.{fullness-append}
use Rattle.ts_packet.specs.Reading.{packet_at}
use Rattle.unit_timing.specs.Schedule.{Packet}
use Rattle.unit_timing.specs.Transport.{slots_of, tb_fullness}
use Rattle.tstd.specs.PidPackets.{listed, packets_from, size_in}

-- A byte that leaves later is in the buffer for at least as long.
still_before : (x d d' : ℕ) → d ≤ d' → nat_lt x d ≡ true → nat_lt x d' ≡ true
still_before x d d' le e = elim (cases_lt x d) [
  | inl lt ↦ lt-ltb x d' (omega (arith, lt, le))
  | inr ge ↦ absurd (not_both (sym e ∙ le-ltb x d ge))
]
  where
    not_both : true ≡ false → ⊥
    not_both p = cc

there_longer : (b c c' : Bool) → (c ≡ true → c' ≡ true) → cond (b && c) 1 0 ≤ cond (b && c') 1 0
there_longer false c c' h = omega arith
there_longer true false c' h = omega arith
there_longer true true true h = omega arith
there_longer true true false h = absurd (let no : false ≡ true = h refl in (let bad : ⊥ = cc in bad))

-- If the byte before the first leaves later, no byte leaves earlier.
after_later : (x step p q : ℕ) (ts : List ℕ) → p ≤ q → fullness x ts (departures step p ts) ≤ fullness x ts (departures step q ts)
unfolding departures fullness
after_later x step p q [] le = omega arith
after_later x step p q (t ∷ ts) le =
    let later : max t p + step ≤ max t q + step = omega (arith, le) in
    let one = there_longer (nat_le t x) (nat_lt x (max t p + step)) (nat_lt x (max t q + step)) (still_before x (max t p + step) (max t q + step) later) in
    omega (arith, one, after_later x step (max t p + step) (max t q + step) ts later)

arrivals_two : (r : ℕ) (ss ts : List ℕ) → arrivals r (ss ++ ts) ≡ arrivals r ss ++ arrivals r ts
unfolding arrivals
arrivals_two r [] ts = refl
arrivals_two r (s ∷ ss) ts = ap (λ (l : List ℕ). bytes_from r (188 * s) 188 ++ l) (arrivals_two r ss ts)
    ∙ sym (append_assoc (bytes_from r (188 * s) 188) (arrivals r ss) (arrivals r ts))

pub last_slots : (rate rx x : ℕ) (ss ts : List ℕ) → tb_fullness rate rx x ts ≤ tb_fullness rate rx x (ss ++ ts)
last_slots rate rx x ss ts =
    let first : List ℕ = arrivals rx ss in
    let last : List ℕ = arrivals rx ts in
    let prev : ℕ = last_left rate 0 first in
    let later = after_later x rate 0 prev last (omega arith) in
    let both : fullness x (first ++ last) (departures rate 0 first ++ departures rate prev last) ≡ fullness x first (departures rate 0 first)
    + fullness x last (departures rate prev last) =
    fullness-append x first last (departures rate 0 first) (departures rate prev last) (sym (length-departures rate 0 first)) in
    let whole : tb_fullness rate rx x (ss ++ ts) ≡ fullness x first (departures rate 0 first) + fullness x last (departures rate prev last) =
    ap (λ (l : List ℕ). fullness x l (departures rate 0 l)) (arrivals_two rx ss ts)
    ∙ ap (λ (l : List ℕ). fullness x (first ++ last) l) (departures-append rate 0 first last) ∙ both in
    omega (arith, later, whole)

-- The packets of a PID in two parts
listed_two : (index : ℕ) (size : Option ℕ) (ps qs : List Packet) → listed index size (ps ++ qs) ≡ listed index size ps ++ qs
listed_two index None ps qs = refl
listed_two index (Some size) ps qs = refl

pub packets_two : (pid index : ℕ) (xs ys : List (List ℕ)) → packets_from pid index (xs ++ ys) ≡ packets_from pid index xs
    ++ packets_from pid (index + length xs) ys
unfolding packets_from
packets_two pid index [] ys = let e : index ≡ index + 0 = omega arith in ap (λ (i : ℕ). packets_from pid i ys) e
packets_two pid index (x ∷ xs) ys =
    let o : Option ℕ = size_in pid (packet_at x) in
    let e : index + 1 + length xs ≡ index + length (x ∷ xs) = omega arith in
    let rest = subst (λ (i : ℕ). packets_from pid (index + 1) (xs ++ ys) ≡ packets_from pid (index + 1) xs ++ packets_from pid i ys) e
    (packets_two pid (index + 1) xs ys) in
    ap (λ (l : List Packet). listed index o l) rest ∙ listed_two index o (packets_from pid (index + 1) xs) (packets_from pid (index + length (x ∷ xs)) ys)

pub slots_two : (ps qs : List Packet) → slots_of (ps ++ qs) ≡ slots_of ps ++ slots_of qs
slots_two ps qs = map-append (λ (p : Packet). p.slot) ps qs

-- If one function is never greater than another, its peak is not greater.
pub peak_le : (f g : ℕ → ℕ) (m n : ℕ) → ((x : ℕ) → f x ≤ g x) → IsPeak f m → IsPeak g n → m ≤ n
peak_le f g m n le p q = omega (arith, p.reached, le p.moment, q.never_more p.moment)
