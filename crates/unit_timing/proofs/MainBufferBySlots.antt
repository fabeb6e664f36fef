-- The main buffer counted by slots: the packets with bytes in it lie within the lead of one another
use Rattle.std.proofs.Common.{◌≡◌, ℕ, suc, ◌+◌, ◌-◌, ◌*◌, ◌<◌, ◌≤◌, min, Bool, true, false, cond, nat_le, nat_lt, ◌&&◌, List, [], ◌∷◌, ◌++◌, length, take, drop}
use Rattle.std.proofs.Common.{map, refl, ap, ◌∙◌, sym, inl, inr, arith, All}
use Rattle.std.proofs.Math.Nat.{mul-le-mul_right}
use Rattle.std.proofs.lemmas.Bool.{cases_Bool, cases_lt, le-leb, leb-true, lt-ltb, ltb-true, and_parts, and_from}
use Rattle.std.proofs.lemmas.List.{map-append, take-append-drop}
use Rattle.std.proofs.lemmas.List.Elements.{All-nil, All-head, All-tail, All-append, All-weaker, All-map}
use Rattle.clock27.specs.Release.{release}
use Rattle.own_slots.specs.Slots.{own_before, own_slots, Rises, AtMostPerWindow}
use Rattle.own_slots.proofs.Counts.{own_before_own, own_before_le}
use Rattle.unit_timing.specs.PesPacket.{PesPacket, packets_of_unit}
use Rattle.unit_timing.specs.Schedule.{Packet, first_slot, cut, packets_in_slots}
use Rattle.unit_timing.specs.Transport.{slots_of, NoneLeavesEarly}
use Rattle.unit_timing.specs.MainBuffer.{mb_fullness, BySlots}
use Rattle.unit_timing.proofs.PacketsInSlots.{slots_of-cut, rises_from, rising_run}
use Rattle.unit_timing.proofs.MainBufferBytes.{kept, kept-append, kept_le, kept_after, kept_before, unit_slots}
use Rattle.unit_timing.proofs.NotEarly.{unit_parts}

-- A packet and the stamp of its unit
record Piece : Type 0 where
  slot : ℕ
  dts : ℕ

abbrev pieces : ℕ → List ℕ → List Piece
pieces due slots = map (λ (s : ℕ). let p : Piece = record { slot = s; dts = due } in p) slots

unfoldable all_pieces : (ℕ → Bool) → ℕ → ℕ → ℕ → List PesPacket → List ℕ → List Piece
all_pieces own rate lead free [] slots = []
all_pieces own rate lead free (unit ∷ units) slots =
    pieces unit.dts (take (packets_of_unit unit) (drop (first_slot own rate lead free unit) slots))
    ++ all_pieces own rate lead (first_slot own rate lead free unit + packets_of_unit unit) units slots

-- A packet is live at x if it has begun by x, and x lies before its stamp.
abbrev is_live : ℕ → ℕ → ℕ → Piece → Bool
is_live rate r x p = nat_le (188 * p.slot * r) x && nat_lt (x * 720000) (p.dts * rate * r)

unfoldable live : ℕ → ℕ → ℕ → List Piece → ℕ
live rate r x [] = 0
live rate r x (p ∷ ps) = cond (is_live rate r x p) 1 0 + live rate r x ps

live-append : (rate r x : ℕ) (ps qs : List Piece) → live rate r x (ps ++ qs) ≡ live rate r x ps + live rate r x qs
unfolding live
live-append rate r x [] qs = omega arith
live-append rate r x (p ∷ ps) qs = omega (arith, live-append rate r x ps qs)

live_one : (rate r x : ℕ) (p : Piece) (ps : List Piece) → is_live rate r x p ≡ true → live rate r x (p ∷ ps) ≡ 1 + live rate r x ps
unfolding live
live_one rate r x p ps is = rw is refl

live_none : (rate r x : ℕ) (p : Piece) (ps : List Piece) → is_live rate r x p ≡ false → live rate r x (p ∷ ps) ≡ live rate r x ps
unfolding live
live_none rate r x p ps not = rw not (omega arith)

-- Only a live packet has bytes in the main buffer, at most 184.
kept_packet : (rate r x due s : ℕ) (left : List ℕ) → length left ≤ 184 → All (λ d. 188 * s * r ≤ d) left →
    kept rate r x due left ≤ 184 * (let n : ℕ = cond (is_live rate r x (record { slot = s; dts = due })) 1 0 in n)
kept_packet rate r x due s left few all =
    elim (cases_lt x (188 * s * r)) [
      | inl early ↦
          let none = kept_before rate r x due left (All-weaker (λ d. 188 * s * r ≤ d) (λ d. x < d) (λ d h. omega (arith, h, early)) left all) in
          omega (arith, none)
      | inr begun ↦ elim (cases_lt (x * 720000) (due * rate * r)) [
        | inr late ↦ omega (arith, kept_after rate r x due left late)
        | inl before ↦
            let is : is_live rate r x (record { slot = s; dts = due }) ≡ true =
            and_from _ _ (le-leb (188 * s * r) x begun) (lt-ltb (x * 720000) (due * rate * r) before) in
            rw is (omega (arith, kept_le rate r x due left, few))
      ]
    ]

kept_pieces : (rate r x due front size : ℕ) (slots left : List ℕ) → NoneLeavesEarly r (cut front size slots) left →
    kept rate r x due left ≤ 184 * live rate r x (pieces due slots)
unfolding cut live NoneLeavesEarly
kept_pieces rate r x due front size [] left none = rw none (omega (arith, kept_le rate r x due []))
kept_pieces rate r x due front size (s ∷ slots) left late =
    let one = take (min (184 - front) size) left in
    let rest = drop (min (184 - front) size) left in
    let parts : kept rate r x due left ≡ kept rate r x due one + kept rate r x due rest =
    ap (λ (l : List ℕ). kept rate r x due l) (sym (take-append-drop (min (184 - front) size) left)) ∙ kept-append rate r x due one rest in
    omega (
      arith,
      parts,
      kept_packet rate r x due s one (omega (arith, late.0)) late.1,
      kept_pieces rate r x due (front - 184) (size - (184 - front)) slots rest late.2,
    )

main_pieces : (own : ℕ → Bool) (rate lead r n x : ℕ) (units : List PesPacket) (free : ℕ) (left : List ℕ) →
    NoneLeavesEarly r (packets_in_slots own rate lead free units (own_slots own 0 n)) left →
    mb_fullness rate r x units left ≤ 184 * live rate r x (all_pieces own rate lead free units (own_slots own 0 n))
unfolding mb_fullness packets_in_slots all_pieces kept
main_pieces own rate lead r n x [] free left late = omega arith
main_pieces own rate lead r n x (unit ∷ units) free left late =
    let slots = own_slots own 0 n in
    let b = first_slot own rate lead free unit in
    let p = packets_of_unit unit in
    let xs = take p (drop b slots) in
    let parts = unit_parts own rate lead r n b p unit.front unit.size units left (omega arith) late in
    rw (live-append rate r x (pieces unit.dts xs) (all_pieces own rate lead (b + p) units slots))
    (omega (
      arith,
      kept_pieces rate r x unit.dts unit.front unit.size xs (take unit.size left) parts.0,
      main_pieces own rate lead r n x units (b + p) (drop unit.size left) parts.1,
    ))

-- The slots of the packets
abbrev slots_in : List Piece → List ℕ
slots_in ps = map (λ (p : Piece). p.slot) ps

slots_in-pieces : (due : ℕ) (slots : List ℕ) → slots_in (pieces due slots) ≡ slots
slots_in-pieces due [] = refl
slots_in-pieces due (s ∷ slots) = ap (λ l. s ∷ l) (slots_in-pieces due slots)

slots_in-all : (own : ℕ → Bool) (rate lead free : ℕ) (units : List PesPacket) (slots : List ℕ) →
    slots_in (all_pieces own rate lead free units slots) ≡ slots_of (packets_in_slots own rate lead free units slots)
unfolding all_pieces packets_in_slots
slots_in-all own rate lead free [] slots = refl
slots_in-all own rate lead free (unit ∷ units) slots =
    let b = first_slot own rate lead free unit in
    let p = packets_of_unit unit in
    let xs = take p (drop b slots) in
    rw (
      map-append (λ (p : Piece). p.slot) (pieces unit.dts xs) (all_pieces own rate lead (b + p) units slots),
      slots_in-pieces unit.dts xs,
      map-append (λ (p : Packet). p.slot) (cut unit.front unit.size xs) (packets_in_slots own rate lead (b + p) units slots),
      slots_of-cut unit.front unit.size xs,
      slots_in-all own rate lead (b + p) units slots,
    ) refl

-- The packet is sent no earlier than the lead before its stamp.
abbrev NotEarly : ℕ → ℕ → Piece → Type 0
NotEarly rate lead p = p.dts * rate ≤ p.slot * 135360000 + lead * rate

not_early : (rate lead due s : ℕ) → release rate lead due ≤ s → due * rate ≤ s * 135360000 + lead * rate
not_early rate lead due s le =
    let split : due ≤ (due - lead) + lead = omega arith in
    omega (arith, le, mul-le-mul_right rate split)

none_early : (own : ℕ → Bool) (rate lead n : ℕ) (units : List PesPacket) (free : ℕ) →
    All (NotEarly rate lead) (all_pieces own rate lead free units (own_slots own 0 n))
unfolding all_pieces
none_early own rate lead n [] free = All-nil (NotEarly rate lead)
none_early own rate lead n (unit ∷ units) free =
    let slots = own_slots own 0 n in
    let b = first_slot own rate lead free unit in
    let xs = take (packets_of_unit unit) (drop b slots) in
    All-append (NotEarly rate lead) (pieces unit.dts xs) (all_pieces own rate lead (b + packets_of_unit unit) units slots)
    (All-map (NotEarly rate lead) (λ (s : ℕ). let p : Piece = record { slot = s; dts = unit.dts } in p) xs
    (All-weaker (λ s. release rate lead unit.dts ≤ s) (λ s. unit.dts * rate ≤ s * 135360000 + lead * rate)
    (λ s le. not_early rate lead unit.dts s le) xs (unit_slots own rate lead free n unit)))
    (none_early own rate lead n units (b + packets_of_unit unit))

-- If the live packets lie before slot `limit`, they are no more than the own slots before `limit`.
live_before : (own : ℕ → Bool) (rate r x limit : ℕ) → ((s : ℕ) → 188 * s * r ≤ x → s < limit) → (ps : List Piece) (from : ℕ) → from ≤ limit →
    Rises own from (slots_in ps) →
    live rate r x ps + own_before own from ≤ own_before own limit
unfolding Rises
live_before own rate r x limit before [] from le rises = unfold live in (omega (arith, own_before_le own from limit le))
live_before own rate r x limit before (p ∷ ps) from le rises =
    elim (cases_Bool (is_live rate r x p)) [
      | inl is ↦
          let parts = and_parts (nat_le (188 * p.slot * r) x) (nat_lt (x * 720000) (p.dts * rate * r)) is in
          let lt = before p.slot (leb-true (188 * p.slot * r) x parts.0) in
          let rest = live_before own rate r x limit before ps (suc p.slot) (omega arith) rises.2 in
          let one = live_one rate r x p ps is in
          omega (arith, one, rest, own_before_own own p.slot rises.1, own_before_le own from p.slot rises.0)
      | inr not ↦
          let rest = live_before own rate r x limit before ps from le (rises_from own from (suc p.slot) (slots_in ps) (omega (arith, rises.0)) rises.2) in
          let none = live_none rate r x p ps not in
          omega (arith, none, rest)
    ]

-- Two live packets lie less than w slots apart.
apart_slots : (s t r x due rate lead w : ℕ) → x * 720000 < due * rate * r → due * rate ≤ s * 135360000 + lead * rate → lead * rate ≤ w * 135360000 →
    188 * t * r ≤ x → t < s + w
apart_slots s t r x due rate lead w before early wide begun = elim (cases_lt t (s + w)) [
  | inl lt ↦ lt
  | inr le ↦ absurd (omega (arith, before, mul-le-mul_right r early, mul-le-mul_right r wide, mul-le-mul_right (135360000 * r) le, begun))
]

rises_here : (own : ℕ → Bool) (from s : ℕ) (slots : List ℕ) → Rises own from (s ∷ slots) → Rises own s (s ∷ slots)
unfolding Rises
rises_here own from s slots rises = (omega arith, rises.1, rises.2)

rises_rest : (own : ℕ → Bool) (from s : ℕ) (slots : List ℕ) → Rises own from (s ∷ slots) → Rises own (suc s) slots
unfolding Rises
rises_rest own from s slots rises = rises.2

live_few : (own : ℕ → Bool) (rate lead r x w m : ℕ) → lead * rate ≤ w * 135360000 → AtMostPerWindow own w m → (ps : List Piece) (from : ℕ) →
    Rises own from (slots_in ps) →
    All (NotEarly rate lead) ps → live rate r x ps ≤ m
live_few own rate lead r x w m wide spares [] from rises early = unfold live in (omega arith)
live_few own rate lead r x w m wide spares (p ∷ ps) from rises early = elim (cases_Bool (is_live rate r x p)) [
  | inl is ↦
      let parts = and_parts (nat_le (188 * p.slot * r) x) (nat_lt (x * 720000) (p.dts * rate * r)) is in
      let stamp = ltb-true (x * 720000) (p.dts * rate * r) parts.1 in
      let near = λ (t : ℕ) (h : 188 * t * r ≤ x). apart_slots p.slot t r x p.dts rate lead w stamp (All-head (NotEarly rate lead) p ps early) wide h in
      let here : Rises own p.slot (slots_in (p ∷ ps)) = rises_here own from p.slot (slots_in ps) rises in
      let all = live_before own rate r x (p.slot + w) near (p ∷ ps) p.slot (omega arith) here in
      omega (arith, all, spares p.slot)
  | inr not ↦
      let none = live_none rate r x p ps not in
      omega (
        arith,
        none,
        live_few own rate lead r x w m wide spares ps (suc p.slot) (rises_rest own from p.slot (slots_in ps) rises)
            (All-tail (NotEarly rate lead) p ps early),
      )
]

pub by_slots : BySlots
by_slots own rate lead r w m units n x left wide spares late =
    let ps = all_pieces own rate lead 0 units (own_slots own 0 n) in
    let few = live_few own rate lead r x w m wide spares ps 0 (rw (slots_in-all own rate lead 0 units (own_slots own 0 n)) (rising_run own rate lead n units))
    (none_early own rate lead n units 0) in
    omega (arith, main_pieces own rate lead r n x units 0 left late, few)
