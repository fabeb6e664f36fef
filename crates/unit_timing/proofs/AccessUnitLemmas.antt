-- PES packets of several access units
use Rattle.std.proofs.Common.{◌≡◌, ℕ, zero, suc, ◌+◌, ◌-◌, ◌*◌, ◌<◌, ◌≤◌, min, Bool, cond, nat_lt, List, [], ◌∷◌, length, take, drop, ap, ◌∙◌, sym, subst}
use Rattle.std.proofs.Common.{inl, inr, arith, All}
use Rattle.std.specs.List.{sum}
use Rattle.std.proofs.Math.Nat.{le_trans, mul-le-mul_right}
use Rattle.std.proofs.lemmas.Bool.Decides.{nat_tests}
use Rattle.std.proofs.lemmas.Bool.{cases_lt, cond-true, lt-ltb}
use Rattle.std.proofs.lemmas.List.{take-append-drop, length-take, drop_all}
use Rattle.std.proofs.lemmas.List.Elements.{All-head, All-tail}
use Rattle.std.proofs.lemmas.List.Sums.{sum_by-cons}
use Rattle.own_slots.specs.Slots.{AtMostPerWindow, own_slots}
use Rattle.own_slots.specs.Period.{own, per_period}
use Rattle.own_slots.specs.Spread.{most_within}
use Rattle.own_slots.proofs.Spread.{share_law}
use Rattle.unit_timing.specs.PesPacket.{PesPacket, Spaced}
use Rattle.unit_timing.specs.Schedule.{Packet, packets_in_slots}
use Rattle.unit_timing.specs.Transport.{NoneLeavesEarly}
use Rattle.unit_timing.specs.MainBuffer.{is_in_main_buffer, mb_fullness}
use Rattle.unit_timing.specs.Plans.{Declaration, KeepsDeclaration, run_packets}
use Rattle.unit_timing.specs.Conditions.{share_of, waiting_slots, bytes_waiting, bytes_across}
use Rattle.unit_timing.specs.PlanLaws.{in_turn}
use Rattle.unit_timing.specs.declared.framing.Framing.{Framing}
use Rattle.unit_timing.specs.declared.framing.FrameDeclaration.{FrameDeclaration}
use Rattle.unit_timing.specs.AccessUnits.{FramedPacket, left_of, KeepsFraming, Followed, last_removed, access_units_held, framed_fullness}
use Rattle.unit_timing.specs.AccessUnits.{packets_of, ahead_of, led, FramedLaw, frame_declaration, FrameSizeLaw}
use Rattle.unit_timing.proofs.MainBufferBytes.{kept, kept-append, kept_le, kept_after}
use Rattle.unit_timing.proofs.MainBufferBySlots.{by_slots}
use Rattle.unit_timing.proofs.EarlierStamps.{advanced, advanced_none, advanced_slots, shorter, keeps_shorter, proper_shorter}
use Rattle.unit_timing.proofs.PlanLemmas.{some_slots, main_fits, main_switch_law}

-- ---- The access units of one packet

one_entered : (rate r x due last d : ℕ) → x * 720000 < last * rate * r →
    (let n : ℕ = cond (is_in_main_buffer rate r x due d) 1 0 in n) ≤ (let n : ℕ = cond (is_in_main_buffer rate r x last d) 1 0 in n)
one_entered rate r x due last d lt = grind (arith, nat_tests)

-- Before the stamp `last`, every byte that has entered is still there.
kept_entered : (rate r x due last : ℕ) (ds : List ℕ) → x * 720000 < last * rate * r → kept rate r x due ds ≤ kept rate r x last ds
unfolding kept
kept_entered rate r x due last [] lt = omega arith
kept_entered rate r x due last (d ∷ ds) lt =
    rw (sum_by-cons (λ d. cond (is_in_main_buffer rate r x due d) 1 0) d ds, sum_by-cons (λ d. cond (is_in_main_buffer rate r x last d) 1 0) d ds)
    (omega (arith, one_entered rate r x due last d lt, kept_entered rate r x due last ds lt))

held_entered : (rate r x apart due last : ℕ) (sizes left : List ℕ) → x * 720000 < last * rate * r →
    access_units_held rate r x apart due sizes left ≤ kept rate r x last left
unfolding access_units_held kept
held_entered rate r x apart due last [] left lt = omega arith
held_entered rate r x apart due last (size ∷ sizes) left lt =
    let first = kept_entered rate r x due last (take size left) lt in
    let rest = held_entered rate r x apart (due + apart) last sizes (drop size left) lt in
    let both : kept rate r x last left ≡ kept rate r x last (take size left) + kept rate r x last (drop size left) =
    ap (kept rate r x last) (sym (take-append-drop size left)) ∙ kept-append rate r x last (take size left) (drop size left) in
    omega (arith, first, rest, both)

-- Access units hold at most their bytes.
held_all : (rate r x apart due : ℕ) (sizes left : List ℕ) → access_units_held rate r x apart due sizes left ≤ sum sizes
unfolding access_units_held kept
held_all rate r x apart due [] left = omega arith
held_all rate r x apart due (size ∷ sizes) left =
    let one = kept_le rate r x due (take size left) in
    let rest = held_all rate r x apart (due + apart) sizes (drop size left) in
    let all : sum (size ∷ sizes) ≡ size + sum sizes = sum_by-cons (λ (n : ℕ). n) size sizes in
    rw all (omega (arith, one, length-take size left, rest))

-- Of the access units of a packet j are left, at most `most`: none, or the moment lies before the first of them.
record Removed (rate r x apart due : ℕ) (sizes : List ℕ) (most held : ℕ) : Type 0 where
  j : ℕ
  within : j ≤ most
  others : held ≤ sum (drop (length sizes - j) sizes)
  before : 0 < j → x * 720000 < (due + (length sizes - j) * apart) * rate * r

-- If the first access unit has been removed, only others are left.
first_removed : (rate r x apart due size : ℕ) (sizes left : List ℕ) → due * rate * r ≤ x * 720000 →
    Removed rate r x apart (due + apart) sizes (length sizes) (access_units_held rate r x apart (due + apart) sizes (drop size left)) →
    Removed rate r x apart due (size ∷ sizes) (length sizes) (access_units_held rate r x apart due (size ∷ sizes) left)
unfolding access_units_held kept
first_removed rate r x apart due size sizes left gone rest =
    let none = kept_after rate r x due (take size left) gone in
    let e : length (size ∷ sizes) - rest.j ≡ suc (length sizes - rest.j) = omega (arith, rest.within) in
    let t : due + suc (length sizes - rest.j) * apart ≡ due + apart + (length sizes - rest.j) * apart = omega arith in
    record {
      j = rest.j;
      within = rest.within;
      others = rw e (omega (arith, none, rest.others));
      before = λ some. rw (e, t) (rest.before some);
    }

removed_some : (rate r x apart due : ℕ) (sizes left : List ℕ) →
    Removed rate r x apart due sizes (length sizes) (access_units_held rate r x apart due sizes left)
unfolding access_units_held kept
removed_some rate r x apart due [] left =
    record { j = 0; within = omega arith; others = omega arith; before = λ some. absurd (omega (arith, some)) }
removed_some rate r x apart due (size ∷ sizes) left = elim (cases_lt (x * 720000) (due * rate * r)) [
  | inl before ↦
      let z : length (size ∷ sizes) - length (size ∷ sizes) ≡ 0 = omega arith in
      let e : due + 0 * apart ≡ due = omega arith in
      record {
        j = length (size ∷ sizes);
        within = omega arith;
        others = rw z (held_all rate r x apart due (size ∷ sizes) left);
        before = λ some. rw (z, e) before;
      }
  | inr gone ↦
      let others = first_removed rate r x apart due size sizes left gone (removed_some rate r x apart (due + apart) sizes (drop size left)) in
      record { j = others.j; within = omega (arith, others.within); others = others.others; before = others.before }
]

-- The first access unit of a packet that is due has been removed, whatever its size.
removed_due : (rate r x apart due : ℕ) (sizes left : List ℕ) → due * rate * r ≤ x * 720000 →
    Removed rate r x apart due sizes (length sizes - 1) (access_units_held rate r x apart due sizes left)
unfolding access_units_held kept
removed_due rate r x apart due [] left gone =
    record { j = 0; within = omega arith; others = omega arith; before = λ some. absurd (omega (arith, some)) }
removed_due rate r x apart due (size ∷ sizes) left gone =
    let others = first_removed rate r x apart due size sizes left gone (removed_some rate r x apart (due + apart) sizes (drop size left)) in
    record { j = others.j; within = omega (arith, others.within); others = others.others; before = others.before }

none_left : (held j : ℕ) (sizes : List ℕ) → held ≤ sum (drop (length sizes - j) sizes) → j ≤ 0 → held ≤ 0
none_left held j sizes le none =
    let e : length sizes - j ≡ length sizes = omega (arith, none) in
    let le' : held ≤ sum (drop (length sizes) sizes) = rw e at le in
    rw (drop_all {X = ℕ} (length sizes) sizes (omega arith)) at le'

-- ---- All packets

mb_rest : (rate r x : ℕ) (u : PesPacket) (units : List PesPacket) (left : List ℕ) →
    mb_fullness rate r x units (drop u.size left) ≤ mb_fullness rate r x (u ∷ units) left
unfolding mb_fullness kept
mb_rest rate r x u units left = omega arith

-- If no packet is due yet by stamps that are `less` earlier, every byte that has entered is still there.
none_due : (rate r x apart interval from less : ℕ) (packets : List FramedPacket) (left : List ℕ) → Spaced interval from (packets_of packets) →
    x * 720000 < (from - less) * rate * r → framed_fullness rate r x apart packets left ≤ mb_fullness rate r x (advanced less (packets_of packets)) left
unfolding framed_fullness mb_fullness kept Spaced
none_due rate r x apart interval from less [] left spaced lt = omega arith
none_due rate r x apart interval from less (p ∷ packets) left spaced lt =
    let dts = p.packet.dts in
    let near : from - less ≤ p.packet.dts - less = omega (arith, spaced.0) in
    let next : from - less ≤ p.packet.dts + interval - less = omega (arith, spaced.0) in
    let here : x * 720000 < (p.packet.dts - less) * rate * r = omega (arith, lt, mul-le-mul_right (rate * r) near) in
    let later : x * 720000 < (p.packet.dts + interval - less) * rate * r = omega (arith, lt, mul-le-mul_right (rate * r) next) in
    let one = held_entered rate r x apart dts (dts - less) p.access_units (take p.packet.size left) here in
    let rest = none_due rate r x apart interval (dts + interval) less packets (drop p.packet.size left) spaced.1 later in
    omega (arith, one, rest)

-- Bounds on the bytes that wait while j access units of a packet are left
record Waiting (rate r x main : ℕ) (f : FrameDeclaration) (ahead : ℕ → ℕ) (packets : List FramedPacket) (left : List ℕ) : Type 0 where
  none : mb_fullness rate r x (advanced 0 (packets_of packets)) left ≤ main
  some : (j : ℕ) → 0 < j → j < f.frames → left_of f.left j + mb_fullness rate r x (advanced (ahead j) (packets_of packets)) left ≤ main

waiting_rest : (rate r x main : ℕ) (f : FrameDeclaration) (ahead : ℕ → ℕ) (p : FramedPacket) (packets : List FramedPacket) (left : List ℕ) →
    Waiting rate r x main f ahead (p ∷ packets) left → Waiting rate r x main f ahead packets (drop p.packet.size left)
waiting_rest rate r x main f ahead p packets left w = record {
  none = le_trans (mb_rest rate r x (record { dts = p.packet.dts - 0; size = p.packet.size; front = p.packet.front }) (advanced 0 (packets_of packets)) left)
      w.none;
  some = λ j pos lt.
      let rest = mb_rest rate r x (record { dts = p.packet.dts - ahead j; size = p.packet.size; front = p.packet.front })
      (advanced (ahead j) (packets_of packets)) left in
      omega (arith, rest, w.some j pos lt);
}

times_sum : (a b c : ℕ) → (a + b) * c ≡ a * c + b * c
times_sum a b c = omega arith

-- Before the first of the j access units that are left is removed, the next packet is due in more than `ahead`.
still_before : (x dts next n j apart rest ahead rate r : ℕ) → 0 < j → j < n → x * 720000 < (dts + (n - j) * apart) * rate * r →
    dts + (n - 1) * apart + rest ≤ next → ahead ≤ rest + (j - 1) * apart → x * 720000 < (next - ahead) * rate * r
still_before x dts next n j apart rest ahead rate r some few lt far near =
    let e : n - 1 ≡ n - j + (j - 1) = omega (arith, some, few) in
    let far' : dts + (n - j + (j - 1)) * apart + rest ≤ next = rw e at far in
    let later : dts + (n - j) * apart ≤ next - ahead = omega (arith, far', times_sum (n - j) (j - 1) apart, near) in
    omega (arith, lt, mul-le-mul_right (rate * r) later)

both : (a b c d : ℕ) → a ≤ c → b ≤ d → a + b ≤ c + d
both a b c d le le' = omega (arith, le, le')

-- The bytes of a due packet of which j access units are left, and of the packets after it
some_due : (rate r x interval main held : ℕ) (f : FrameDeclaration) (ahead : ℕ → ℕ) (j : ℕ) → 0 < j → ahead j ≤ f.rest + (j - 1) * f.frame →
    (p : FramedPacket) (packets : List FramedPacket) (left : List ℕ) → j < length p.access_units → j < f.frames → held ≤ left_of f.left j →
    x * 720000 < (p.packet.dts + (length p.access_units - j) * f.frame) * rate * r → Followed f (last_removed f p + f.rest) packets →
    Spaced interval (p.packet.dts + interval) (packets_of packets) → Waiting rate r x main f ahead (p ∷ packets) left →
    held + framed_fullness rate r x f.frame packets (drop p.packet.size left) ≤ main
unfolding framed_fullness Followed Spaced
some_due rate r x interval main held f ahead j pos near p [] left lt few small before follows spaced w = omega (arith, small, w.some j pos few)
some_due rate r x interval main held f ahead j pos near p (q ∷ packets) left lt few small before follows spaced w =
    let not_due = still_before x p.packet.dts q.packet.dts (length p.access_units) j f.frame f.rest (ahead j) rate r pos lt before follows.0 near in
    let rest = none_due rate r x f.frame interval q.packet.dts (ahead j) (q ∷ packets) (drop p.packet.size left)
    (unfold Spaced in (omega arith, spaced.1)) not_due in
    let whole = mb_rest rate r x (record { dts = p.packet.dts - ahead j; size = p.packet.size; front = p.packet.front })
    (advanced (ahead j) (packets_of (q ∷ packets))) left in
    le_trans (both held (framed_fullness rate r x f.frame (q ∷ packets) (drop p.packet.size left)) _ _ small rest)
    (omega (arith, whole, w.some j pos few))

-- The bytes of a due packet and of the packets after it; if no access unit is left, only the packets after it have bytes.
one_due : (rate r x interval main held : ℕ) (f : FrameDeclaration) (ahead : ℕ → ℕ) → ((j : ℕ) → ahead j ≤ f.rest + (j - 1) * f.frame) →
    (p : FramedPacket) (packets : List FramedPacket) (left : List ℕ) → KeepsFraming f p → Followed f (last_removed f p + f.rest) packets →
    Spaced interval (p.packet.dts + interval) (packets_of packets) → Waiting rate r x main f ahead (p ∷ packets) left →
    Removed rate r x f.frame p.packet.dts p.access_units (length p.access_units - 1) held →
    framed_fullness rate r x f.frame packets (drop p.packet.size left) ≤ main →
    held + framed_fullness rate r x f.frame packets (drop p.packet.size left) ≤ main
one_due rate r x interval main held f ahead near p packets left keeps follows spaced w gone fits = elim (cases_lt 0 gone.j) [
  | inl pos ↦
      let lt : gone.j < length p.access_units = omega (arith, pos, gone.within) in
      some_due rate r x interval main held f ahead gone.j pos (near gone.j) p packets left lt (omega (arith, lt, keeps.few))
      (le_trans gone.others (keeps.small gone.j pos lt)) (gone.before pos) follows spaced w
  | inr none ↦ omega (arith, none_left held gone.j p.access_units gone.others none, fits)
]

fits_all : (rate r x interval main : ℕ) (f : FrameDeclaration) (ahead : ℕ → ℕ) → ((j : ℕ) → ahead j ≤ f.rest + (j - 1) * f.frame) →
    (packets : List FramedPacket) (from start : ℕ) (left : List ℕ) → All (KeepsFraming f) packets → Followed f start packets →
    Spaced interval from (packets_of packets) → Waiting rate r x main f ahead packets left → framed_fullness rate r x f.frame packets left ≤ main
unfolding framed_fullness Followed Spaced
fits_all rate r x interval main f ahead near [] from start left keeps follows spaced w = omega arith
fits_all rate r x interval main f ahead near (p ∷ packets) from start left keeps follows spaced w = elim (cases_lt (x * 720000) (p.packet.dts * rate * r)) [
  | inl before ↦
      let e : p.packet.dts - 0 ≡ p.packet.dts = omega arith in
      le_trans (unfold framed_fullness in none_due rate r x f.frame interval p.packet.dts 0 (p ∷ packets) left (omega arith, spaced.1) (rw e before)) w.none
  | inr due ↦
      let taken = take p.packet.size left in
      one_due rate r x interval main (access_units_held rate r x f.frame p.packet.dts p.access_units taken) f ahead near p packets left
      (All-head (KeepsFraming f) p packets keeps) follows.1 spaced.1 w (removed_due rate r x f.frame p.packet.dts p.access_units taken due)
      (fits_all rate r x interval main f ahead near packets (p.packet.dts + interval) (last_removed f p + f.rest) (drop p.packet.size left)
      (All-tail (KeepsFraming f) p packets keeps) follows.1 spaced.1 (waiting_rest rate r x main f ahead p packets left w))
]

-- ---- One plan, and two plans in turn

framed_fits : (own : ℕ → Bool) (rate : ℕ) (s : Declaration) (f : FrameDeclaration) (packets : List FramedPacket) (n x : ℕ) (left : List ℕ) (most : ℕ → ℕ) →
    ((j : ℕ) → 0 < j → j < f.frames → left_of f.left j + cond (nat_lt (ahead_of s f j) s.lead) (most (ahead_of s f j)) 0 ≤ s.main) →
    All (KeepsFraming f) packets → Followed f 0 packets → KeepsDeclaration s (packets_of packets) → NoneLeavesEarly s.drain (run_packets own rate s (packets_of packets) n) left →
    mb_fullness rate s.drain x (packets_of packets) left ≤ s.main →
    ((less : ℕ) → less < s.lead → NoneLeavesEarly s.drain (run_packets own rate (led s less) (advanced less (packets_of packets)) n) left →
    mb_fullness rate s.drain x (advanced less (packets_of packets)) left ≤ most less) →
    framed_fullness rate s.drain x f.frame packets left ≤ s.main
framed_fits own rate s f packets n x left most fits framed follows keeps late plain fewer =
    fits_all rate s.drain x s.interval s.main f (ahead_of s f) (λ j. omega arith) packets s.lead 0 left framed follows keeps.spaced
    (record { none = rw (advanced_none (packets_of packets)) plain; some = waits })
  where
    units : List PesPacket
    units = packets_of packets

    early : (less : ℕ) → less ≤ s.lead → NoneLeavesEarly s.drain (packets_in_slots own rate (s.lead - less) 0 (advanced less units) (own_slots own 0 n)) left
    early less le = subst (λ (ps : List Packet). NoneLeavesEarly s.drain ps left)
        (sym (advanced_slots own rate s.lead less 0 units (own_slots own 0 n) le)) late

    none_own : AtMostPerWindow own 0 0
    none_own t = let e : t + 0 ≡ t = omega arith in rw e (omega arith)

    waits : (j : ℕ) → 0 < j → j < f.frames → left_of f.left j + mb_fullness rate s.drain x (advanced (ahead_of s f j) units) left ≤ s.main
    waits j pos lt =
        let a = ahead_of s f j in
        let within : ahead_of s f j ≤ s.lead = omega arith in
        let held = fits j pos lt in
        elim (cases_lt (ahead_of s f j) s.lead) [
          | inl some ↦
              let is = cond-true (nat_lt a s.lead) (most a) 0 (lt-ltb a s.lead some) in
              omega (arith, held, is, fewer a some (early a within))
          | inr over ↦
              let z : s.lead - ahead_of s f j ≡ 0 = omega (arith, over) in
              let wide : (s.lead - ahead_of s f j) * rate ≤ 0 * 135360000 = rw z (omega arith) in
              let nothing = by_slots own rate (s.lead - a) s.drain 0 0 (advanced a units) n x left wide none_own (early a within) in
              omega (arith, held, nothing)
        ]

same : (n : ℕ) → n ≤ n
same n = omega arith

pub framed_law : FramedLaw
framed_law = record {
  one_plan = λ rate s f claim marks packets n x left proper holds more framed follows keeps late.
      let own_share = share_of claim marks in
      let units = packets_of packets in
      framed_fits (own marks) rate s f packets n x left (λ less. bytes_waiting rate (led s less) own_share) more framed follows keeps late
      (main_fits rate s (own marks) (most_within (per_period marks) (length marks) claim.spread (waiting_slots rate s)) units n x left proper keeps
      (share_law marks claim.spread (waiting_slots rate s) holds.owned holds.spread_claimed (some_slots rate s proper.some_rate proper.some_lead))
      holds.main_fits late)
      (λ less lt early.
      let size = bytes_waiting rate (led s less) own_share in
      let few = shorter s less size in
      main_fits rate few (own marks) (most_within (per_period marks) (length marks) claim.spread (waiting_slots rate few)) (advanced less units) n x left
      (proper_shorter rate s less size lt proper) (keeps_shorter s less size units lt keeps)
      (share_law marks claim.spread (waiting_slots rate few) holds.owned holds.spread_claimed (some_slots rate few proper.some_rate (omega (arith, lt))))
      (same size) early);
  two_plans = λ rate s f claim first next second periods packets n x left proper one two joins more framed follows keeps late.
      let share = share_of claim first in
      let next_share = share_of next second in
      let units = packets_of packets in
      framed_fits (in_turn first periods second) rate s f packets n x left (λ less. bytes_across rate (led s less) share next_share)
      more framed follows keeps late
      (main_switch_law rate s claim first next second periods units n x left proper one.owned two.owned
      one.spread_claimed two.spread_claimed joins.main_fits keeps late)
      (λ less lt early.
      let size = bytes_across rate (led s less) share next_share in
      main_switch_law rate (shorter s less size) claim first next second periods (advanced less units) n x left (proper_shorter rate s less size lt proper)
      one.owned two.owned one.spread_claimed two.spread_claimed (same size) (keeps_shorter s less size units lt keeps) early);
}

-- ---- A declaration by the greatest access unit

sum_small : (largest : ℕ) (sizes : List ℕ) → All (λ size. size ≤ largest) sizes → sum sizes ≤ length sizes * largest
sum_small largest [] small = omega arith
sum_small largest (size ∷ sizes) small =
    let few : size ≤ largest = All-head (λ size. size ≤ largest) size sizes small in
    let rest = sum_small largest sizes (All-tail (λ size. size ≤ largest) size sizes small) in
    let all : sum (size ∷ sizes) ≡ size + sum sizes = sum_by-cons (λ (n : ℕ). n) size sizes in
    rw all (omega (arith, few, rest))

drop_small : (largest k : ℕ) (sizes : List ℕ) → All (λ size. size ≤ largest) sizes → sum (drop k sizes) ≤ (length sizes - k) * largest
drop_small largest zero sizes small =
    let e : length sizes - 0 ≡ length sizes = omega arith in
    rw e (sum_small largest sizes small)
drop_small largest (suc k) [] small = omega arith
drop_small largest (suc k) (size ∷ sizes) small =
    let e : length (size ∷ sizes) - suc k ≡ length sizes - k = omega arith in
    rw e (drop_small largest k sizes (All-tail (λ size. size ≤ largest) size sizes small))

last_small : (largest j : ℕ) (sizes : List ℕ) → All (λ size. size ≤ largest) (drop 1 sizes) → j < length sizes →
    sum (drop (length sizes - j) sizes) ≤ j * largest
last_small largest j [] small lt = absurd (omega (arith, lt))
last_small largest j (size ∷ sizes) small lt =
    let e : length (size ∷ sizes) - j ≡ suc (length sizes - j) = omega (arith, lt) in
    let z : length sizes - (length sizes - j) ≡ j = omega (arith, lt) in
    rw e (rw z at (drop_small largest (length sizes - j) sizes small))

-- A packet of at most `most` access units is over at most a packet of most access units later.
few_apart : (n most apart interval : ℕ) → n ≤ most → (most - 1) * apart ≤ interval → (n - 1) * apart + (interval - (most - 1) * apart) ≤ interval
few_apart n most apart interval le short =
    let few : n - 1 ≤ most - 1 = omega (arith, le) in
    omega (arith, short, mul-le-mul_right apart few)

followed_from : (interval from start : ℕ) (f : Framing) (packets : List FramedPacket) → (f.frames - 1) * f.frame ≤ interval → start ≤ from →
    All (KeepsFraming (frame_declaration interval f)) packets → Spaced interval from (packets_of packets) →
    Followed (frame_declaration interval f) start packets
unfolding Followed Spaced
followed_from interval from start f [] short le keeps spaced = tt
followed_from interval from start f (p ∷ packets) short le keeps spaced =
    let K = KeepsFraming (frame_declaration interval f) in
    let here = All-head K p packets keeps in
    let near = few_apart (length p.access_units) f.frames f.frame interval here.few short in (
      omega (arith, le, spaced.0),
      followed_from interval (p.packet.dts + interval) (last_removed (frame_declaration interval f) p + (interval - (f.frames - 1) * f.frame)) f packets short
          (omega (arith, near)) (All-tail K p packets keeps) spaced.1,
    )

-- When i access units of a packet of most access units have been removed, the next packet is due this much later.
same_ahead : (interval most i apart : ℕ) → (most - 1) * apart ≤ interval → i < most →
    interval - (most - 1) * apart + (most - i - 1) * apart ≡ interval - i * apart
same_ahead interval most i apart short lt =
    let e : most - 1 ≡ i + (most - i - 1) = omega (arith, lt) in
    let short' : (i + (most - i - 1)) * apart ≤ interval = rw e at short in
    rw e (omega (arith, short', times_sum i (most - i - 1) apart))

pub frame_size_law : FrameSizeLaw
frame_size_law = record {
  kept = λ interval f p few small. record { few = few; small = λ j pos lt. last_small f.frame_size j p.access_units small lt };
  followed = λ interval from f packets short keeps spaced. followed_from interval from 0 f packets short (omega arith) keeps spaced;
  ahead = λ s f i short lt. ap (λ (n : ℕ). min n s.lead) (same_ahead s.interval f.frames i f.frame short lt);
}
