-- Bytes that enter a main buffer one after another.
use Rattle.std.proofs.Common.{◌≡◌, ◌∙◌, ℕ, suc, ◌+◌, ◌*◌, ◌/◌, ◌%◌, ◌≤◌, ◌<◌, max, min, cond, nat_lt, nat_le, Bool, true, false, List, [], ◌∷◌, length, take}
use Rattle.std.proofs.Common.{drop, refl, sym, inl, inr, arith, All}
use Rattle.std.proofs.lemmas.Bool.{cases_lt, le-leb, lt-leb, lt-ltb, le-ltb}
use Rattle.std.proofs.lemmas.List.Elements.{All-take, All-drop}
use Rattle.std.proofs.lemmas.List.Sums.{sum_by-cons}
use Rattle.clock27.specs.Peak.{Climbs, greatest_at}
use Rattle.unit_timing.specs.MainBuffer.{is_in_main_buffer, mb_fullness}
use Rattle.std.specs.List.{list_all}
use Rattle.unit_timing.specs.Arrived.{has_left}
use Rattle.unit_timing.specs.PesPacket.{PesPacket}
use Rattle.unit_timing.proofs.MainBufferBytes.{kept, kept_before}
use Rattle.tstd.specs.Removal.{removal_time, due_moment}
use Rattle.tstd.specs.BufferedUnits.{one_buffered}
use Rattle.tstd.specs.Entry.{peak_ahead}
use Rattle.tstd.proofs.RisingTimes.{climbs_following, greatest_same, greatest_ext}

-- A moment is before a time stamp if and only if it is before the first whole moment at or after the stamp.
pub gone_test : (x limit : ℕ) → nat_lt (x * 720000) limit ≡ nat_lt x ((limit + 719999) / 720000)
gone_test x limit = elim (cases_lt x ((limit + 719999) / 720000)) [
  | inl before ↦ lt-ltb (x * 720000) limit (omega (arith, before)) ∙ sym (lt-ltb x ((limit + 719999) / 720000) before)
  | inr after ↦ le-ltb (x * 720000) limit (omega (arith, after)) ∙ sym (le-ltb x ((limit + 719999) / 720000) after)
]

-- A byte that has entered is counted until its removal.
one_kept : (rate r due d x : ℕ) → d ≤ x → (let n : ℕ = cond (is_in_main_buffer rate r x due d) 1 0 in n) ≡ one_buffered (removal_time rate r due) x
one_kept rate r due d x le =
    rw (le-leb d x le, gone_test x (due * rate * r)) refl

held_early : (rate r x : ℕ) (pes_packets : List PesPacket) (left : List ℕ) → All (λ d. x < d) left → mb_fullness rate r x pes_packets left ≡ 0
unfolding mb_fullness kept
held_early rate r x [] left all = refl
held_early rate r x (pes_packet ∷ pes_packets) left all =
    let first = kept_before rate r x pes_packet.dts (take pes_packet.size left) (All-take (λ d. x < d) pes_packet.size left all) in
    let rest = held_early rate r x pes_packets (drop pes_packet.size left) (All-drop (λ d. x < d) pes_packet.size left all) in
    omega (arith, first, rest)

-- The first byte of a PES packet, and its other bytes.
held_byte : (rate r due m : ℕ) (pes_packets : List PesPacket) (d : ℕ) (ds : List ℕ) (x : ℕ) → d ≤ x →
    mb_fullness rate r x (record { dts = due; size = suc m; front = 0 } ∷ pes_packets) (d ∷ ds)
    ≡ one_buffered (removal_time rate r due) x + mb_fullness rate r x (record { dts = due; size = m; front = 0 } ∷ pes_packets) ds
unfolding mb_fullness
held_byte rate r due m pes_packets d ds x le =
    rw (sum_by-cons (λ e. cond (is_in_main_buffer rate r x due e) 1 0) d (take m ds)) (omega (arith, one_kept rate r due d x le))

-- One byte enters.
pub byte_entered : (rate r due m : ℕ) (pes_packets : List PesPacket) (before after : ℕ → ℕ) (d : ℕ) (ds : List ℕ) → Climbs (suc d) ds →
    ((x : ℕ) → d ≤ x → after x ≡ before x + one_buffered (removal_time rate r due) x) →
    peak_ahead before rate r (record { dts = due; size = suc m; front = 0 } ∷ pes_packets) (d ∷ ds)
    ≡ max (before d + one_buffered (removal_time rate r due) d) (peak_ahead after rate r (record { dts = due; size = m; front = 0 } ∷ pes_packets) ds)
unfolding greatest_at
byte_entered rate r due m pes_packets before after d ds climbs counted =
    let same : d ≤ d = omega arith in
    let next : d < suc d = omega arith in
    let now = held_byte rate r due m pes_packets d ds d same in
    let none = held_early rate r d (record { dts = due; size = m; front = 0 } ∷ pes_packets) ds (climbs_following d (suc d) ds next climbs) in
    let rest = greatest_same (λ x. before x + mb_fullness rate r x (record { dts = due; size = suc m; front = 0 } ∷ pes_packets) (d ∷ ds))
    (λ x. after x + mb_fullness rate r x (record { dts = due; size = m; front = 0 } ∷ pes_packets) ds) (suc d) ds climbs
    (λ x le. let low : d ≤ x = omega (arith, le) in omega (arith, held_byte rate r due m pes_packets d ds x low, counted x low)) in
    omega (arith, now, none, rest)

-- A whole PES packet has entered.
pub text_entered : (rate r due : ℕ) (pes_packets : List PesPacket) (before : ℕ → ℕ) (left : List ℕ) →
    peak_ahead before rate r (record { dts = due; size = 0; front = 0 } ∷ pes_packets) left ≡ peak_ahead before rate r pes_packets left
text_entered rate r due pes_packets before left =
    greatest_ext (λ x. before x + mb_fullness rate r x (record { dts = due; size = 0; front = 0 } ∷ pes_packets) left)
    (λ x. before x + mb_fullness rate r x pes_packets left) left
    (λ x. unfold mb_fullness in omega arith)

-- A byte enters by a time stamp if and only if it enters by the last whole moment that is not after the stamp.
pub in_time_test : (x limit : ℕ) → nat_le (x * 720000) limit ≡ nat_le x (limit / 720000)
in_time_test x limit = elim (cases_lt (limit / 720000) x) [
  | inl after ↦ lt-leb (x * 720000) limit (omega (arith, after)) ∙ sym (lt-leb x (limit / 720000) after)
  | inr by ↦ le-leb (x * 720000) limit (omega (arith, by)) ∙ sym (le-leb x (limit / 720000) by)
]

-- A unit's last byte leaves in time if and only if it leaves by the unit's last moment.
pub left_test : (rate drain due last : ℕ) → nat_le (last * 720000) (due * rate * drain) ≡ nat_le last (due_moment rate drain due)
left_test rate drain due last = in_time_test last (due * rate * drain)

-- A quotient and its remainder, scaled.
scaled : (limit q r rbx : ℕ) → limit ≡ q * 720000 + r → limit * rbx ≡ (q * rbx) * 720000 + r * rbx
scaled limit q r rbx is = rw is (omega arith)

quotients : (a b c n : ℕ) → a ≡ b * 720000 + c → (a + n) / 720000 ≡ b + (c + n) / 720000
quotients a b c n is = omega (arith, is)

quotient : (a b c : ℕ) → a ≡ b * 720000 + c → a / 720000 ≡ b + c / 720000
quotient a b c is = omega (arith, is)

by_parts : (limit rbx : ℕ) → limit * rbx ≡ (limit / 720000 * rbx) * 720000 + limit % 720000 * rbx
by_parts limit rbx = let is : limit ≡ limit / 720000 * 720000 + limit % 720000 = omega arith in scaled limit (limit / 720000) (limit % 720000) rbx is

pub last_by_parts : (rate rx rbx due : ℕ) →
    due * rate * rx / 720000 * rbx + due * rate * rx % 720000 * rbx / 720000 ≡ due_moment rate (rx * rbx) due
last_by_parts rate rx rbx due =
    let same : due * rate * (rx * rbx) ≡ due * rate * rx * rbx = omega arith in
    rw same (sym (quotient (due * rate * rx * rbx) (due * rate * rx / 720000 * rbx) (due * rate * rx % 720000 * rbx) (by_parts (due * rate * rx) rbx)))

ceiling : (x : ℕ) → x / 720000 + min 1 (x % 720000) ≡ (x + 719999) / 720000
ceiling x = omega arith

pub first_by_parts : (rate rx rbx due : ℕ) →
    due * rate * rx / 720000 * rbx + (due * rate * rx % 720000 * rbx / 720000 + min 1 (due * rate * rx % 720000 * rbx % 720000)) ≡ removal_time rate (rx * rbx)
    due
first_by_parts rate rx rbx due =
    let same : due * rate * (rx * rbx) ≡ due * rate * rx * rbx = omega arith in
    rw (same, ceiling (due * rate * rx % 720000 * rbx))
    (sym (quotients (due * rate * rx * rbx) (due * rate * rx / 720000 * rbx) (due * rate * rx % 720000 * rbx) 719999 (by_parts (due * rate * rx) rbx)))

-- Whether a unit has left in time: a unit whose bytes have all arrived, and a unit with missing bytes.
pub left_whole : (rate drain due size last moment : ℕ) (ahead : List ℕ) (in_time : Bool) → nat_le size (length ahead) ≡ true →
    list_all (λ d. nat_le (d * 720000) (due * rate * drain)) (take size ahead) ≡ nat_le (last * 720000) (due * rate * drain) →
    moment ≡ due_moment rate drain due → in_time ≡ nat_le last moment → has_left rate drain (record { dts = due; size = size; front = 0 }) ahead ≡ in_time
left_whole rate drain due size last moment ahead in_time whole all by is =
    rw (whole, all, left_test rate drain due last, is, by) refl

pub left_short : (rate drain due size : ℕ) (ahead : List ℕ) → nat_le size (length ahead) ≡ false →
    has_left rate drain (record { dts = due; size = size; front = 0 }) ahead ≡ false
left_short rate drain due size ahead short = rw short refl
