-- The fields that are left out, step by step.
use Rattle.std.proofs.Common.{◌≡◌, ◌≤◌, ◌<◌, ℕ, zero, suc, ◌+◌, ◌-◌, nat_lt, true, false, refl, sym, arith, ◌∙◌, List, length, None, Some}
use Rattle.packet_sync.specs.FieldsLeftOut.{fields_from, packet_at, with_next, with_packet}
use Rattle.packet_sync.specs.Slips.{slip_size}
use Rattle.packet_sync.specs.declared.left_out.FieldLeftOut.{FieldLeftOut}

pub fields_end : (n : ℕ) (bs : List ℕ) (at : ℕ) (found : List FieldLeftOut) → length bs < at + 188 → fields_from n bs at found ≡ found
unfolding fields_from
fields_end zero bs at found short = refl
fields_end (suc n) bs at found short = let e : nat_lt (length bs) (at + 188) ≡ true = search (arith, short) in rw e refl

next : (n : ℕ) (bs : List ℕ) (at : ℕ) (found : List FieldLeftOut) → at + 188 ≤ length bs →
    fields_from (suc n) bs at found ≡ with_next bs (slip_size bs at) at found (fields_from n bs)
unfolding fields_from
next n bs at found long = let e : nat_lt (length bs) (at + 188) ≡ false = search (arith, long) in rw e refl

pub packet_next : (n : ℕ) (bs : List ℕ) (at : ℕ) (found : List FieldLeftOut) → at + 188 ≤ length bs → slip_size bs at ≡ None →
    fields_from (suc n) bs at found ≡ fields_from n bs (at + 188) (with_packet (packet_at bs at) found)
unfolding with_next
packet_next n bs at found long e = next n bs at found long ∙ (rw e refl)

pub slip_next : (n : ℕ) (bs : List ℕ) (at size : ℕ) (found : List FieldLeftOut) → at + 188 ≤ length bs → slip_size bs at ≡ Some size →
    fields_from (suc n) bs at found ≡ fields_from n bs (at + size) found
unfolding with_next
slip_next n bs at size found long e = next n bs at found long ∙ (rw e refl)

pub after_packet : (n : ℕ) (bs : List ℕ) (at : ℕ) (found more : List FieldLeftOut) → length bs ≤ n + at → at + 188 ≤ length bs → None ≡ slip_size bs at →
    more ≡ with_packet (packet_at bs at) found →
    fields_from (n - 1) bs (at + 188) more ≡ fields_from n bs at found
after_packet zero bs at found more left long e is = absurd (let no : ⊥ = omega (arith, left, long) in no)
after_packet (suc n) bs at found more left long e is = let m : suc n - 1 ≡ n = omega arith in rw (m, is) (sym (packet_next n bs at found long (sym e)))

pub after_slip : (n : ℕ) (bs : List ℕ) (at size : ℕ) (found : List FieldLeftOut) → length bs ≤ n + at → at + 188 ≤ length bs → Some size ≡ slip_size bs at →
    fields_from (n - 1) bs (at + size) found ≡ fields_from n bs at found
after_slip zero bs at size found left long e = absurd (let no : ⊥ = omega (arith, left, long) in no)
after_slip (suc n) bs at size found left long e = let m : suc n - 1 ≡ n = omega arith in rw m (sym (slip_next n bs at size found long (sym e)))
