-- The pieces of a PES packet: its header, then the unit.
use Rattle.std.proofs.Common.{◌≡◌, ◌≤◌, ◌<◌, ◌+◌, ◌-◌, ◌*◌, ◌==◌, ℕ, zero, suc, Bool, true, false, List, ◌++◌, length, take, drop, min, take_all, arith, ap}
use Rattle.std.proofs.Common.{sym, refl, subst, ◌∙◌, inl, inr}
use Rattle.std.proofs.lemmas.Bool.{cases_lt, ne_eqb}
use Rattle.std.proofs.lemmas.List.{length-drop, length-take}
use Rattle.std.proofs.Math.Seq.{take-append-add, drop-append-add}
use Rattle.pes_packet.specs.Marks.{field_size}
use Rattle.pes_packet.specs.Payloads.{part_of}
use Rattle.ts_packet.specs.Beginnings.{room_of, start_by}

-- At most k bytes from the front.
pub take_least : (n k : ℕ) (xs : List ℕ) → n ≡ min (length xs) k → take n xs ≡ take k xs
take_least n k xs e =
    elim (cases_lt (length xs) k) [
      | inl short ↦ take_all n xs (omega arith) ∙ sym (take_all k xs (omega arith))
      | inr long ↦ let same : n ≡ k = omega arith in ap (λ (m : ℕ). take m xs) same
    ]

-- A payload that begins with header bytes continues with the unit.
pub front_part : (header bytes : List ℕ) (room n : ℕ) → length header ≤ room → n ≡ min (length bytes) (room - length header) →
    header ++ take n bytes ≡ take room (header ++ bytes)
front_part header bytes room n fits e =
    let whole : length header + (room - length header) ≡ room = omega arith in
    ap (λ (t : List ℕ). header ++ t) (take_least n (room - length header) bytes e)
    ∙ sym (take-append-add header bytes (room - length header))
    ∙ ap (λ (m : ℕ). take m (header ++ bytes)) whole

-- After the header only bytes of the unit are left.
pub data_left : (header bytes : List ℕ) (sent : ℕ) → length header ≤ sent → drop sent (header ++ bytes) ≡ drop (sent - length header) bytes
data_left header bytes sent over =
    let place : sent ≡ length header + (sent - length header) = omega arith in
    ap (λ (m : ℕ). drop m (header ++ bytes)) place ∙ drop-append-add header bytes (sent - length header)

-- The parts of a unit: two bytes precede it if a decoder may begin there

pub field_most : (access : Bool) → field_size access ≤ 2
field_most true = omega arith
field_most false = omega arith

pub part_room : (sent : ℕ) (access : Bool) → 184 - (field_size access - sent) ≤ room_of (start_by (sent == 0) access)
part_room zero true = omega arith
part_room zero false = omega arith
part_room (suc n) access =
    let some : suc n ≡ 0 → ⊥ = λ e. omega (arith, e) in
    rw (ne_eqb (suc n) 0 some) (omega arith)

pub start_same : (b : ℕ) → (184 * b == 0) ≡ (b == 0)
start_same zero = refl
start_same (suc b) =
    let big : 184 * suc b ≡ 0 → ⊥ = λ e. omega (arith, e) in
    let some : suc b ≡ 0 → ⊥ = λ e. omega (arith, e) in
    rw (ne_eqb (184 * suc b) 0 big, ne_eqb (suc b) 0 some) refl

-- A part fits into the room of a packet with its start.
pub part_most : (access : Bool) (q : ℕ) (pes : List ℕ) → length (part_of (field_size access) (184 * q) pes) ≤ room_of (start_by (q == 0) access)
part_most access q pes =
    let room : 184 - (field_size access - 184 * q) ≤ room_of (start_by (q == 0) access) =
    subst (λ (b : Bool). 184 - (field_size access - 184 * q) ≤ room_of (start_by b access)) (start_same q) (part_room (184 * q) access) in
    omega (arith, room, length-take (184 - (field_size access - 184 * q)) (drop (184 * q - field_size access) pes))

-- If bytes are left, the next part is not empty.
pub part_some : (access : Bool) (sent : ℕ) (pes : List ℕ) → 0 < length pes → sent < field_size access + length pes →
    0 < length (part_of (field_size access) sent pes)
part_some access sent pes some inside =
    omega (
      arith,
      some,
      inside,
      field_most access,
      length-take (184 - (field_size access - sent)) (drop (sent - field_size access) pes),
      length-drop (sent - field_size access) pes,
    )
