-- The payloads of a unit, one by one.
use Rattle.std.proofs.Common.{◌≡◌, ℕ, zero, suc, ◌+◌, ◌-◌, ◌*◌, ◌<◌, Bool, true, false, List, length, take, drop, ap, ap₂, ◌∙◌, arith, Some}
use Rattle.std.proofs.lemmas.List.{length-drop, take-append-drop, drop-drop}
use Rattle.std.specs.Prelude.{slice_get}
use Rattle.std.specs.List.{concat}
use Rattle.pes_packet.specs.Marks.{field_size}
use Rattle.pes_packet.specs.Payloads.{piece_count, part_of, unit_pieces}
use Rattle.pes_packet.specs.Laws.{UnitPiecesJoin}
use Rattle.pes_packet.proofs.Payloads.{payloads_join}

count_all : (access : Bool) (pes : List ℕ) → length (unit_pieces access pes) ≡ piece_count (field_size access + length pes)
unfolding unit_pieces
count_all true pes =
    let more : suc (piece_count (length (drop 182 pes))) ≡ piece_count (2 + length pes) = omega (arith, length-drop 182 pes) in
    ap suc (payloads_join (drop 182 pes)).count ∙ more
count_all false pes =
    let same : piece_count (length pes) ≡ piece_count (0 + length pes) = omega arith in
    (payloads_join pes).count ∙ same

-- Equal numbers and equal places give equal bytes.
part_is : (pes : List ℕ) (m n a b : ℕ) → m ≡ n → a ≡ b → Some (take m (drop a pes)) ≡ Some (take n (drop b pes))
part_is pes m n a b e f = ap₂ (λ (k p : ℕ). Some (take k (drop p pes))) e f

each_all : (access : Bool) (pes : List ℕ) (q : ℕ) → q < piece_count (field_size access + length pes) →
    slice_get (unit_pieces access pes) q ≡ Some (part_of (field_size access) (184 * q) pes)
unfolding unit_pieces
each_all true pes zero lt =
    let room : 182 ≡ 184 - (2 - 184 * 0) = omega arith in
    let place : 0 ≡ 184 * 0 - 2 = omega arith in
    part_is pes 182 (184 - (2 - 184 * 0)) 0 (184 * 0 - 2) room place
each_all true pes (suc q) lt =
    let inside : q < piece_count (length (drop 182 pes)) = omega (arith, lt, length-drop 182 pes) in
    let room : 184 ≡ 184 - (2 - 184 * suc q) = omega arith in
    let place : 182 + 184 * q ≡ 184 * suc q - 2 = omega arith in
    (payloads_join (drop 182 pes)).each q inside
    ∙ ap (λ (t : List ℕ). Some (take 184 t)) (drop-drop (184 * q) 182 pes)
    ∙ part_is pes 184 (184 - (2 - 184 * suc q)) (182 + 184 * q) (184 * suc q - 2) room place
each_all false pes q lt =
    let inside : q < piece_count (length pes) = omega (arith, lt) in
    let room : 184 ≡ 184 - (0 - 184 * q) = omega arith in
    let place : 184 * q ≡ 184 * q - 0 = omega arith in
    (payloads_join pes).each q inside ∙ part_is pes 184 (184 - (0 - 184 * q)) (184 * q) (184 * q - 0) room place

joined_all : (access : Bool) (pes : List ℕ) → concat (unit_pieces access pes) ≡ pes
unfolding unit_pieces
joined_all true pes = rw (payloads_join (drop 182 pes)).joined (take-append-drop 182 pes)
joined_all false pes = (payloads_join pes).joined

pub unit_pieces_join : (access : Bool) (pes : List ℕ) → UnitPiecesJoin access pes
unit_pieces_join access pes = record { count = count_all access pes; each = λ q lt. each_all access pes q lt; joined = joined_all access pes }
