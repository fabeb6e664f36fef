-- Rooms for sections
use Rattle.std.proofs.Common.{ℕ, ◌≤◌, ◌+◌, ◌-◌, ◌*◌, max, min, ◌==◌, Bool, true, false, arith, codes, if◌then◌else◌}
use Rattle.toml.specs.Data.{Data}
use Rattle.description_parts.specs.Contents.{described_rooms}
use Rattle.description_parts.specs.Ranges.{AreRooms}
use Rattle.description_parts.specs.Tables.{packets_of_section, room_length}
use Rattle.description_parts.proofs.KeyRanges.{integer_or-within}

-- A section has room for its text.
least_if : (b : Bool) (l n : ℕ) → l ≤ (if b then l else max l n)
least_if true l n = omega arith
least_if false l n = omega arith

pub room_least : (most packets l : ℕ) → l ≤ room_length most packets l
room_least most packets l = least_if (packets == 1) l (min most (184 * packets - 1))

most_if : (b : Bool) (l m n : ℕ) → l ≤ n → m ≤ n → (if b then l else max l m) ≤ n
most_if true l m n fits most = fits
most_if false l m n fits most = omega (arith, fits, most)

min_most : (most m n : ℕ) → most ≤ n → min most m ≤ n
min_most most m n fits = omega (arith, fits)

-- A section is no longer than its text and the greatest length.
pub room_most : (most packets l n : ℕ) → l ≤ n → most ≤ n → room_length most packets l ≤ n
room_most most packets l n fits high =
    most_if (packets == 1) l (min most (184 * packets - 1)) n fits (min_most most (184 * packets - 1) n high)

-- It takes no more packets than its text and the packets of the room.
places_if : (b : Bool) (l m packets : ℕ) → m ≤ 184 * packets - 1
    → packets_of_section (if b then l else max l m) ≤ packets_of_section l + packets
places_if true l m packets fits = omega arith
places_if false l m packets fits = omega (arith, fits)

min_right : (most m : ℕ) → min most m ≤ m
min_right most m = omega arith

pub room_places : (most packets l : ℕ) → packets_of_section (room_length most packets l) ≤ packets_of_section l + packets
room_places most packets l =
    places_if (packets == 1) l (min most (184 * packets - 1)) packets (min_right most (184 * packets - 1))

pub rooms_are : (document : Data) → AreRooms (described_rooms document)
rooms_are document =
    let pat = integer_or-within (codes "pat_packets") 1 6 1 1 document (omega arith) (omega arith) (omega arith) (omega arith) in
    let sdt = integer_or-within (codes "sdt_packets") 1 6 1 1 document (omega arith) (omega arith) (omega arith) (omega arith) in
    let nit = integer_or-within (codes "nit_packets") 1 6 1 1 document (omega arith) (omega arith) (omega arith) (omega arith) in
    let eit = integer_or-within (codes "eit_packets") 2 23 2 2 document (omega arith) (omega arith) (omega arith) (omega arith) in
    record {
      some_pat = pat.least;
      most_pat = pat.most;
      some_sdt = sdt.least;
      most_sdt = sdt.most;
      some_nit = nit.least;
      most_nit = nit.most;
      some_eit = eit.least;
      most_eit = eit.most;
    }
