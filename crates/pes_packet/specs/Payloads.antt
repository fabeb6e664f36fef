-- The payloads that a PES packet is cut into (ISO/IEC 13818-1, 2.4.3.3: a transport packet carries at most 184 bytes).
use Rattle.std.specs.Prelude.{ℕ, ◌+◌, ◌-◌, ◌/◌, Bool, cond, List, ◌∷◌, length, take, drop}
use Rattle.std.specs.Simd.{first_chunks}

-- the number of payloads of a PES packet of this size
abbrev pub piece_count : ℕ → ℕ
piece_count size = (size + 183) / 184

-- the payloads in order: 184 bytes each, the last 1 to 184
unfoldable pub pieces : List ℕ → List (List ℕ)
pieces bytes = first_chunks 184 (piece_count (length bytes)) bytes

-- the payload of a packet which begins after the first `sent` of these bytes: `front` bytes in front of a PES packet, and the PES packet
abbrev pub part_of : ℕ → ℕ → List ℕ → List ℕ
part_of front sent pes = take (184 - (front - sent)) (drop (sent - front) pes)

-- the payloads of a unit in order: if a decoder may begin with it, its first packet has room for 182 bytes (2.4.3.5)
unfoldable pub unit_pieces : Bool → List ℕ → List (List ℕ)
unit_pieces access pes = cond access (take 182 pes ∷ pieces (drop 182 pes)) (pieces pes)
