-- The format of an output: packets as their bytes, or each as a line of hexadecimal digits.
use Rattle.std.specs.Prelude.{ℕ, Bool, true, false, List, [], ◌∷◌, ◌++◌}
use Rattle.std.specs.List.{flat_map}
use Rattle.hex.specs.Hex.{encode_lower}

-- a packet in this format: its bytes, or a line of their hexadecimal digits
unfoldable pub formatted : Bool → List ℕ → List ℕ
formatted false packet = packet
formatted true packet = encode_lower packet ++ 10 ∷ []

-- packets in order, each in this format
abbrev pub formatted_all : Bool → List (List ℕ) → List ℕ
formatted_all hex packets = flat_map (formatted hex) packets
