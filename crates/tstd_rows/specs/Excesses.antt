-- Excesses: when more bytes are in a buffer than its size.
--
-- Nothing is lost in the model: a byte that finds no room is in the buffer all the same, so that an excess says by how
-- much the buffer is too small.
use Rattle.std.specs.Prelude.{◌≡◌, ℕ, ◌+◌, ◌-◌, ◌*◌, max, nat_lt, Bool, List, [], ◌∷◌, ◌++◌, Option, Some, None, if◌then◌else◌}
use Rattle.std.specs.Option.{option_to_list}
use Rattle.clock27.specs.Peak.{found}
use Rattle.tstd_rows.specs.declared.excess.Excess.{Excess}

-- a byte that arrives at t finds no room, if the byte before it leaves at `prev`: with this byte there are more than `size`
abbrev pub is_over : ℕ → ℕ → ℕ → ℕ → Bool
is_over step size prev t = nat_lt size (found step prev t)

-- when the buffer has room for a byte again, if the last byte in it leaves at `last`
abbrev pub room_again : ℕ → ℕ → ℕ → ℕ
room_again step size last = last - (size - 1) * step

-- an excess increased by a byte that finds no room, or a new excess that begins with this byte
unfoldable pub grown : ℕ → ℕ → ℕ → Option Excess → ℕ → Excess
grown step size prev None t = record { begin = t; end = room_again step size (max t prev + step); peak = found step prev t }
grown step size prev (Some e) t = record { begin = e.begin; end = room_again step size (max t prev + step); peak = max e.peak (found step prev t) }

-- the current excess after a byte
abbrev pub after_byte : ℕ → ℕ → ℕ → Option Excess → ℕ → Option Excess
after_byte step size prev under_way t = if is_over step size prev t then Some (grown step size prev under_way t) else None

-- the current excess after these bytes
unfoldable pub excess_after : ℕ → ℕ → ℕ → Option Excess → List ℕ → Option Excess
excess_after step size prev under_way [] = under_way
excess_after step size prev under_way (t ∷ ts) = excess_after step size (max t prev + step) (after_byte step size prev under_way t) ts

-- the excesses that have ended by then, each before a byte that finds room
unfoldable pub excesses_ended : ℕ → ℕ → ℕ → Option Excess → List ℕ → List Excess
excesses_ended step size prev under_way [] = []
excesses_ended step size prev under_way (t ∷ ts) =
    (if is_over step size prev t then [] else option_to_list under_way) ++ excesses_ended step size (max t prev + step) (after_byte step size prev under_way t)
    ts

-- each of these bytes finds no room, or each finds room
unfoldable pub AreOver : Bool → ℕ → ℕ → ℕ → List ℕ → Type 0
AreOver over step size prev [] = Unit {0}
AreOver over step size prev (t ∷ ts) = (is_over step size prev t ≡ over) × AreOver over step size (max t prev + step) ts
