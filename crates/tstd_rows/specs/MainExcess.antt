-- Excesses of a main buffer, row by row: a row is over if there are more than `size` bytes in the buffer when a byte of the row enters. There are at most
-- `most` bytes then; the last byte of the row enters at `last`.
use Rattle.std.specs.Prelude.{ℕ, max, nat_lt, Option, Some, None, if◌then◌else◌}
use Rattle.tstd_rows.specs.declared.excess.Excess.{Excess}

-- an excess increased by a row that is over, or a new excess that begins with this row
unfoldable pub grown : Option Excess → ℕ → ℕ → Excess
grown None most last = record { begin = last; end = last; peak = most }
grown (Some e) most last = record { begin = e.begin; end = last; peak = max e.peak most }

-- the current excess after a row
abbrev pub after_row : ℕ → Option Excess → ℕ → ℕ → Option Excess
after_row size under_way most last = if nat_lt size most then Some (grown under_way most last) else None

-- an excess that ends at that moment
unfoldable pub ended_at : Option Excess → ℕ → Option Excess
ended_at None last = None
ended_at (Some e) last = Some (record { begin = e.begin; end = last; peak = e.peak })

-- the excess that has ended by then: the current excess, if the row finds room
abbrev pub ended_by : ℕ → Option Excess → ℕ → ℕ → Option Excess
ended_by size under_way most last = if nat_lt size most then None else ended_at under_way last
