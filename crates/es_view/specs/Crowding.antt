-- A stream with too many waiting units: no more of its transport stream is viewed.
use Rattle.std.specs.Prelude.{ℕ, nat_le, Bool, length}
use Rattle.es_view.specs.declared.stream_entry.StreamEntry.{StreamEntry}

-- the units of a stream before the current one whose bytes wait in its main buffer, and the limit of their number
abbrev pub units_waiting : StreamEntry → ℕ
units_waiting entry = length entry.seen.buffers.view.main.earlier.items

abbrev pub most_waiting : ℕ
most_waiting = 4096

-- whether a stream has reached the limit of waiting units
abbrev pub is_entry_crowded : StreamEntry → Bool
is_entry_crowded entry = nat_le most_waiting (units_waiting entry)
