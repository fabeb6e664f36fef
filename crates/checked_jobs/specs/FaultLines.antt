-- The lines for faults in records and units, each with its status.
use Rattle.std.specs.Prelude.{ℕ, [], ◌∷◌, codes}
use Rattle.unit_queue.specs.Codes.{feed_code}
use Rattle.unit_records.specs.Codes.{file_code}
use Rattle.unit_queue.specs.declared.refusal.FeedError.{FeedError}
use Rattle.unit_records.specs.declared.reading.UnitFileError.{UnitFileError}
use Rattle.unit_records.specs.declared.reading.UnitFileError.TheVariants as unread
use Rattle.devices.specs.Outcomes.{Outcome, halted, reported}
use Rattle.devices.specs.Lines.{line_text}
use Rattle.devices.specs.declared.halt.Halt.TheVariants.{Read, Memory}

-- why a record can't be read
unfoldable pub record_outcome : ℕ → UnitFileError → Outcome
record_outcome index unread.Device = halted Read
record_outcome index unread.Memory = halted Memory
record_outcome index fault = reported (line_text (codes "file") (index ∷ file_code fault ∷ []))

-- why a unit is refused
abbrev pub unit_outcome : ℕ → FeedError → Outcome
unit_outcome index cause = reported (line_text (codes "unit") (index ∷ feed_code cause ∷ []))
