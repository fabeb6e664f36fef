-- What a count beside a reader or writer shows.
use Rattle.std.specs.Prelude.{ℕ}
use Rattle.counted_io.specs.declared.counting.Counted.{Counted}

-- the reader or writer
abbrev pub inner_of : {T : Type 0} → Counted T → T
inner_of counted = counted.inner

-- how many of its calls have failed
abbrev pub failures_of : {T : Type 0} → Counted T → ℕ
failures_of counted = counted.faults
