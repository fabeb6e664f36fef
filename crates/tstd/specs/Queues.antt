-- The state of a buffer that bytes pass one after another.
use Rattle.std.specs.Prelude.{ℕ, ◌+◌, ◌-◌, ◌/◌, max, List, [], ◌∷◌, fold}
use Rattle.tstd.specs.declared.queue.Queue.{Queue}

-- a byte arrives
abbrev pub arrived : Queue → ℕ → Queue
arrived queue time = record {
  step = queue.step;
  last = max time queue.last + queue.step;
  longest_residence = max queue.longest_residence (max time queue.last + queue.step - time);
}

-- bytes arrive one after another
abbrev pub all_arrived : Queue → List ℕ → Queue
all_arrived queue times = fold arrived queue times

-- the longest time from the arrival of a byte to its departure; `prev` is when the byte before the first byte left
unfoldable pub greatest_residence : ℕ → ℕ → List ℕ → ℕ
greatest_residence step prev [] = 0
greatest_residence step prev (time ∷ times) = max (max time prev + step - time) (greatest_residence step (max time prev + step) times)

-- the number of bytes that leave in a time, including the last byte
abbrev pub bytes_within : ℕ → ℕ → ℕ
bytes_within step time = (time + (step - 1)) / step
