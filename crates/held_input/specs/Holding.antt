-- What a reader with a buffer shows, and what a read of the bytes that it holds leaves of it.
use Rattle.std.specs.Prelude.{◌≡◌, ℕ, min, List, ◌++◌, length, take, drop, Result, Ok}
use Rattle.std.specs.Io.Buffered.{reader_buffer, reader_inner}
use Rattle.std.specs.declared.io.buffered.BufReader.{BufReader}
use Rattle.held_input.specs.declared.buffered.BufferedInput.{BufferedInput}

-- the reader
abbrev pub reader_of : {T A : Type 0} → BufferedInput T A → BufReader T A
reader_of input = input.reader

-- how many of its calls have failed
abbrev pub failures_of : {T A : Type 0} → BufferedInput T A → ℕ
failures_of input = input.faults

-- the bytes that it holds
abbrev pub held_of : {T A : Type 0} → BufferedInput T A → List ℕ
held_of input = reader_buffer input.reader

-- the first bytes that it held were given, as many as there was room for, and the reader behind it was not called
pub record GivesHeld {T A E : Type 0} (old new : BufferedInput T A) (result : Result ℕ E) (room part : List ℕ) : Type 0 where
  pub count : result ≡ Ok (min (length (held_of old)) (length room))
  pub given : part ≡ take (min (length (held_of old)) (length room)) (held_of old) ++ drop (min (length (held_of old)) (length room)) room
  pub left : held_of new ≡ drop (min (length (held_of old)) (length room)) (held_of old)
  pub uncalled : reader_inner new.reader ≡ reader_inner old.reader
