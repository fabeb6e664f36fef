-- Options that are lists: their parts have commas between them.
use Rattle.std.specs.Prelude.{ℕ, ◌==◌, List, [], ◌∷◌, Option, Some, None, map, option_and_then, option_map}
use Rattle.std.specs.List.{slice_split}
use Rattle.clap.specs.Words.{Text}
use Rattle.es_buffers.specs.declared.buffers.PidBuffers.{PidBuffers}
use Rattle.devices.specs.Options.{decimal, within}

-- the parts of a text between bytes `at`: between commas, and between colons
abbrev pub parts : ℕ → Text → List Text
parts at text = slice_split (λ b. b == at) text

abbrev pub comma_parts : Text → List Text
comma_parts text = parts 44 text

abbrev pub colon_parts : Text → List Text
colon_parts text = parts 58 text

-- a function of a value, if there is one
abbrev pub given : {A B : Type 0} → Option A → (A → Option B) → Option B
given value f = option_and_then f value

-- all values; none if any value is none
unfoldable pub all_of : {T : Type 0} → List (Option T) → Option (List T)
all_of [] = Some []
all_of (None ∷ values) = None
all_of (Some x ∷ values) = option_map (λ xs. x ∷ xs) (all_of values)

-- a number of decimal digits in its range
abbrev pub number_in : ℕ → ℕ → Text → Option ℕ
number_in low high text = option_and_then (within low high) (decimal text)

-- numbers up to `most`
abbrev pub numbers_of : ℕ → List Text → Option (List ℕ)
numbers_of most texts = all_of (map (number_in 0 most) texts)

-- N,..: no numbers if the option is not given
unfoldable pub number_list : ℕ → Option Text → Option (List ℕ)
number_list most None = Some []
number_list most (Some text) = numbers_of most (comma_parts text)

-- the buffers of PID:RX:MAIN, each number in its range
unfoldable pub buffers_of : List Text → Option PidBuffers
buffers_of (pid ∷ rx ∷ main ∷ []) =
    given (number_in 0 8191 pid) (λ p.
    given (number_in 64000 200000000 rx) (λ r.
    given (number_in 1 10000000 main) (λ m.
    Some (record { pid = p; buffers = record { rx = r; main = m } }))))
buffers_of parts = None

abbrev pub all_buffers : List Text → Option (List PidBuffers)
all_buffers texts = all_of (map (λ text. buffers_of (colon_parts text)) texts)

-- PID:RX:MAIN,..: no buffers if the option is not given
unfoldable pub buffer_list : Option Text → Option (List PidBuffers)
buffer_list None = Some []
buffer_list (Some text) = all_buffers (comma_parts text)
