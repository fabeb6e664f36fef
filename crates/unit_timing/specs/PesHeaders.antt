-- The bytes of PES packet headers in a multiplexing buffer MB (ISO/IEC 13818-1, 2.4.2.3, the leak method): they never enter
-- the elementary stream buffer EB, and leave MB at no cost of time, together with the first byte of payload after them.
-- Elsewhere here they leave MB as bytes of payload do. This file says how far that is from the standard.
use Rattle.std.specs.Prelude.{ℕ, suc, ◌+◌, ◌≤◌, max, Bool, true, false, cond, nat_le, nat_lt, List, [], ◌∷◌}
use Rattle.clock27.specs.Departure.{departures}
use Rattle.clock27.specs.Fullness.{fullness}
use Rattle.unit_timing.specs.VideoBuffers.{NoLater}

-- `headers` marks each byte that enters MB as a header's or not. Selects the times of the payload bytes
unfoldable pub of_payload : List Bool → List ℕ → List ℕ
of_payload [] ts = []
of_payload (header ∷ headers) [] = []
of_payload (true ∷ headers) (t ∷ ts) = of_payload headers ts
of_payload (false ∷ headers) (t ∷ ts) = t ∷ of_payload headers ts

-- at most `most` bytes of headers are in a row, if `before` of them precede these bytes
unfoldable pub HeadersAtMost : ℕ → ℕ → List Bool → Type 0
HeadersAtMost most before [] = Unit {0}
HeadersAtMost most before (true ∷ headers) = (suc before ≤ most) × HeadersAtMost most (suc before) headers
HeadersAtMost most before (false ∷ headers) = HeadersAtMost most 0 headers

-- a byte that enters at t has entered by the moment x
abbrev pub entered_by : ℕ → ℕ → ℕ
entered_by x t = cond (nat_le t x) 1 0

-- how many bytes MB then holds at the moment x: a header's bytes from their entry until the byte of payload after them leaves, a
-- byte of payload until it leaves, `step` after it entered or after the byte of payload before it left, whichever is later. `prev`
-- is when the byte of payload before left, and `waiting` is the number of bytes of a header before these that have entered by x
unfoldable pub fullness_with_headers : ℕ → ℕ → ℕ → ℕ → List Bool → List ℕ → ℕ
fullness_with_headers x step prev waiting [] ts = waiting
fullness_with_headers x step prev waiting (header ∷ headers) [] = waiting
fullness_with_headers x step prev waiting (true ∷ headers) (t ∷ ts) = fullness_with_headers x step prev (waiting + entered_by x t) headers ts
fullness_with_headers x step prev waiting (false ∷ headers) (t ∷ ts) =
    cond (nat_lt x (max t prev + step)) (waiting + entered_by x t) 0 + fullness_with_headers x step (max t prev + step) 0 headers ts

-- MB then holds at most the bytes of one header more than where these leave it as bytes of payload do; and each byte of
-- payload is in EB no later
pub record HeadersLaw : Type 0 where
  pub fuller : (x step most : ℕ) (headers : List Bool) (ts : List ℕ) → HeadersAtMost most 0 headers →
      fullness_with_headers x step 0 0 headers ts ≤ fullness x ts (departures step 0 ts) + most
  pub sooner : (step : ℕ) (headers : List Bool) (ts : List ℕ) →
      NoLater (departures step 0 (of_payload headers ts)) (of_payload headers (departures step 0 ts))
