-- Recurrence of references and tables (ISO/IEC 13818-1, 2.7.2; ETSI TR 101 290, 5.2).
use Rattle.std.specs.Prelude.{ℕ, ◌-◌, ◌*◌, ◌≤◌, List, [], ◌∷◌}
use Rattle.clock27.specs.Units.{byte_ms_at_1bps}

-- of an output of `rate` bits a second: the times from byte `from` to the first of these bytes, between successive ones
-- and from the last to byte `until`, or from `from` to `until` if there are none, are at most `limit` milliseconds
unfoldable pub Recur : ℕ → ℕ → ℕ → List ℕ → ℕ → Type 0
Recur rate limit from [] until = (until - from) * byte_ms_at_1bps ≤ limit * rate
Recur rate limit from (byte ∷ bytes) until = ((byte - from) * byte_ms_at_1bps ≤ limit * rate) × Recur rate limit byte bytes until
