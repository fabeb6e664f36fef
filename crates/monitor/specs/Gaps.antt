-- Gaps in packets, measured in time (ETSI TR 101 290, 5.2.1 and 5.2.2: intervals of tables, of PCR and of PTS).
use Rattle.std.specs.Prelude.{ℕ, ◌-◌, ◌*◌, nat_lt, Bool, List, drop, map, filter}
use Rattle.std.specs.List.{zip}

-- a packet lasts 1,504,000 / R milliseconds at R bits a second; the limit is milliseconds multiplied by R
abbrev pub is_long : ℕ → ℕ → Bool
is_long limit_times_rate gap = nat_lt limit_times_rate (gap * 1504000)

-- each place with the next
abbrev pub successive : List ℕ → List (ℕ × ℕ)
successive places = zip places (drop 1 places)

-- the places that come too long after the one before: the gap is longer than the limit in milliseconds
abbrev pub late : ℕ → ℕ → List ℕ → List ℕ
late rate limit places = map (λ p. p.1) (filter (λ p. is_long (limit * rate) (p.1 - p.0)) (successive places))
