-- A tally covers all earlier units, and each new unit updates it.
use Rattle.std.proofs.Common.{◌≡◌, ℕ, ◌+◌, ◌-◌, nat_lt, List, [], ◌∷◌, ◌++◌, length, map, drop, sum, sym, ap, ◌∙◌, inl, inr, refl, arith}
use Rattle.std.proofs.lemmas.Bool.{cases_lt}
use Rattle.std.proofs.lemmas.List.{length-append, length-drop, length-map, map-append, drop-map, drop-drop, drop-append-le}
use Rattle.std.proofs.lemmas.List.Sums.{sum-map}
use Rattle.circular_buffer.specs.Buffer.{keep_last}
use Rattle.unit_timing.specs.declared.allowance.Allowance.{Allowance}
use Rattle.unit_timing.specs.declared.allowance.Allowance.TheVariants.{Groups, Pace}
use Rattle.unit_timing.specs.PesPacket.{PesPacket, packets_of_unit, last_packets}
use Rattle.unit_timing.specs.Allowances.{allowance_rows}
use Rattle.unit_timing.specs.Levels.{last_due, is_over}
use Rattle.unit_timing.proofs.Levels.{allowance_more_law}
use Rattle.unit_queue.specs.Tallies.{exceeds, level_with, counted, level_of, tally_of}

-- The packets of the last units.
recent_sum : (k : ℕ) (units : List PesPacket) → sum (keep_last k (map packets_of_unit units)) ≡ last_packets k units
recent_sum k units =
    rw (length-map units packets_of_unit, drop-map packets_of_unit (length units - k) units) (sum-map packets_of_unit (drop (length units - k) units))

keep_more : (k : ℕ) (xs : List ℕ) (x : ℕ) → keep_last k (keep_last k xs ++ x ∷ []) ≡ keep_last k (xs ++ x ∷ [])
keep_more k xs x = elim (cases_lt (length xs) k) [
  | inl short ↦ let none : length xs - k ≡ 0 = omega arith in rw none refl
  | inr long ↦
      let m = length xs - k in
      let kept : length (drop (length xs - k) xs) ≡ k = omega (arith, length-drop m xs) in
      let one : length (drop (length xs - k) xs ++ x ∷ []) - k ≡ 1 = rw (length-append (drop m xs) (x ∷ []), kept) (omega arith) in
      let all : length (xs ++ x ∷ []) - k ≡ (length xs - k) + 1 = rw (length-append xs (x ∷ [])) (omega arith) in
      rw (one, all) (ap (λ (t : List ℕ). drop 1 t) (sym (drop-append-le m xs (x ∷ []) (omega arith))) ∙ drop-drop 1 m (xs ++ x ∷ []))
]

-- A new unit exceeds the allowance by the tally if and only if it does by the earlier units.
pub over_same : (a : Allowance) (units : List PesPacket) (unit : PesPacket) → exceeds a (tally_of a units) (last_due 0 units) unit ≡ is_over a units unit
over_same (Groups g most) units unit = ap (λ (n : ℕ). nat_lt most (n + packets_of_unit unit)) (recent_sum (g - 1) units)
over_same (Pace burst pace) units unit = refl

-- The level with a new unit follows from the last level.
level_on : (a : Allowance) (units : List PesPacket) (unit : PesPacket) →
    level_with a (tally_of a units) (last_due 0 units) unit ≡ level_of a (units ++ unit ∷ [])
level_on (Groups g most) units unit = refl
level_on (Pace burst pace) units unit = sym (allowance_more_law.next pace units unit)

recent_on : (k : ℕ) (units : List PesPacket) (unit : PesPacket) →
    keep_last k (keep_last k (map packets_of_unit units) ++ packets_of_unit unit ∷ []) ≡ keep_last k (map packets_of_unit (units ++ unit ∷ []))
recent_on k units unit =
    keep_more k (map packets_of_unit units) (packets_of_unit unit) ∙ ap (λ (t : List ℕ). keep_last k t) (sym (map-append packets_of_unit units (unit ∷ [])))

-- The tally with a new unit follows from the last tally.
pub tally_on : (a : Allowance) (units : List PesPacket) (unit : PesPacket) →
    counted a (tally_of a units) (last_due 0 units) unit ≡ tally_of a (units ++ unit ∷ [])
tally_on a units unit = rw (level_on a units unit, recent_on (allowance_rows a - 1) units unit) refl
