-- No packet of a stream is sent after its unit is due.
use Rattle.std.proofs.Common.{ℕ, ◌+◌, ◌-◌, ◌*◌, ◌≤◌, ◌<◌, List, [], ◌∷◌, length, subst, inl, inr, arith, All}
use Rattle.std.proofs.Math.Nat.{mul-le-mul_right}
use Rattle.std.proofs.lemmas.Bool.{cases_lt}
use Rattle.std.proofs.lemmas.List.Elements.{All-head, All-tail, All-drop}
use Rattle.clock27.specs.Arrival.{bytes_from}
use Rattle.clock27.specs.Departure.{departures, last_left}
use Rattle.clock27.specs.Units.{slot_units_at_1bps}
use Rattle.pes_packet.specs.AccessUnits.{AccessUnit}
use Rattle.unit_timing.specs.Schedule.{Packet}
use Rattle.unit_timing.specs.Transport.{pes_left}
use Rattle.unit_timing.proofs.MainBufferBytes.{packet_later}
use Rattle.laws_view.proofs.KeptBytes.{first_left, later_left, left_packet}
use Rattle.laws_view.proofs.MainBytes.{payload_of_packet}
use Rattle.laws_view.proofs.SentBytes.{TimelyEach}

-- Each packet begins by the decoding time of its unit.
unfoldable pub OnTime : ℕ → List AccessUnit → List Packet → Type 0
OnTime rate us [] = Unit {0}
OnTime rate [] (p ∷ ps) = Unit {0}
OnTime rate (u ∷ us) (p ∷ ps) = (p.slot * slot_units_at_1bps ≤ u.dts * rate) × OnTime rate us ps

by_first : (rate r s due : ℕ) (ds : List ℕ) → 0 < r → 1 ≤ length ds → All (λ d. 188 * s * r + rate ≤ d) ds → All (λ d. d * 720000 ≤ due * rate * r) ds →
    s * 135360000 ≤ due * rate
by_first rate r s due [] some many low high = absurd (omega (arith, many))
by_first rate r s due (d ∷ ds) some many low high =
    let least : 188 * s * r + rate ≤ d = All-head (λ d. 188 * s * r + rate ≤ d) d ds low in
    let most : d * 720000 ≤ due * rate * r = All-head (λ d. d * 720000 ≤ due * rate * r) d ds high in
    elim (cases_lt (due * rate) (s * 135360000)) [
      | inl late ↦ let far : due * rate + 1 ≤ s * 135360000 = omega (arith, late) in absurd (omega (arith, some, least, most, mul-le-mul_right r far))
      | inr fine ↦ fine
    ]

-- A packet of 1 to 184 bytes, in a slot up to n
pub record IsSized (n : ℕ) (p : Packet) : Type 0 where
  pub some : 1 ≤ p.size
  pub most : p.size ≤ 184
  pub slot : p.slot ≤ n

pub on_time : (rate r n prev : ℕ) (us : List AccessUnit) (ps : List Packet) → 0 < r → All (IsSized n) ps → TimelyEach rate r n us ps (pes_left rate r prev ps) →
    OnTime rate us ps
unfolding OnTime TimelyEach
on_time rate r n prev us [] some sized timely = tt
on_time rate r n prev [] (p ∷ ps) some sized timely = tt
on_time rate r n prev (u ∷ us) (p ∷ ps) some sized timely =
    let one : IsSized n p = All-head (IsSized n) p ps sized in
    let le : p.size ≤ 188 = omega (arith, one.most) in
    let first : List ℕ = departures rate prev (bytes_from r (188 * p.slot) 188) in
    let later : All (λ d. 188 * p.slot * r + rate ≤ d) (payload_of_packet rate r prev p) =
    All-drop (λ d. 188 * p.slot * r + rate ≤ d) (188 - p.size) first (packet_later rate r prev p.slot (188 * p.slot * r) (omega arith)) in
    let rest = on_time rate r n (last_left rate prev (bytes_from r (188 * p.slot) 188)) us ps some (All-tail (IsSized n) p ps sized)
    (subst (λ (l : List ℕ). TimelyEach rate r n us ps l) (later_left rate r prev p ps le) timely.1) in
    elim (cases_lt (n * 135360000) (u.dts * rate)) [
      | inl after ↦ (omega (arith, after, one.slot), rest)
      | inr due ↦
          let all : All (λ d. d * 720000 ≤ u.dts * rate * r) (payload_of_packet rate r prev p) =
          subst (λ (l : List ℕ). All (λ d. d * 720000 ≤ u.dts * rate * r) l) (first_left rate r prev p ps le) (timely.0 due) in
          (by_first rate r p.slot u.dts (payload_of_packet rate r prev p) some (omega (arith, left_packet rate r prev p le, one.some)) later all, rest)
    ]
