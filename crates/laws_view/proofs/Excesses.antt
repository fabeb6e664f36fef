-- The excesses of a transport buffer that end with bytes in two parts, and how many there are
use Rattle.std.proofs.Common.{◌≡◌, ◌∙◌, sym, ℕ, ◌+◌, ◌≤◌, max, Bool, true, false, List, [], ◌∷◌, ◌++◌, length, Option, Some, None, if◌then◌else◌, refl, inl}
use Rattle.std.proofs.Common.{inr, arith}
use Rattle.std.proofs.lemmas.Bool.Decides.{eqb_tells}
use Rattle.std.specs.Option.{option_to_list}
use Rattle.std.proofs.lemmas.List.{length-append}
use Rattle.clock27.specs.Departure.{last_left}
use Rattle.clock27.proofs.Departures.{last_left-append}
use Rattle.tstd_rows.specs.declared.excess.Excess.{Excess}
use Rattle.tstd_rows.specs.Excesses.{after_byte, excess_after, excesses_ended, is_over}
use Rattle.tstd_rows.proofs.ExcessBytes.{after-append, ended-append}
use Rattle.tstd_rows.specs.History.{arrivals_of}
use Rattle.tstd_rows.specs.Limits.{tb_size}
use Rattle.tstd_rows.specs.Held.{Held, transport_ended}
use Rattle.tstd_rows.specs.Entering.{payload_transport}
use Rattle.laws_view.proofs.EnteredBytes.{Arrives, no_times}

-- Bytes in two parts end the excesses of the first part, then the excesses of the second.
pub ended_two : (h h' : Held) (ts us : List ℕ) → Arrives h h' ts → transport_ended h (ts ++ us) ≡ transport_ended h ts ++ transport_ended h' us
ended_two h h' ts us a =
    let old : List ℕ = arrivals_of h.parts in
    let r : ℕ = h.rate in
    ended-append r tb_size (last_left r 0 old) (excess_after r tb_size 0 None old) ts us
    ∙ rw (a.alike.rate, a.arrivals, last_left-append r 0 old ts, after-append r tb_size 0 None old ts) refl

pub none_ended : (h : Held) → transport_ended h [] ≡ []
unfolding excesses_ended
none_ended h = refl

pub payload_reported : (h : Held) (n : ℕ) (times : List ℕ) → length times ≡ n → payload_transport h n times ≡ transport_ended h times
unfolding payload_transport
payload_reported h n times e = elim (eqb_tells n 0) [
  | inl none ↦ rw (none.0, no_times times (e ∙ none.1)) (sym (none_ended h))
  | inr some ↦ rw some.0 refl
]

-- At most as many excesses end as bytes come.
few_ended : (step size prev : ℕ) (under_way : Option Excess) (ts : List ℕ) → length (excesses_ended step size prev under_way ts) ≤ length ts
unfolding excesses_ended
few_ended step size prev under_way [] = omega arith
few_ended step size prev under_way (t ∷ ts) =
    let rest = few_ended step size (max t prev + step) (after_byte step size prev under_way t) ts in
    omega (
      arith,
      rest,
      one (is_over step size prev t) under_way,
      length-append (if is_over step size prev t then [] else option_to_list under_way)
          (excesses_ended step size (max t prev + step) (after_byte step size prev under_way t) ts),
    )
  where
    one : (b : Bool) (o : Option Excess) → length (if b then [] else option_to_list o) ≤ 1
    one true o = omega arith
    one false None = omega arith
    one false (Some e) = omega arith

pub few_reported : (h : Held) (ts : List ℕ) → length (transport_ended h ts) ≤ length ts
few_reported h ts = few_ended h.rate tb_size _ _ ts
