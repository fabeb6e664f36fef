-- Times that rise
use Rattle.std.proofs.Common.{ℕ, zero, suc, ◌+◌, ◌/◌, ◌≤◌, List, [], ◌∷◌, arith}
use Rattle.std.proofs.lemmas.List.Elements.{All-head, All-tail}
use Rattle.arrival.specs.Rows.{times_in_row}
use Rattle.tstd_rows.specs.TransportLaws.{Rises, RowRises, RisesAppended}
use Rattle.tstd_rows.proofs.EvenRows.{div_le}

lower : (low from : ℕ) (ts : List ℕ) → low ≤ from → Rises from ts → Rises low ts
unfolding Rises
lower low from [] le rises = tt
lower low from (t ∷ ts) le rises = (omega (arith, le, rises.0), rises.1)

pub row_rises : RowRises
unfolding Rises times_in_row
row_rises from pace parts zero some = tt
row_rises from pace parts (suc n) some =
    let same : from / parts ≤ from / parts = omega arith in
    let le : from ≤ from + pace = omega arith in (
      same,
      lower (from / parts) ((from + pace) / parts) (times_in_row (from + pace) pace parts n) (div_le from (from + pace) parts some le)
          (row_rises (from + pace) pace parts n some),
    )

pub rises_appended : RisesAppended
unfolding Rises
rises_appended from middle [] more rises le all after = lower from middle more le after
rises_appended from middle (t ∷ ts) more rises le all after =
    (rises.0, rises_appended t middle ts more rises.1 (All-head (λ t. t ≤ middle) t ts all) (All-tail (λ t. t ≤ middle) t ts all) after)
