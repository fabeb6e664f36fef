use Rattle.std.proofs.Common.{◌≡◌, ◌+◌, ◌-◌, ◌*◌, ◌/◌, ℕ, ap, arith}
use Rattle.std.specs.Prelude.{min}
use Rattle.clock27.specs.Units.{slot_units_at_1bps}
use Rattle.on_air.specs.Airing.{greatest_lead}
use Rattle.explained_jobs.specs.TextRecords.{TextsBegin}
use Rattle.explained_jobs.proofs.text_records.texts_begin.Goals as goal

led : (x lead wait : ℕ) → x + lead + wait - (lead + wait) ≡ x - 0
led x lead wait = omega arith

begins : TextsBegin
begins d limit at wait =
    ap (λ (n : ℕ). min ((n * d.rate + (slot_units_at_1bps - 1)) / slot_units_at_1bps) limit)
    (led (90000 * (at - d.start)) (greatest_lead d.streams) wait)

pub returns : goal.returns
returns c = begins
