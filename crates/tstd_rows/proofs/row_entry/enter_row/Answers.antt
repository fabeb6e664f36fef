use Rattle.std.proofs.Common.{◌∙◌, ℕ, Option, ap, arith}
use Rattle.arrival.specs.Rows.{times_of}
use Rattle.tstd_rows.specs.Least.{least_in}
use Rattle.tstd_rows.proofs.RowEntries.{peak_end}
use Rattle.tstd_rows.proofs.Pieces.{row_of_none}
use Rattle.tstd_rows.proofs.Least.{least_end}
use Rattle.tstd.specs.BufferState.{fullness_at}
use Rattle.tstd_rows.proofs.row_entry.enter_row.Goals as goal

pub loop-rest-preserved : goal.loop-rest-preserved
loop-rest-preserved g c =
    let inv = c.loop-rest.invariant in
    let e = c.enter_first-first.ensures in
    record {
      sound = e.sound;
      timed = e.timed;
      until = e.until ∙ inv.until;
      fullness = omega (arith, e.fullness, inv.fullness);
      later = λ x all. e.later x (inv.later x all);
      there = λ x all. e.there x (inv.later x all) ∙ inv.there x all;
      least = ap (λ (n : Option ℕ). least_in c.enter_first-first.new.buffer n (times_of c.enter_first-first.result.others)) c.lesser-lowest.ensures
          ∙ e.least c.loop-rest.lowest ∙ inv.least;
      peak = e.peak ∙ inv.peak;
    }

pub returns-clause-there : goal.returns-clause-there
returns-clause-there g c = λ x all.
    let none = row_of_none c.loop-rest.rest (omega (arith, c.loop-rest-test.false)) in
    omega (arith, rw none at (c.loop-rest.invariant.there x all))

pub returns-clause-peak : goal.returns-clause-peak
returns-clause-peak g c =
    let none = row_of_none c.loop-rest.rest (omega (arith, c.loop-rest-test.false)) in
    peak_end c.loop-rest.buffer.peak _ _ _ none c.loop-rest.invariant.peak

pub returns-clause-least : goal.returns-clause-least
returns-clause-least g c =
    let none = row_of_none c.loop-rest.rest (omega (arith, c.loop-rest-test.false)) in
    least_end (fullness_at c.loop-rest.buffer) c.loop-rest.buffer.current.until c.loop-rest.lowest _ _ none c.loop-rest.invariant.least
