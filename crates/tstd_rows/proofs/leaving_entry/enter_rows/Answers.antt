use Rattle.std.proofs.Common.{◌∙◌, ℕ, ◌+◌, ◌≤◌, max, List, Option, ap, arith}
use Rattle.clock27.specs.Peak.{greatest_at}
use Rattle.arrival.specs.Rows.{times_of}
use Rattle.tstd.specs.BufferState.{fullness_at}
use Rattle.tstd_rows.specs.RowEntry.{entered}
use Rattle.tstd_rows.proofs.Pieces.{all_first, all_others, entered-append}
use Rattle.tstd_rows.specs.Least.{least_found}
use Rattle.tstd_rows.proofs.LeavingBytes.{least_of_two, most_of_two}
use Rattle.tstd_rows.proofs.leaving_entry.enter_rows.Goals as goal

pub returns-clause-there : goal.returns-clause-there
returns-clause-there g c = λ x all.
    let old = c.args.buffer.now in
    let ts : List ℕ = times_of c.args.leaving.now.waiting in
    let us : List ℕ = times_of c.args.leaving.now.free in
    let first = c.enter_row-first.ensures.there x (all_first (λ t. t ≤ x) ts us all) in
    let second = c.enter_row-least.ensures.there x (all_others (λ t. t ≤ x) ts us all)
    ∙ ap (λ (u : ℕ). fullness_at c.enter_row-first.new.buffer x + entered u x us) c.enter_row-first.ensures.until in
    omega (arith, first, second, entered-append old.current.until x ts us)

pub returns-clause-most : goal.returns-clause-most
returns-clause-most g c =
    let old = c.args.buffer.now in
    let ts : List ℕ = times_of c.args.leaving.now.waiting in
    let us : List ℕ = times_of c.args.leaving.now.free in
    let both = most_of_two (fullness_at old) (fullness_at c.enter_row-first.new.buffer) old.current.until 0 ts us c.requires.climbing
    c.enter_row-first.ensures.there in
    let middle = c.enter_row-first.new.buffer in
    c.enter_row-least.ensures.peak
    ∙ ap (λ (u : ℕ). max middle.peak (greatest_at (λ x. fullness_at middle x + entered u x us) us)) c.enter_row-first.ensures.until
    ∙ ap (λ (n : ℕ). max n (greatest_at (λ x. fullness_at middle x + entered old.current.until x us) us)) c.enter_row-first.ensures.peak
    ∙ both

pub returns-clause-least : goal.returns-clause-least
returns-clause-least g c =
    let old = c.args.buffer.now in
    let ts : List ℕ = times_of c.args.leaving.now.waiting in
    let us : List ℕ = times_of c.args.leaving.now.free in
    let middle = c.enter_row-first.new.buffer in
    c.enter_row-least.ensures.least
    ∙ ap (λ (u : ℕ). least_found (fullness_at middle) u 0 c.enter_row-first.result us) c.enter_row-first.ensures.until
    ∙ ap (λ (n : Option ℕ). least_found (fullness_at middle) old.current.until 0 n us) c.enter_row-first.ensures.least
    ∙ least_of_two (fullness_at old) (fullness_at middle) old.current.until 0 ts us c.requires.climbing c.enter_row-first.ensures.there
