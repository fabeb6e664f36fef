use Rattle.std.proofs.Common.{◌∙◌, ◌+◌, ℕ, List, [], Option, ap, drop, get_or, refl}
use Rattle.std.specs.Prelude.{option_map}
use Rattle.std.specs.Borrow.{Bor}
use Rattle.diagnosis.specs.EqualKeys.{row_like}
use Rattle.diagnosis.proofs.EqualRows.{equal_found, equal_goes_on, equal_none}
use Rattle.diagnosis.proofs.KeyRows.{shown}
use Rattle.diagnosis.proofs.equal_keys.equal_rows.Goals as goal

abbrev row_shown : ℕ × Bor (List ℕ) → ℕ × List ℕ
row_shown row = (row.0, row.1.now)

pub returns-in-Some : goal.returns-in-Some
returns-in-Some c =
    let i = c.loop-i.i in
    let lines = c.args.lines.now in
    equal_found c.args.keys (get_or lines i (record { ref_ptr = (0, 0); now = [] })).now (option_map row_shown c.row_like.result) (row_shown c.in-Some.other) i
    lines (record { ref_ptr = (0, 0); now = [] }) _ c.loop-i-test.true refl
    (c.row_like.ensures ∙ ap (λ (v : Option (List ℕ)). row_like c.args.keys v (i + 1 + 1) (shown (drop (i + 1) lines))) c.value_on.ensures)
    (ap (option_map row_shown) c.in-Some.is) c.loop-i.invariant

pub loop-i-preserved : goal.loop-i-preserved
loop-i-preserved c =
    let i = c.loop-i.i in
    let lines = c.args.lines.now in
    equal_goes_on c.args.keys (get_or lines i (record { ref_ptr = (0, 0); now = [] })).now (option_map row_shown c.row_like.result) i lines
    (record { ref_ptr = (0, 0); now = [] }) _ c.loop-i-test.true refl
    (c.row_like.ensures ∙ ap (λ (v : Option (List ℕ)). row_like c.args.keys v (i + 1 + 1) (shown (drop (i + 1) lines))) c.value_on.ensures)
    (ap (option_map row_shown) c.in_default.is) c.loop-i.invariant

pub returns : goal.returns
returns c = equal_none c.args.keys c.loop-i.i c.args.lines.now _ c.loop-i-test.false c.loop-i.invariant
