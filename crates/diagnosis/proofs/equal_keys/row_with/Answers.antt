use Rattle.std.proofs.Common.{◌∙◌, [], ap, get_or, refl}
use Rattle.diagnosis.specs.EqualKeys.{is_value}
use Rattle.diagnosis.proofs.EqualRows.{with_found, with_goes_on, with_none}
use Rattle.diagnosis.proofs.equal_keys.row_with.Goals as goal

pub loop-i-preserved : goal.loop-i-preserved
loop-i-preserved c =
    let here = get_or c.args.lines.now c.loop-i.i (record { ref_ptr = (0, 0); now = [] }) in
    with_goes_on c.args.keys c.args.value.now here.now c.is_value.result c.loop-i.i c.args.lines.now (record { ref_ptr = (0, 0); now = [] }) _
    c.loop-i-test.true refl
    (c.is_value.ensures ∙ ap (is_value c.args.value.now) c.value_on.ensures) c.if-is_value.false c.loop-i.invariant

pub returns-then-is_value : goal.returns-then-is_value
returns-then-is_value c =
    let here = get_or c.args.lines.now c.loop-i.i (record { ref_ptr = (0, 0); now = [] }) in
    with_found c.args.keys c.args.value.now here.now c.is_value.result c.loop-i.i c.args.lines.now (record { ref_ptr = (0, 0); now = [] }) _ c.loop-i-test.true
    refl
    (c.is_value.ensures ∙ ap (is_value c.args.value.now) c.value_on.ensures) c.if-is_value.true c.loop-i.invariant

pub returns : goal.returns
returns c = with_none c.args.keys c.args.value.now c.loop-i.i c.args.lines.now _ c.loop-i-test.false c.loop-i.invariant
