use Rattle.std.proofs.Common.{sym, ◌∙◌, arith}
use Rattle.devices.proofs.Numerals.{no_decimal, read_as, too_great}
use Rattle.devices.proofs.options.number_in.Goals as goal

pub returns-then-not-is_decimal-clause-value : goal.returns-then-not-is_decimal-clause-value
returns-then-not-is_decimal-clause-value c = sym (no_decimal c.args.text.now c.args.low c.args.high (sym c.is_decimal.ensures ∙ c.if-not-is_decimal.true))

pub returns-in_default-clause-value : goal.returns-in_default-clause-value
returns-in_default-clause-value c =
    sym (too_great c.args.text.now c.args.low c.args.high (omega arith) (sym c.is_decimal.ensures ∙ c.if-not-is_decimal.false) c.in_default.ensures.value.0)

pub returns-clause-value : goal.returns-clause-value
returns-clause-value c =
    c.within.ensures.value
    ∙ sym (read_as c.args.text.now c.in-Ok.number c.args.low c.args.high (sym c.is_decimal.ensures ∙ c.if-not-is_decimal.false) c.in-Ok.ensures.value.0.1)
