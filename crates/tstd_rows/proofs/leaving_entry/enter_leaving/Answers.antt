use Rattle.std.proofs.Common.{◌∙◌}
use Rattle.tstd_rows.proofs.Together.{together_there, together_most, together_least}
use Rattle.tstd_rows.proofs.leaving_entry.enter_leaving.Goals as goal

pub returns-then-none_leaves_by-clause-there : goal.returns-then-none_leaves_by-clause-there
returns-then-none_leaves_by-clause-there g c =
    together_there c.args.buffer.now c.enter_together.new.buffer c.args.leaving.now c.enter_together.ensures.there

pub returns-then-none_leaves_by-clause-most : goal.returns-then-none_leaves_by-clause-most
returns-then-none_leaves_by-clause-most g c =
    c.enter_together.ensures.most
    ∙ together_most c.args.buffer.now c.args.leaving.now c.requires.sound c.requires.climbing c.requires.last
    (c.none_leaves_by.ensures.next c.if-none_leaves_by.true) (c.none_leaves_by.ensures.until c.if-none_leaves_by.true) c.requires.some

pub returns-then-none_leaves_by-clause-least : goal.returns-then-none_leaves_by-clause-least
returns-then-none_leaves_by-clause-least g c =
    c.enter_together.ensures.least
    ∙ together_least c.args.buffer.now c.args.leaving.now c.requires.sound c.requires.last
    (c.none_leaves_by.ensures.next c.if-none_leaves_by.true) (c.none_leaves_by.ensures.until c.if-none_leaves_by.true) c.requires.some
