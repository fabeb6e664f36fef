use Rattle.std.proofs.Common.{sym, ◌∙◌, arith}
use Rattle.description_parts.specs.Tables.{table_kinds}
use Rattle.description_parts.specs.Consistency.{is_too_long}
use Rattle.description_parts.proofs.Places.{first_place-found, first_place-next, none_within}
use Rattle.description_parts.proofs.contents.Contents.first_too_long.Goals as goal

pub returns-in_err-kind : goal.returns-in_err-kind
returns-in_err-kind c =
    let count = c.tables-table-end.ensures in
    absurd (none_within (table_kinds c.args.self.now) c.loop-table.table (omega (arith, count)) (sym c.kind.ensures ∙ c.in_err-kind.was))

pub returns-then-is_too_long : goal.returns-then-is_too_long
returns-then-is_too_long c =
    sym (c.loop-table.invariant
    ∙ first_place-found (is_too_long c.args.self.now) (table_kinds c.args.self.now) c.loop-table.table _ (sym c.kind.ensures ∙ c.in_ok-kind.was)
    (sym c.is_too_long.ensures ∙ c.if-is_too_long.true))

pub loop-table-preserved : goal.loop-table-preserved
loop-table-preserved c =
    c.loop-table.invariant
    ∙ first_place-next (is_too_long c.args.self.now) (table_kinds c.args.self.now) c.loop-table.table _ (sym c.kind.ensures ∙ c.in_ok-kind.was)
    (sym c.is_too_long.ensures ∙ c.if-is_too_long.false)
