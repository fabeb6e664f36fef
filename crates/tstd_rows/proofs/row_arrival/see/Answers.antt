use Rattle.std.proofs.Common.{◌≡◌, ◌∙◌, false, Option, Some, None, is_some, refl, ap, sym}
use Rattle.std.specs.Option.{option_to_list}
use Rattle.tstd_rows.specs.declared.excess.Excess.{Excess}
use Rattle.tstd_rows.proofs.Arrivals.{all_room, ends, leaves, nothing_ends}
use Rattle.tstd_rows.proofs.row_arrival.see.Goals as goal

none_there : (o : Option Excess) → is_some o ≡ false → o ≡ None
none_there None e = refl
none_there (Some excess) e = absurd cc

pub returns-then-is_some : goal.returns-then-is_some
returns-then-is_some c =
    let watch = c.args.watch.now in
    let room = all_room c.args.buffer.now watch.size c.args.most c.args.row.now (rw c.from.ensures at c.if-most-from.true) c.requires.most in
    record {
      ended = ap (λ (e : Option Excess). option_to_list e) c.end_excess.ensures.ended
          ∙ ends c.args.buffer.now watch.size watch.under_way c.args.row.now c.requires.can.some room;
      under_way = c.end_excess.ensures.under_way ∙ leaves c.args.buffer.now watch.size watch.under_way c.args.row.now c.requires.can.some room;
      size = c.end_excess.ensures.size;
    }

pub returns-else-is_some : goal.returns-else-is_some
returns-else-is_some c =
    nothing_ends c.args.buffer.now c.args.watch.now c.args.most c.args.row.now c.args.ended.now c.requires.can.some
    (rw c.from.ensures at c.if-most-from.true) c.requires.most (none_there c.args.watch.now.under_way (sym c.is_some.ensures ∙ c.if-is_some.false))
    c.requires.none
