use Rattle.std.proofs.Common.{◌≡◌, ◌∙◌, suc, true, false, Some, slice_get, ap, sym, arith}
use Rattle.std.proofs.lemmas.Option.{slice_get-get_or}
use Rattle.description_parts.specs.Tables.{is_scheduled}
use Rattle.description.proofs.ScheduledPlaces.{next_place, skip_place}
use Rattle.description.proofs.sub_table.scheduled_place.Goals as goal
use Rattle.description.proofs.sub_table.scheduled_place.Goals.{then-is_scheduled+else-left-eq0, else-is_scheduled}

pub loop-at-preserved : goal.loop-at-preserved
loop-at-preserved c =
    let here : slice_get c.args.programs.now c.loop-at.at ≡ Some c.index-programs-at.result =
    slice_get-get_or c.args.programs.now c.loop-at.at c.index-programs-at.result c.loop-at-test.true ∙ ap Some (sym c.index-programs-at.is) in
    elim c.if-is_scheduled.branch [
      | then-is_scheduled+else-left-eq0 w ↦
          let passed : is_scheduled c.args.has_eit c.index-programs-at.result ≡ true = sym c.is_scheduled.ensures ∙ w.if-is_scheduled.true in
          let on : c.loop-at.left ≡ suc c.if-is_scheduled.left = omega (arith, w.if-left-eq0.false, w.left-is) in
          next_place (is_scheduled c.args.has_eit) c.args.programs.now c.args.place c.loop-at.at c.loop-at.left c.if-is_scheduled.left
          c.index-programs-at.result c.loop-at.invariant here passed on
      | else-is_scheduled w ↦
          let failed : is_scheduled c.args.has_eit c.index-programs-at.result ≡ false = sym c.is_scheduled.ensures ∙ w.if-is_scheduled.false in
          skip_place (is_scheduled c.args.has_eit) c.args.programs.now c.args.place c.loop-at.at c.loop-at.left c.if-is_scheduled.left
          c.index-programs-at.result c.loop-at.invariant here failed (sym w.left-is)
    ]
