use Rattle.std.proofs.Common.{◌≡◌, pos, w8, w16, w64, to_z, arith, rules, refl}
use Rattle.std.proofs.lemmas.Int.{to_z_pos}
use Rattle.std.proofs.Math.Facts.{to_z-of_z}
use mir.Val.{SFits}
use Rattle.description_values.proofs.CivilTimes.{some_seconds, no_seconds}
use Rattle.description_values.proofs.moments.civil_seconds.Goals as goal

-- The seconds that jiff returns are the seconds of the six numbers.
pub returns-in-Ok : goal.returns-in-Ok
returns-in-Ok c =
    let year : to_z w16 c.args.year ≡ pos c.args.year = to_z_pos w16 c.args.year (omega arith) in
    let month : to_z w8 c.args.month ≡ pos c.args.month = to_z_pos w8 c.args.month (omega arith) in
    let day : to_z w8 c.args.day ≡ pos c.args.day = to_z_pos w8 c.args.day (omega arith) in
    let hour : to_z w8 c.args.hour ≡ pos c.args.hour = to_z_pos w8 c.args.hour (omega arith) in
    let minute : to_z w8 c.args.minute ≡ pos c.args.minute = to_z_pos w8 c.args.minute (omega arith) in
    let second : to_z w8 c.args.second ≡ pos c.args.second = to_z_pos w8 c.args.second (omega arith) in
    let ok = rw (year, month, day, hour, minute, second) at (c.in-Ok.ensures.succeeds.0 refl) in
    let parts = rw (year, month, day, hour, minute, second) at c.in-Ok.ensures.value in
    let fits : SFits w64 c.to_second.result = search rules in
    rw (to_z-of_z fits, c.to_second.ensures.value, c.to_plain.ensures)
    (some_seconds c.args.year c.args.month c.args.day c.args.hour c.args.minute c.args.second c.in-Ok.time ok parts)

-- If jiff refuses the six numbers, no calendar or clock has them.
pub returns-in-Err : goal.returns-in-Err
returns-in-Err c =
    let year : to_z w16 c.args.year ≡ pos c.args.year = to_z_pos w16 c.args.year (omega arith) in
    let month : to_z w8 c.args.month ≡ pos c.args.month = to_z_pos w8 c.args.month (omega arith) in
    let day : to_z w8 c.args.day ≡ pos c.args.day = to_z_pos w8 c.args.day (omega arith) in
    let hour : to_z w8 c.args.hour ≡ pos c.args.hour = to_z_pos w8 c.args.hour (omega arith) in
    let minute : to_z w8 c.args.minute ≡ pos c.args.minute = to_z_pos w8 c.args.minute (omega arith) in
    let second : to_z w8 c.args.second ≡ pos c.args.second = to_z_pos w8 c.args.second (omega arith) in
    let refused = rw (year, month, day, hour, minute, second) at c.in-Err.ensures.succeeds.1 in
    no_seconds c.args.year c.args.month c.args.day c.args.hour c.args.minute c.args.second c.requires.year refused
