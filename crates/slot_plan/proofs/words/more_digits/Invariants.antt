use Rattle.std.proofs.Common.{◌≡◌, ◌<◌, drop}
use Rattle.slot_plan.specs.Words.{more_digits}
use Rattle.slot_plan.proofs.words.more_digits.Given as goal

abbrev pub invariant-loop-i : goal.invariant-loop-i
invariant-loop-i l = record {
  below : l.number < l.limit;
  same : more_digits l.ending l.limit l.fn.number l.text ≡ more_digits l.ending l.limit l.number (drop l.i l.text);
}
