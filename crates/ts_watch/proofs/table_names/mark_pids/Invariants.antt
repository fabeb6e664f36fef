use Rattle.std.proofs.Common.{◌≡◌, drop}
use Rattle.ts_watch.specs.TableNames.{all_marked}
use Rattle.ts_watch.proofs.table_names.mark_pids.Given as goal

abbrev pub invariant-loop-pid : goal.invariant-loop-pid
invariant-loop-pid l = all_marked l.marks.entries l.section (drop l.pid-index l.pids) ≡ all_marked l.fn.marks.entries l.section l.pids
