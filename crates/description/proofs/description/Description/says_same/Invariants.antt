use Rattle.std.proofs.Common.{◌≡◌}
use Rattle.description.specs.SubTables.{same_below, unnumbered}
use Rattle.description.proofs.description.Description.says_same.Given as goal

abbrev pub invariant-loop-number : goal.invariant-loop-number
invariant-loop-number l =
    l.same ≡ same_below (unnumbered l.self l.sub_table l.moment) (unnumbered l.other l.theirs l.moment) l.number
