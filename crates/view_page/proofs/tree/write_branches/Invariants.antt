use Rattle.std.proofs.Common.{◌≡◌, ◌++◌, string_bytes}
use Rattle.std.specs.Prelude.{flat_map}
use Rattle.view_page.specs.Trees.{entry_branch}
use Rattle.view_page.proofs.tree.write_branches.Given as goal

abbrev pub invariant-loop-program : goal.invariant-loop-program
invariant-loop-program l = string_bytes l.text ++ flat_map (entry_branch l.labels) l.program-iterator ≡ string_bytes l.fn.text
    ++ flat_map (entry_branch l.labels) l.programs.entries
