use Rattle.std.proofs.Common.{◌≡◌}
use Rattle.view_page.specs.Services.{total_from}
use Rattle.view_page.proofs.services.total_in.Given as goal

abbrev pub invariant-loop-program : goal.invariant-loop-program
invariant-loop-program l = total_from l.number l.sum l.program-iterator ≡ total_from l.number 0 l.programs.entries
