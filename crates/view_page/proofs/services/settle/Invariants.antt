use Rattle.view_page.specs.Services.{AreServiceCurves, KeptServiceCurves, settled_all}
use Rattle.view_page.proofs.Settling.{SettlesTo}
use Rattle.view_page.proofs.services.settle.Given as goal

abbrev pub invariant-loop-program : goal.invariant-loop-program
invariant-loop-program l = (kept : KeptServiceCurves) → AreServiceCurves l.fn.curves kept →
    SettlesTo l.curves l.number l.left l.program-iterator (settled_all l.number l.programs.entries kept)
