use Rattle.mux_core.proofs.Written.{holds_none}
use Rattle.mux_core.proofs.multiplexing.write_all.Goals as goal

pub returns-in-Ok-finish-clause-answers : goal.returns-in-Ok-finish-clause-answers
returns-in-Ok-finish-clause-answers g c = λ h represents none.
    c.in-Ok-finish.ensures.ok (g.W.Write.contents c.args.to.now) _
    (c.in-Ok.ensures.ok h (g.W.Write.contents c.args.to.now) represents none
    (holds_none (g.W.Write.contents c.args.to.now) c.args.packets c.requires.empty c.requires.none_sent))
