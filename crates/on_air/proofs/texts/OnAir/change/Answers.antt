use Rattle.on_air.specs.Airing.{taken}
use Rattle.on_air.proofs.TextsOn.{texts_fail, texts_taken}
use Rattle.on_air.proofs.texts.OnAir.change.Goals as goal

pub returns-in-Ok-clause-takes : goal.returns-in-Ok-clause-takes
returns-in-Ok-clause-takes g c = λ run a entry start h t due judged.
    let wrote = c.in-Ok.ensures.ok run a entry start h due in
    texts_taken run a entry c.put_on_air.result c.args.texts start _ _ t judged.1 judged.0
    (c.put_on_air.ensures.slot run _ start _ wrote) (c.put_on_air.ensures.changes run _ start _ wrote judged.1)

pub returns-in-Err-clause-takes : goal.returns-in-Err-clause-takes
returns-in-Err-clause-takes g c = λ run a entry start h t due judged.
    texts_fail run a entry c.in-Err.fault.sent c.args.texts start _ c.args.self.now.mux h.promises h.mux t judged.1 judged.0
    (c.in-Err.ensures.err run a entry start h due)
