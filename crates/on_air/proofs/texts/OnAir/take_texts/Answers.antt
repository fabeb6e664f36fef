use Rattle.std.proofs.Common.{ℕ, List, Ok, Err, sym, ap, ◌∙◌, subst}
use Rattle.pes_packet.specs.AccessUnits.{AccessUnit}
use Rattle.mux_core.specs.MuxStates.{MuxState}
use Rattle.on_air.specs.Airing.{job_of}
use Rattle.on_air.specs.AirStates.{AirState, Carries}
use Rattle.on_air.specs.Hearing.{JudgesTexts}
use Rattle.on_air.proofs.texts.OnAir.take_texts.Goals as goal

pub returns-in-Ok-clause-takes : goal.returns-in-Ok-clause-takes
returns-in-Ok-clause-takes g c = λ run a start h t.
    let carries = subst (λ (m : MuxState). Carries run (job_of a) m) (sym (ap (λ (x : AirState). x.mux) c.self.view_is)) h.mux in
    let due = ap (λ (u : AccessUnit). u.dts) c.unit.view_is in
    let bytes = c.deref.ensures.value ∙ ap (λ (u : AccessUnit). u.bytes) c.unit.view_is in
    c.change.ensures.takes run a (c.args.stream, c.args.unit) start h t due (subst (λ (l : List ℕ). JudgesTexts run a l (Ok c.in-Ok.texts)) bytes
    (rw c.in-Ok.is at (c.judged_texts-judged.ensures run a carries)))

pub returns-in-Err-clause-takes : goal.returns-in-Err-clause-takes
returns-in-Err-clause-takes g c = λ run a start h t.
    let carries = subst (λ (m : MuxState). Carries run (job_of a) m) (sym (ap (λ (x : AirState). x.mux) c.self.view_is)) h.mux in
    let bytes = c.deref.ensures.value ∙ ap (λ (u : AccessUnit). u.bytes) c.unit.view_is in
    c.refuse.ensures.takes run a (c.args.stream, c.args.unit) start _ h t (subst (λ (l : List ℕ). JudgesTexts run a l (Err c.in-Err.error)) bytes
    (rw c.in-Err.is at (c.judged_texts-judged.ensures run a carries)))
