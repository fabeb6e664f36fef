use Rattle.mux_core.proofs.TakenTexts.{cause_is}
use Rattle.mux_core.proofs.multiplexer.Mux.text_fault.Goals as goal

pub returns : goal.returns
returns g c = λ h st. cause_is h c.args.self.now c.args.texts.now c.fault_of_texts.result st c.fault_of_texts.ensures
