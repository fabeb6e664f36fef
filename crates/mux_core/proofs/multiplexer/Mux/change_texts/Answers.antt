use Rattle.mux_core.proofs.TakenTexts.{texts_taken}
use Rattle.mux_core.proofs.multiplexer.Mux.change_texts.Goals as goal

pub returns-clause-changes : goal.returns-clause-changes
returns-clause-changes g c = λ h st. texts_taken (record { text = c.texts.ensures; next = c.next_texts.ensures.texts; range = c.next_texts.ensures.range }) h
    c.args.self.now c.args.texts c.exchange_texts.result c.exchange_texts.new.self c.keeps_ranges.ensures st c.exchange_texts.ensures.fault c.exchange_texts.ensures.taken c.exchange_texts.ensures.refused
