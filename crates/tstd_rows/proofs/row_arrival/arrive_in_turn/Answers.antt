use Rattle.tstd_rows.proofs.row_arrival.arrive_in_turn.Goals as goal

pub returns-clause-soon : goal.returns-clause-soon
returns-clause-soon c = c.enter-leaving.ensures.soon
