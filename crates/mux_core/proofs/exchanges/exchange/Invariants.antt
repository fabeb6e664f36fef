use Rattle.mux_core.proofs.ExchangedItems.{Exchanging}
use Rattle.mux_core.proofs.exchanges.exchange.Given as goal

abbrev pub invariant-loop-place : goal.invariant-loop-place
invariant-loop-place g l = Exchanging l.numbers l.fn.to.items l.fn.from.items l.place l.to.items l.from.items
