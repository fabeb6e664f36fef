use Rattle.std.proofs.Common.{◌∙◌, ap, List, ℕ}
use Rattle.std.specs.Prelude.{is_some}
use Rattle.psi_tables.specs.Loops.{loop_at}
use Rattle.psi_tables.proofs.LoopParts.{loop_at-end}
use Rattle.dvb_tables.specs.EventEntries.{events_in}
use Rattle.dvb_tables.specs.EventInformation.{event_loop_of}
use Rattle.dvb_tables.proofs.EventLoops.{no_events}
use Rattle.dvb_tables.proofs.event_loop.EventLoop.new.Goals as goal

pub invariant_of-result : goal.invariant_of-result
invariant_of-result c = record { whole = ap (λ (bytes : List ℕ). is_some (loop_at 12 bytes)) c.new.ensures ∙ ap is_some (loop_at-end 12) }

pub returns : goal.returns
unfolding event_loop_of
returns c = ap events_in c.new.ensures ∙ no_events
