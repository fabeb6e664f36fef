use Rattle.std.proofs.Common.{◌++◌, drop}
use Rattle.ts_report.specs.ClockedViews.{ClockedState, IsClocked, after_all, events_all}
use Rattle.ts_report.proofs.ClockedPackets.{Settled}
use Rattle.ts_report.proofs.clocked_view.ClockedView.take_all.Given as goal

abbrev pub invariant-loop-packet : goal.invariant-loop-packet
invariant-loop-packet l = (s : ClockedState) → IsClocked l.fn.self s →
    Settled l.self (drop l.packet-index l.packets) (l.events.items) (after_all s l.packets) (l.fn.events.items ++ events_all s l.packets)
