use Rattle.std.proofs.Common.{◌++◌, drop}
use Rattle.analysis.specs.Analysis.{AnalysisState, IsAnalysed, after_all, events_all}
use Rattle.analysis.proofs.Analysed.{Settled}
use Rattle.analysis.proofs.analyser.Analyser.take_all.Given as goal

abbrev pub invariant-loop-packet : goal.invariant-loop-packet
invariant-loop-packet l = (s : AnalysisState) → IsAnalysed l.fn.self s →
    Settled l.self (drop l.packet-index l.packets) (l.events.items) (after_all s l.packets) (l.fn.events.items ++ events_all s l.packets)
