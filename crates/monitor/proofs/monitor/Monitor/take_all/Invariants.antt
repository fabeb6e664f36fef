use Rattle.std.proofs.Common.{◌≡◌, drop}
use Rattle.monitor.specs.MonitorStates.{packets_taken}
use Rattle.monitor.proofs.monitor.Monitor.take_all.Given as goal

abbrev pub invariant-loop-packet : goal.invariant-loop-packet
invariant-loop-packet g l = packets_taken l.self (drop l.packet-index l.packets) ≡ packets_taken l.fn.self l.packets
