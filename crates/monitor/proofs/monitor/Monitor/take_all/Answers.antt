use Rattle.std.proofs.Common.{ap, sym, List, ℕ, ◌∙◌}
use Rattle.std.proofs.lemmas.List.{drop_all}
use Rattle.monitor.specs.MonitorStates.{packets_taken}
use Rattle.monitor.proofs.TakenPackets.{takes_these}
use Rattle.monitor.proofs.monitor.Monitor.take_all.Goals as goal

pub returns : goal.returns
unfolding packets_taken
returns g c =
    takes_these c.args.packets.now c.args.self.now c.loop-packet.self
    (ap (λ (rest : List (List ℕ)). packets_taken c.loop-packet.self rest)
    (sym (drop_all c.loop-packet.packet-index c.args.packets.now c.loop-packet-test.false))
    ∙ c.loop-packet.invariant)
