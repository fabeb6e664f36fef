use Rattle.std.proofs.Common.{◌≡◌, length}
use Rattle.tstd.specs.PayloadWalk.{bytes_ahead}
use Rattle.tstd.proofs.payloads.Payloads.next.Given as goal

abbrev pub invariant-packets : goal.invariant-packets
invariant-packets l = bytes_ahead l.self ≡ bytes_ahead l.fn.self

abbrev pub decreases-packets : goal.decreases-packets
decreases-packets l = length l.self.packets.now
