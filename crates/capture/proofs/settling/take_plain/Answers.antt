use Rattle.std.proofs.Common.{◌∙◌, ◌++◌, List, ℕ, map, subst}
use Rattle.std.specs.Prelude.{OnOk}
use Rattle.capture.specs.Captures.{IsPacket}
use Rattle.capture.proofs.SettledParts.{one_cut}
use Rattle.capture.proofs.settling.take_plain.Goals as goal

pub returns : goal.returns
returns g c = λ first parts taken.
    subst (λ (packets : List (List ℕ)). OnOk c.take_packets.result (g.T.PartTaker.has_taken first (parts ++ map IsPacket packets) c.take_packets.new.self))
    (c.as_chunks.ensures.front ∙ one_cut c.args.bytes.now c.requires)
    (c.take_packets.ensures first parts taken)
