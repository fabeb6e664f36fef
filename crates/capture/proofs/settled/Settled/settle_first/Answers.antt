use Rattle.std.proofs.Common.{◌≡◌, ◌++◌, ℕ, List, subst}
use Rattle.std.proofs.lemmas.List.{append_assoc}
use Rattle.packet_sync.specs.OtherPackets.{other_packets}
use Rattle.capture.specs.Captures.{Part, size_parts}
use Rattle.capture.specs.Reading.{Settles}
use Rattle.capture.specs.declared.settled.Settled.{Settled}
use Rattle.capture.proofs.SettledParts.{begun, if_map}
use Rattle.capture.proofs.settled.Settled.settle_first.Goals as goal

pub returns-clause-taken : goal.returns-clause-taken
returns-clause-taken g c = λ first parts taken.
    let bs = c.args.bytes.now in
    let sizes = size_parts (other_packets bs) in
    let now = c.settle_known.new.self in
    if_map (Settles (λ found. g.T.PartTaker.has_taken first ((parts ++ sizes) ++ found) c.settle_known.new.taker) c.begin.new.self bs c.args.ended now)
    (Settles (λ found. g.T.PartTaker.has_taken first (parts ++ found) c.settle_known.new.taker) c.args.self.now bs c.args.ended now) c.settle_known.result
    (λ used s. begun (λ found. g.T.PartTaker.has_taken first (parts ++ found) c.settle_known.new.taker)
    (λ found. g.T.PartTaker.has_taken first ((parts ++ sizes) ++ found) c.settle_known.new.taker)
    c.args.self.now now bs c.args.ended used c.requires.first c.requires.long
    (λ found t. subst (λ (q : List Part). g.T.PartTaker.has_taken first q c.settle_known.new.taker) (append_assoc parts sizes found) t)
    (subst (λ (x : Settled). Settles (λ found. g.T.PartTaker.has_taken first ((parts ++ sizes) ++ found) c.settle_known.new.taker) x bs c.args.ended now used)
    c.in_ok-front.ensures.settled s))
    (c.settle_known.ensures.taken first (parts ++ sizes) (c.in_ok-front.ensures.taken first parts taken))
