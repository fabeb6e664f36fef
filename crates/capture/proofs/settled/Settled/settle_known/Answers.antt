use Rattle.std.proofs.Common.{◌≡◌, ◌<◌, ◌+◌, ◌++◌, ℕ, List, true, false, None, Some, arith, drop, length}
use Rattle.std.proofs.lemmas.List.{length-drop}
use Rattle.capture.specs.Captures.{Part}
use Rattle.packet_sync.specs.OtherPackets.{size_of}
use Rattle.capture.specs.Reading.{IsLast, Settles, SettlesFrom, decisive}
use Rattle.capture.specs.declared.settled.Settled.{Settled}
use Rattle.capture.proofs.SettledParts.{if_map, known, last_short, other_last, plain_last, size_least, size_most}
use Rattle.capture.proofs.settled.Settled.settle_known.Goals as goal

pub returns-in-None-clause-last : goal.returns-in-None-clause-last
returns-in-None-clause-last g c =
    let bs = c.args.bytes.now in
    let now : Settled = record { front = c.args.self.now.front; place = c.settle_plain.new.place } in
    if_map (λ used. length bs < used + decisive c.args.ended) (λ used. c.args.ended ≡ true → IsLast now (drop used bs)) c.settle_plain.result
    (λ used most ended. plain_last now c.args.front (drop used bs) c.requires c.in-None.is (last_short c.args.ended bs used most ended))
    c.settle_plain.ensures.most

pub returns-in-None-clause-taken : goal.returns-in-None-clause-taken
returns-in-None-clause-taken g c = λ first parts taken.
    let bs = c.args.bytes.now in
    let now : Settled = record { front = c.args.self.now.front; place = c.settle_plain.new.place } in
    if_map (SettlesFrom (λ found. g.T.PartTaker.has_taken first (parts ++ found) c.settle_plain.new.taker) None c.args.self.now.place bs c.args.ended
    c.settle_plain.new.place)
    (Settles (λ found. g.T.PartTaker.has_taken first (parts ++ found) c.settle_plain.new.taker) c.args.self.now bs c.args.ended now) c.settle_plain.result
    (λ used s. known (λ found. g.T.PartTaker.has_taken first (parts ++ found) c.settle_plain.new.taker) c.args.self.now now c.args.front None bs c.args.ended
    used c.requires c.requires c.in-None.is s)
    (c.settle_plain.ensures.taken first parts taken)

pub returns-in-Some-clause-most : goal.returns-in-Some-clause-most
returns-in-Some-clause-most g c =
    let bs = c.args.bytes.now in
    if_map (λ used. length bs < used + size_of c.in-Some.other) (λ used. c.args.ended ≡ false → length bs < used + 1128) c.settle_other.result
    (λ used most ended. omega (arith, most, size_most c.in-Some.other)) c.settle_other.ensures.most

pub returns-in-Some-clause-last : goal.returns-in-Some-clause-last
returns-in-Some-clause-last g c =
    let bs = c.args.bytes.now in
    if_map (λ used. length bs < used + size_of c.in-Some.other) (λ used. c.args.ended ≡ true → IsLast c.args.self.now (drop used bs)) c.settle_other.result
    (λ used most ended. other_last c.args.self.now c.args.front c.in-Some.other (drop used bs) c.requires c.in-Some.is
    (omega (arith, most, size_least c.in-Some.other, length-drop used bs))) c.settle_other.ensures.most

pub returns-in-Some-clause-taken : goal.returns-in-Some-clause-taken
returns-in-Some-clause-taken g c = λ first parts taken.
    let bs = c.args.bytes.now in
    let now = c.args.self.now in
    if_map (SettlesFrom (λ found. g.T.PartTaker.has_taken first (parts ++ found) c.settle_other.new.taker) (Some c.in-Some.other) now.place bs c.args.ended
    now.place)
    (Settles (λ found. g.T.PartTaker.has_taken first (parts ++ found) c.settle_other.new.taker) now bs c.args.ended now) c.settle_other.result
    (λ used s. known (λ found. g.T.PartTaker.has_taken first (parts ++ found) c.settle_other.new.taker) now now c.args.front (Some c.in-Some.other) bs
    c.args.ended used c.requires c.requires c.in-Some.is s)
    (c.settle_other.ensures.taken first parts now.place c.args.ended taken)
