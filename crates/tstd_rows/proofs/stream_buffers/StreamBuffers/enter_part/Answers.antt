use Rattle.std.proofs.Common.{rules, ◌≡◌, true, ap, arith}
use Rattle.arrival.specs.Arrivals.{has_times}
use Rattle.tstd_rows.specs.Entering.{takes_part}
use Rattle.tstd_rows.specs.declared.entered.Entered.{Entered}
use Rattle.tstd_rows.proofs.Packets.{part_entered, part_held, part_taken, part_video}
use Rattle.tstd_rows.proofs.stream_buffers.StreamBuffers.enter_part.Goals as goal

pub returns-clause-held : goal.returns-clause-held
returns-clause-held c = λ h k.
    let p = c.args.part.now in
    let a = c.args.arrival.now in
    let times : has_times a p.byte p.size ≡ true = search rules in
    let takes : takes_part h a p ≡ true =
    part_taken c.args.self.now h a p k (omega (arith, c.if-part-gt-LAST_BYTES.false)) (omega (arith, c.if-self-gt-LAST_BYTES.false))
    (omega (arith, c.if-part-gt188.false)) times in
    part_held c.args.self.now c.begin_unit.new.self c.take-payload.new.self h a p k takes c.in_ok-begin_unit.ensures.held c.take-payload.ensures.held

pub returns-clause-video : goal.returns-clause-video
returns-clause-video c = λ h sizes k v.
    let p = c.args.part.now in
    let a = c.args.arrival.now in
    let times : has_times a p.byte p.size ≡ true = search rules in
    let takes : takes_part h a p ≡ true =
    part_taken c.args.self.now h a p k (omega (arith, c.if-part-gt-LAST_BYTES.false)) (omega (arith, c.if-self-gt-LAST_BYTES.false))
    (omega (arith, c.if-part-gt188.false)) times in
    part_video c.args.self.now c.begin_unit.new.self c.take-payload.new.self sizes h a p k v takes c.in_ok-begin_unit.ensures.held
    c.in_ok-begin_unit.ensures.video c.take-payload.ensures.video

pub returns-clause-entered : goal.returns-clause-entered
returns-clause-entered c = λ h k.
    let p = c.args.part.now in
    let a = c.args.arrival.now in
    let times : has_times a p.byte p.size ≡ true = search rules in
    let takes : takes_part h a p ≡ true =
    part_taken c.args.self.now h a p k (omega (arith, c.if-part-gt-LAST_BYTES.false)) (omega (arith, c.if-self-gt-LAST_BYTES.false))
    (omega (arith, c.if-part-gt188.false)) times in
    part_entered c.args.self.now c.begin_unit.new.self h a p c.args.into.now.lead c.args.into.now.header c.take-payload.new.ended c.take-payload.new.main
    c.begin_unit.new.unit
    c.take-payload.result.transport c.take-payload.result.main c.take-payload.result.least k takes (ap (λ (e : Entered). e.lead) c.requires)
    (ap (λ (e : Entered). e.header) c.requires)
    c.in_ok-begin_unit.ensures.held c.in_ok-begin_unit.ensures.unit c.take-payload.ensures.ended c.take-payload.ensures.main c.take-payload.ensures.most
    c.take-payload.ensures.main_most c.take-payload.ensures.main_least
