use Rattle.std.proofs.Common.{◌++◌, List, ℕ, false, subst}
use Rattle.job_run.specs.Streams.{IsCarriedTo}
use Rattle.job_run.proofs.Readings.{other_taken, plain_taken}
use Rattle.job_run.proofs.inner_stream.take_packets.Goals as goal

pub returns-in_ok-take-in-None-clause-taken : goal.returns-in_ok-take-in-None-clause-taken
returns-in_ok-take-in-None-clause-taken c =
    plain_taken c.args.bytes.now c.args.other c.args.ended c.args.stream.now c.take.new.self c.in-None.is (λ gone so. c.in_ok-take-in-None.ensures gone so)

pub returns-in_ok-take-in-Some-clause-taken : goal.returns-in_ok-take-in-Some-clause-taken
returns-in_ok-take-in-Some-clause-taken c =
    let inner = c.in_ok-inner-in-Some.inner in
    other_taken c.args.bytes.now inner.packets.items c.args.other c.in-Some.size c.args.ended c.args.stream.now c.take-in-Some.new.self inner.used c.in-Some.is
    c.in_ok-inner-in-Some.ensures.packets
    (λ gone so. subst (λ (r : List ℕ). IsCarriedTo (gone ++ r) false c.take-in-Some.new.self) c.deref.ensures.value (c.in_ok-take-in-Some.ensures gone so))
