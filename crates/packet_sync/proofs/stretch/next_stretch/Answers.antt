use Rattle.std.proofs.Common.{◌≤◌, suc, ◌+◌, ◌++◌, inl, inr, refl, length, arith}
use Rattle.packet_sync.proofs.Stretches.{known_by, a_packet, no_packet, so_far_none, so_far_packet, next_slip, next_last, steady_last, steady_none}
use Rattle.packet_sync.proofs.Stretches.{steady_packet, stepped_none, stepped_slip}
use Rattle.packet_sync.proofs.stretch.next_stretch.Goals as goal

pub loop-at-preserved : goal.loop-at-preserved
loop-at-preserved c =
    let bs = c.args.bytes.now in
    let at = c.loop-at.at in
    let i = c.loop-at.invariant in
    let long = a_packet c.args.ended bs at c.decisive.result c.decisive.ensures i.within c.loop-at-test.true in
    record {
      within = long;
      packets = (suc i.packets.0, omega (arith, i.packets.1));
      steady = λ more none. steady_packet bs more at i.packets.0 i.packets.1 long
          (known_by c.args.ended bs more at c.decisive.result c.decisive.ensures i.within c.loop-at-test.true none)
          c.in-None.ensures.value (i.steady more none);
      carried = λ more none. so_far_packet bs more at long
          (known_by c.args.ended bs more at c.decisive.result c.decisive.ensures i.within c.loop-at-test.true none)
          c.in-None.ensures.value (i.carried more none);
    }

pub returns-in-Some-clause-stretch : goal.returns-in-Some-clause-stretch
returns-in-Some-clause-stretch c =
    let bs = c.args.bytes.now in
    let at = c.loop-at.at in
    let i = c.loop-at.invariant in
    let long = a_packet c.args.ended bs at c.decisive.result c.decisive.ensures i.within c.loop-at-test.true in
    let within : at + c.in-Some.slipped ≤ length bs = omega (arith, c.in-Some.ensures.within) in
    λ more none. next_slip bs more at c.in-Some.slipped long within
    (known_by c.args.ended bs more at c.decisive.result c.decisive.ensures i.within c.loop-at-test.true none)
    c.in-Some.ensures.value (i.carried more none)

pub returns-then-ended-clause-stretch : goal.returns-then-ended-clause-stretch
returns-then-ended-clause-stretch c =
    let bs = c.args.bytes.now in
    let at = c.loop-at.at in
    let i = c.loop-at.invariant in
    let short = no_packet c.args.ended bs at c.decisive.result c.decisive.ensures c.if-ended.true c.loop-at-test.false in
    λ more none. next_last bs more at i.within short (none c.if-ended.true) (i.carried more none)

pub loop-at-init : goal.loop-at-init
loop-at-init c =
    record {
      within = omega arith;
      packets = (0, refl);
      steady = λ more none. steady_none (c.args.bytes.now ++ more);
      carried =
          λ more none. so_far_none c.args.bytes.now more;
    }

pub returns-in-Some-clause-packets : goal.returns-in-Some-clause-packets
returns-in-Some-clause-packets c = inl c.loop-at.invariant.packets

pub returns-then-ended-clause-packets : goal.returns-then-ended-clause-packets
returns-then-ended-clause-packets c = inr (c.if-ended.true, refl, refl)

pub returns-else-ended-clause-packets : goal.returns-else-ended-clause-packets
returns-else-ended-clause-packets c = inl c.loop-at.invariant.packets

pub returns-in-Some-clause-stepped : goal.returns-in-Some-clause-stepped
returns-in-Some-clause-stepped c =
    let bs = c.args.bytes.now in
    let at = c.loop-at.at in
    let i = c.loop-at.invariant in
    let long = a_packet c.args.ended bs at c.decisive.result c.decisive.ensures i.within c.loop-at-test.true in
    λ more none. stepped_slip bs more at c.in-Some.slipped long
    (known_by c.args.ended bs more at c.decisive.result c.decisive.ensures i.within c.loop-at-test.true none)
    c.in-Some.ensures.value (i.steady more none)

pub returns-then-ended-clause-stepped : goal.returns-then-ended-clause-stepped
returns-then-ended-clause-stepped c =
    let bs = c.args.bytes.now in
    let at = c.loop-at.at in
    let i = c.loop-at.invariant in
    let short = no_packet c.args.ended bs at c.decisive.result c.decisive.ensures c.if-ended.true c.loop-at-test.false in
    λ more none. stepped_none (bs ++ more) (length bs) (steady_last (bs ++ more) at i.packets.0 (length bs) i.packets.1 short (i.steady more none))

pub returns-else-ended-clause-stepped : goal.returns-else-ended-clause-stepped
returns-else-ended-clause-stepped c = λ more none. stepped_none (c.args.bytes.now ++ more) c.loop-at.at (c.loop-at.invariant.steady more none)
