use Rattle.std.proofs.Common.{◌≡◌, ◌∙◌, ◌<◌, ◌≤◌, length, refl, ap, sym, arith, add-one}
use Rattle.demux.proofs.KeptStates.{all_but_these, first_but, first_length, next_but}
use Rattle.demux.proofs.states.leave_out_others.Goals as goal

pub leave_out_unless-requires : goal.leave_out_unless-requires
leave_out_unless-requires g c =
    let old = c.args.states.now.entries in
    let kept = c.args.kept.now in
    let size : length c.loop-i.states.entries ≡ length old = ap length c.loop-i.invariant ∙ first_length kept c.loop-i.i old in
    record { there = omega (arith, size, c.loop-i-test.true, c.len-i-end.ensures.len, ap (λ m. length m.entries) c.entries.ensures) }

pub loop-i-init : goal.loop-i-init
loop-i-init g c = refl

pub loop-i-preserved : goal.loop-i-preserved
loop-i-preserved g c =
    let old = c.args.states.now.entries in
    let kept = c.args.kept.now in
    let less : c.loop-i.i < length old = omega (arith, c.loop-i-test.true, c.len-i-end.ensures.len, ap (λ m. length m.entries) c.entries.ensures) in
    next_but kept c.loop-i.i old c.loop-i.states.entries c.leave_out_unless.new.states.entries c.loop-i.invariant less c.leave_out_unless.ensures.states
    ∙ sym (ap (λ n. first_but kept n old) (add-one c.loop-i.i))

pub returns : goal.returns
returns g c =
    let old = c.args.states.now.entries in
    let past : length old ≤ c.loop-i.i = omega (arith, c.loop-i-test.false, c.len-i-end.ensures.len, ap (λ m. length m.entries) c.entries.ensures) in
    all_but_these c.args.kept.now c.loop-i.i old c.loop-i.states.entries past c.loop-i.invariant
