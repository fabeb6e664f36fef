use Rattle.std.proofs.Common.{rules, ℕ, ◌+◌, ◌≤◌, List, ◌++◌, length, sym, ap, ◌∙◌, subst, arith, lit<}
use Rattle.bit_fields.specs.Fields.{IsBytes}
use Rattle.dvb_tables.specs.EventInformation.{event_loop_of}
use Rattle.dvb_tables.proofs.EventLoops.{events_same, events_length}
use Rattle.dvb_tables.proofs.event_loop.EventLoop.append_all_to.Goals as goal

pub append-requires : goal.append-requires
unfolding event_loop_of
append-requires c =
    let same = ap (length {A = ℕ}) c.as_slice-bytes.ensures.value in
    let size = events_length c.args.self.now.bytes.items c.args.self.now.whole in
    let room : length c.args.out.now.items + length c.as_slice-bytes.result.now ≤ 4096 = omega (arith, same, size, c.requires) in
    (lit< tt, room)

pub returns-clause-items : goal.returns-clause-items
unfolding event_loop_of
returns-clause-items c =
    let fits : IsBytes c.args.self.now.bytes.items = subst IsBytes c.as_slice-bytes.ensures.value (λ i. search rules) in
    c.append.ensures.items
    ∙ ap (λ (t : List ℕ). c.args.out.now.items ++ t)
    (c.as_slice-bytes.ensures.value ∙ sym (events_same c.args.self.now.bytes.items fits c.args.self.now.whole))

pub returns-clause-len : goal.returns-clause-len
unfolding event_loop_of
returns-clause-len c =
    let same = ap (length {A = ℕ}) c.as_slice-bytes.ensures.value in
    let size = events_length c.args.self.now.bytes.items c.args.self.now.whole in
    omega (arith, same, size, c.append.ensures.len)
