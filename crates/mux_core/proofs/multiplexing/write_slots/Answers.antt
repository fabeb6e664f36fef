use Rattle.std.proofs.Common.{refl, ◌∙◌, arith}
use Rattle.mux_core.proofs.Written.{next_is, next_put}
use Rattle.mux_core.proofs.JobWriting.{at_slot, written_none, written_more, written_failed, not_done}
use Rattle.mux_core.proofs.multiplexing.write_slots.Goals as goal

pub slots-init : goal.slots-init
slots-init g c = record {
  hex = refl;
  clean = refl;
  written = λ h start represents none holds. written_none h _ _ start _ _ none represents holds;
}

pub returns-in_default-clause-ok : goal.returns-in_default-clause-ok
returns-in_default-clause-ok g c = λ h start represents none holds.
    let w = c.slots.invariant.written h start represents none holds in
    not_done h c.slots.mux c.write_next.new.self c.slots.counter c.args.slots c.in_default.field-0 (omega (arith, c.slots-test.true)) c.requires.slots
    (c.in_default.ensures.done (at_slot h c.slots.counter) w.represents)

pub returns-in-Err-clause-err : goal.returns-in-Err-clause-err
returns-in-Err-clause-err g c = λ h start represents none holds.
    let w = c.slots.invariant.written h start represents none holds in
    written_failed h _ _ _ _ c.slots.packets.hex c.slots.counter c.args.slots c.in-Err.fault.sent start _ _ c.slots.packets _ w
    (omega (arith, c.slots-test.true)) c.slots.invariant.hex
    (c.in-Ok.ensures.next (at_slot h c.slots.counter) w.represents)
    (c.in-Err.ensures.err start _ c.write_next.new.packet (next_is c.slots.packets c.write_next.new.packet c.room.ensures.there)
    (next_put start _ c.slots.packets _ c.write_next.new.packet w.holds))

pub slots-preserved : goal.slots-preserved
slots-preserved g c = record {
  hex = c.push.ensures.hex ∙ c.slots.invariant.hex;
  clean = c.in-Ok-push.ensures.clean ∙ c.slots.invariant.clean;
  written = λ h start represents none holds.
      let w = c.slots.invariant.written h start represents none holds in
      written_more h _ _ _ _ c.slots.packets.hex c.slots.counter start _ _ c.slots.packets _ _ w c.slots.invariant.hex
      (c.in-Ok.ensures.next (at_slot h c.slots.counter) w.represents) (c.in-Ok-push.ensures.ok start _ c.write_next.new.packet
      (next_is c.slots.packets c.write_next.new.packet c.room.ensures.there) (next_put start _ c.slots.packets _ c.write_next.new.packet w.holds));
}
