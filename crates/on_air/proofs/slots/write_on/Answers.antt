use Rattle.std.proofs.Common.{◌≡◌, ◌<◌, ◌≤◌, ◌+◌, ◌^◌, ℕ, arith, subst, ◌∙◌}
use Rattle.mux_core.proofs.Written.{next_is, next_put}
use Rattle.mux_core.proofs.JobWriting.{at_slot, not_done}
use Rattle.on_air.specs.Airing.{on_to}
use Rattle.on_air.proofs.SlotsOn.{OnWay, way_of_run, way_goes_on, way_ends, way_failed}
use Rattle.on_air.proofs.slots.write_on.Goals as goal

pub returns-in_default-clause-ok : goal.returns-in_default-clause-ok
returns-in_default-clause-ok g c = λ run h content start carries goes_on holds.
    let w = c.slots.invariant.written h content start carries.represents (way_of_run run h c.args.mux.now content carries goes_on) holds in
    let below : h.slots + c.slots.counter < on_to h.slots c.args.target =
    omega (arith, c.slots-test.true, c.saturating_sub-count.ensures, c.now.ensures h carries.represents) in
    let most : on_to h.slots c.args.target ≤ 2 ^ 40 = omega (arith, below, c.requires.target) in
    not_done h c.slots.mux c.write_next.new.self (h.slots + c.slots.counter) (on_to h.slots c.args.target) c.in_default.field-0 below most
    (c.in_default.ensures.done (at_slot h (h.slots + c.slots.counter)) w.represents)

pub returns-in-Err-clause-err : goal.returns-in-Err-clause-err
returns-in-Err-clause-err g c = λ run h content start carries goes_on holds.
    let goes = way_of_run run h c.args.mux.now content carries goes_on in
    let w = c.slots.invariant.written h content start carries.represents goes holds in
    let below : h.slots + c.slots.counter < on_to h.slots c.args.target =
    omega (arith, c.slots-test.true, c.saturating_sub-count.ensures, c.now.ensures h carries.represents) in
    way_failed h c.args.mux.now c.slots.mux c.write_next.new.self content c.args.packets.now.hex c.slots.packets.hex (h.slots + c.slots.counter)
    (on_to h.slots c.args.target) c.in-Err.fault.sent start _ _ c.slots.packets c.write_next.new.packet goes (omega arith) w below c.slots.invariant.hex
    (c.in-Ok.ensures.next (at_slot h (h.slots + c.slots.counter)) w.represents) (c.in-Err.ensures.err start _ c.write_next.new.packet
    (next_is c.slots.packets c.write_next.new.packet c.room.ensures.there) (next_put start _ c.slots.packets _ c.write_next.new.packet w.holds))

pub slots-preserved : goal.slots-preserved
slots-preserved g c = record {
  hex = c.push.ensures.hex ∙ c.slots.invariant.hex;
  clean = c.in-Ok-push.ensures.clean ∙ c.slots.invariant.clean;
  written = λ h content start represents goes_on holds.
      let w = c.slots.invariant.written h content start represents goes_on holds in
      let next : (h.slots + c.slots.counter) + 1 ≡ h.slots + (c.slots.counter + 1) = omega arith in
      subst (λ (n : ℕ). OnWay h c.args.mux.now c.write_next.new.self content c.args.packets.now.hex n start (g.W.Write.contents c.push.new.to) c.push.new.self)
      next
      (way_goes_on h c.args.mux.now c.slots.mux c.write_next.new.self content c.args.packets.now.hex c.slots.packets.hex (h.slots + c.slots.counter) start _ _
      c.slots.packets c.push.new.self c.write_next.new.packet goes_on (omega arith) w c.slots.invariant.hex
      (c.in-Ok.ensures.next (at_slot h (h.slots + c.slots.counter)) w.represents)
      (c.in-Ok-push.ensures.ok start _ c.write_next.new.packet
      (next_is c.slots.packets c.write_next.new.packet c.room.ensures.there) (next_put start _ c.slots.packets _ c.write_next.new.packet w.holds)));
}

pub returns-clause-ok : goal.returns-clause-ok
returns-clause-ok g c = λ run h content start carries goes_on holds.
    let w = c.slots.invariant.written h content start carries.represents (way_of_run run h c.args.mux.now content carries goes_on) holds in
    let is : h.slots + c.slots.counter ≡ on_to h.slots c.args.target =
    omega (arith, c.slots-test.false, c.slots.auto.counter-end, c.saturating_sub-count.ensures, c.now.ensures h carries.represents) in
    way_ends run h c.args.mux.now c.slots.mux content c.args.packets.now.hex (h.slots + c.slots.counter) c.args.target start _ c.slots.packets carries w is
    c.slots.invariant.hex
