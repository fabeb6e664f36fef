use Rattle.std.proofs.Common.{arith}
use Rattle.std.proofs.lemmas.List.{length-replicate}
use Rattle.slot_plan.specs.declared.slot.Slot.TheVariants.{Null}
use Rattle.plan_maker.proofs.plain.plain_slots.Goals as goal

pub place_items-requires : goal.place_items-requires
place_items-requires g c =
    record {
      short =
          rw (c.deref_mut.ensures.value, c.in_ok-slots.ensures) (omega (arith, length-replicate c.longest.result Null, c.longest.ensures, c.requires));
    }
