use Rattle.std.proofs.Common.{List, refl, sym, subst}
use Rattle.packet_sync.specs.FieldMasks.{AreMasks}
use Rattle.packet_sync.specs.declared.left_out.FieldLeftOut.{FieldLeftOut}
use Rattle.packet_sync.proofs.noted_fields.NotedFields.append.Goals as goal

pub invariant_of-self-in_err-push : goal.invariant_of-self-in_err-push
invariant_of-self-in_err-push g c =
    subst (λ (found : List FieldLeftOut). AreMasks c.make_masks.new.masks.items found) (sym c.in_err-push.ensures.items)
    (c.in_ok-make_masks.ensures.made c.self.inside.fields.items c.self.invariant)

pub set_bit-requires-clause-size : goal.set_bit-requires-clause-size
set_bit-requires-clause-size g c = c.in_ok-make_masks.ensures.size c.self.inside.fields.items c.self.invariant

pub invariant_of-self-2 : goal.invariant_of-self-2
invariant_of-self-2 g c =
    let found = c.self.inside.fields.items in
    let f : FieldLeftOut = record { pid = c.args.pid; field = c.args.field } in
    subst (λ (fs : List FieldLeftOut). AreMasks c.set_bit.new.masks.items fs) (sym c.in_ok-push.ensures.items)
    (c.set_bit.ensures found f refl (sym c.number.ensures.value) (c.in_ok-make_masks.ensures.made found c.self.invariant))
