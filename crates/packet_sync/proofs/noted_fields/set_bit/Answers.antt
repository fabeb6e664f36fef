use Rattle.std.proofs.Common.{◌≡◌, ◌∙◌, List, ℕ, ap, subst}
use Rattle.std.specs.Prelude.{slice_index}
use Rattle.packet_sync.specs.FieldMasks.{SetsBit}
use Rattle.packet_sync.proofs.FieldMasks.{bit_is_set}
use Rattle.packet_sync.proofs.noted_fields.set_bit.Goals as goal

pub returns : goal.returns
returns g c = λ found f p n m.
    let masks = c.args.masks.now.items in
    let before : c.mask_of.result ≡ slice_index masks c.args.pid = c.mask_of.ensures ∙ ap (λ (ms : List ℕ). slice_index ms c.args.pid) c.deref.ensures.value in
    bit_is_set masks found f c.args.pid c.args.number c.with_bit-mask.result c.requires.size c.requires.pid p n
    (subst (λ (mask : ℕ). SetsBit mask c.args.number c.with_bit-mask.result) before c.with_bit-mask.ensures) m
