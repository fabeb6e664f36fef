use Rattle.std.proofs.Common.{◌≡◌, ◌==◌, ◌∙◌, ℕ, List, slice_index, ap, ap₂}
use Rattle.std.specs.Int.{bit_at}
use Rattle.packet_sync.specs.Fields.{number_of}
use Rattle.packet_sync.specs.FieldsLeftOut.{has_field}
use Rattle.packet_sync.specs.declared.left_out.FieldLeftOut.{FieldLeftOut}
use Rattle.packet_sync.proofs.noted_fields.NotedFields.has.Goals as goal

pub returns : goal.returns
returns g c =
    let pid = c.args.pid in
    let number = number_of c.args.field in
    let mask : c.mask_of.result ≡ slice_index c.self.inside.masks.items pid =
    c.mask_of.ensures ∙ ap (λ (masks : List ℕ). slice_index masks pid) c.deref.ensures.value in
    c.is_set.ensures
    ∙ ap₂ (λ (m n : ℕ). bit_at m n == 1) mask c.number.ensures.value
    ∙ c.self.invariant.each pid number c.requires
    ∙ ap (λ (found : List FieldLeftOut). has_field found pid number) c.self.view_is
