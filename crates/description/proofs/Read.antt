-- The result of reading a document, by its refusals.
use Rattle.std.proofs.Common.{◌≡◌, Option, None, Some, Result, Ok, Err, refl, ap, sym, subst, ◌∙◌}
use Rattle.std.specs.Option.{option_or}
use Rattle.toml.specs.Data.{Data}
use Rattle.description_parts.specs.Described.{Described}
use Rattle.description_parts.specs.Contents.{described}
use Rattle.description_keys.specs.Refusals.{key_fault}
use Rattle.description_parts.specs.Ranges.{IsInRange}
use Rattle.description_parts.specs.Consistency.{joint_fault}
use Rattle.description.specs.Reading.{fault, read_document}
use Rattle.description_keys.specs.declared.fault.DescFault.{DescFault}
use Rattle.description_keys.specs.declared.fault.DescError.{DescError}
use Rattle.description_keys.specs.declared.fault.DescError.TheVariants.{Refused}
use Rattle.description_parts.proofs.WholeInRange.{described-in_range}

second : (a b : Option DescFault) → a ≡ None → option_or a b ≡ b
second None b h = refl
second (Some x) b h = absurd (cc)

decided : (d : Described) (o p : Option DescFault) → o ≡ p
    → (elim o as (λ _. Result Described DescError) [ None ↦ Ok d | Some f ↦ Err (Refused f) ])
    ≡ (elim p as (λ _. Result Described DescError) [ None ↦ Ok d | Some f ↦ Err (Refused f) ])
decided d o p h = ap (λ (q : Option DescFault). elim q as (λ _. Result Described DescError) [ None ↦ Ok d | Some f ↦ Err (Refused f) ]) h

abbrev ok : Described → Result Described DescError
ok d = Ok d

-- If no fault is found, the result is the contents that the document describes.
pub is_described : (document : Data) (contents : Described) → key_fault document ≡ None → contents ≡ described document
    → joint_fault contents document ≡ None → Ok contents ≡ read_document document
is_described document contents keys is joint =
    let joint_too : joint_fault (described document) document ≡ None = sym (ap (λ (d : Described). joint_fault d document) is) ∙ joint in
    ap ok is ∙ sym
    (decided (described document) (fault document) None (second (key_fault document) (joint_fault (described document) document) keys ∙ joint_too))

pub is_refused : (document : Data) (contents : Described) (f : DescFault) → key_fault document ≡ None → contents ≡ described document
    → joint_fault contents document ≡ Some f → Err (Refused f) ≡ read_document document
is_refused document contents f keys is joint =
    let joint_too : joint_fault (described document) document ≡ Some f = sym (ap (λ (d : Described). joint_fault d document) is) ∙ joint in
    sym (decided (described document) (fault document) (Some f) (second (key_fault document) (joint_fault (described document) document) keys ∙ joint_too))

pub is_in_range : (document : Data) (contents : Described) → key_fault document ≡ None → contents ≡ described document
    → joint_fault contents document ≡ None → IsInRange contents
is_in_range document contents keys is joint =
    let joint_too : joint_fault (described document) document ≡ None = sym (ap (λ (d : Described). joint_fault d document) is) ∙ joint in
    subst (λ (d : Described). IsInRange d) (sym is) (described-in_range document keys joint_too)
