use Rattle.std.proofs.Common.{inr, sym, ◌∙◌}
use Rattle.toml.specs.View.{view}
use Rattle.description.proofs.Read.{is_described, is_refused, is_in_range}
use Rattle.description.proofs.reading.read_document.Goals as goal

pub invariant_of-result : goal.invariant_of-result
invariant_of-result c =
    is_in_range (view c.args.document.now) c.in-Ok.contents (sym c.key_fault.ensures ∙ c.in_default.is) c.in-Ok.ensures
    (sym c.joint_fault.ensures ∙ c.in-None.is)

pub returns-in-Some-joint_fault : goal.returns-in-Some-joint_fault
returns-in-Some-joint_fault c =
    inr (is_refused (view c.args.document.now) c.in-Ok.contents c.in-Some-joint_fault.fault (sym c.key_fault.ensures ∙ c.in_default.is) c.in-Ok.ensures
    (sym c.joint_fault.ensures ∙ c.in-Some-joint_fault.is))

pub returns-in-None : goal.returns-in-None
returns-in-None c =
    inr (is_described (view c.args.document.now) c.in-Ok.contents (sym c.key_fault.ensures ∙ c.in_default.is) c.in-Ok.ensures
    (sym c.joint_fault.ensures ∙ c.in-None.is))
