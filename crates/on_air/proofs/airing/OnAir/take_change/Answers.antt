use Rattle.std.proofs.Common.{ap, sym, true, false, ◌∙◌}
use Rattle.pes_packet.specs.AccessUnits.{AccessUnit}
use Rattle.on_air.specs.LineUps.{has_plan}
use Rattle.on_air.proofs.TextsOn.{brings_by}
use Rattle.on_air.proofs.airing.OnAir.take_change.Goals as goal

pub returns-then-has_plan-clause-takes : goal.returns-then-has_plan-clause-takes
returns-then-has_plan-clause-takes g c = λ run a start h t.
    let bytes = c.deref.ensures.value ∙ ap (λ (u : AccessUnit). u.bytes) c.unit.view_is in
    let plan = sym c.if-has_plan.true ∙ c.has_plan.ensures ∙ ap has_plan bytes in
    c.take_line_up.ensures.takes run a start h
    (record { line_up = (brings_by run (c.args.stream, c.args.unit) true t.changes plan).0; unit = t.unit; near = t.near })

pub returns-else-has_plan-clause-takes : goal.returns-else-has_plan-clause-takes
returns-else-has_plan-clause-takes g c = λ run a start h t.
    let bytes = c.deref.ensures.value ∙ ap (λ (u : AccessUnit). u.bytes) c.unit.view_is in
    let plan = sym c.if-has_plan.false ∙ c.has_plan.ensures ∙ ap has_plan bytes in
    c.take_texts.ensures.takes run a start h
    (record { texts = (brings_by run (c.args.stream, c.args.unit) false t.changes plan).1; unit = t.unit; near = t.near })
