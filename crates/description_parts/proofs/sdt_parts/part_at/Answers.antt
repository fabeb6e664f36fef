use Rattle.std.proofs.Common.{sym, ◌∙◌}
use Rattle.description_parts.proofs.SdtParts.{part_none, part_some}
use Rattle.description_parts.proofs.sdt_parts.part_at.Goals as goal

pub returns-in-None-clause-value : goal.returns-in-None-clause-value
returns-in-None-clause-value c =
    part_none c.args.programs.now c.as_slice.result.now c.args.part (c.as_slice.ensures.value ∙ c.service_lengths-lengths.ensures)
    (sym c.in-None.is ∙ c.places_at.ensures.value)

pub returns-in-Some-clause-value : goal.returns-in-Some-clause-value
returns-in-Some-clause-value c =
    part_some c.args.programs.now c.as_slice.result.now c.args.part c.in-Some.begin c.in-Some.end
    (c.as_slice.ensures.value ∙ c.service_lengths-lengths.ensures) (sym c.in-Some.is ∙ c.places_at.ensures.value)
