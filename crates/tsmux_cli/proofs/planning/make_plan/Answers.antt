use Rattle.std.proofs.Common.{[], refl, string_bytes}
use Rattle.std.specs.Prelude.{codes}
use Rattle.devices.specs.Lines.{line_text}
use Rattle.devices.specs.Outcomes.{printed}
use Rattle.tsmux_cli.specs.Planning.{MakesPlan}
use Rattle.devices.proofs.Performances.{text_unwritten, performed, reports_none, reported_only}
use Rattle.tsmux_cli.proofs.PlanOutcomes.{given_plan, no_plan, not_described}
use Rattle.tsmux_cli.proofs.planning.make_plan.Goals as goal

pub returns-in-Err-read_description : goal.returns-in-Err-read_description
returns-in-Err-read_description g c =
    not_described c.in-Ok.bytes.items c.deref.result.now c.in-Err-read_description.error _ _ _ _ c.deref.ensures.value c.in-Err-read_description.ensures
    c.in-Ok.ensures refl c.report_unread.ensures

pub returns-in-Ok-write_text : goal.returns-in-Ok-write_text
returns-in-Ok-write_text g c =
    let text = string_bytes c.in-Ok-text_for.text in
    let written = rw c.deref-in-Ok-text_for.ensures at c.in-Ok-write_text.ensures.0 in
    performed MakesPlan c.in-Ok.bytes.items (printed text 0) _ _ _ _ c.in-Ok.ensures
    (given_plan c.in-Ok.bytes.items c.deref.result.now text c.in-Ok-read_description.description c.deref.ensures.value c.in-Ok-read_description.ensures
    c.in-Ok-text_for.ensures.text)
    written c.in-Ok-write_text.ensures.1 (reports_none _ refl) refl

pub returns-in-Ok-text_for : goal.returns-in-Ok-text_for
returns-in-Ok-text_for g c =
    let text = string_bytes c.in-Ok-text_for.text in
    text_unwritten (Unit {0}) MakesPlan c.in-Ok.bytes.items c.deref-in-Ok-text_for.result.now (printed text 0) _ _ _ _ c.in-Err-write_text.halt c.in-Ok.ensures
    (given_plan c.in-Ok.bytes.items c.deref.result.now text c.in-Ok-read_description.description c.deref.ensures.value c.in-Ok-read_description.ensures
    c.in-Ok-text_for.ensures.text)
    c.deref-in-Ok-text_for.ensures c.in-Err-write_text.ensures c.report_halt-in-Err-write_text.ensures.reports c.report_halt-in-Err-write_text.ensures.status

pub returns-in-Err-NotFound : goal.returns-in-Err-NotFound
returns-in-Err-NotFound g c =
    reported_only MakesPlan c.in-Ok.bytes.items (line_text (codes "no plan") []) _ _ _ _ c.in-Ok.ensures
    (no_plan c.in-Ok.bytes.items c.deref.result.now c.in-Ok-read_description.description c.deref.ensures.value c.in-Ok-read_description.ensures
    (c.in-Err-NotFound.ensures.none c.in-Err-NotFound.field-0-is)) refl c.report_refusal.ensures.report c.report_refusal.ensures.status
