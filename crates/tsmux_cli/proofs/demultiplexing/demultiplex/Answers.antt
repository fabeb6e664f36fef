use Rattle.std.proofs.Common.{◌≡◌, ◌∙◌, Bool, true, false, refl, sym, ap}
use Rattle.std.specs.Prelude.{if◌then◌else◌}
use Rattle.tsmux_cli.specs.FindingLines.{finding_lines, has_fault}
use Rattle.tsmux_cli.specs.Demultiplexing.{Demultiplexes, demultiplexed, findings_of}
use Rattle.devices.proofs.Performances.{reports_none, text_unwritten, text_written, unread}
use Rattle.tsmux_cli.proofs.demultiplexing.demultiplex.Goals as goal

pub returns-in-Err : goal.returns-in-Err
returns-in-Err g c = unread Demultiplexes _ _ _ _ c.in-Err.halt c.in-Err.ensures.err refl c.report_halt.ensures.reports c.report_halt.ensures.status

pub returns-then-faulty : goal.returns-then-faulty
unfolding demultiplexed
returns-then-faulty g c =
    let bytes = c.in-Ok.ensures.ok.bytes in
    let text : c.deref.result.now ≡ finding_lines (findings_of bytes) = c.deref.ensures.value ∙ c.in-Ok.ensures.ok.lines_are in
    let fault : has_fault (findings_of bytes) ≡ true = sym c.in-Ok.ensures.ok.faults ∙ c.if-faulty.true in
    text_written Demultiplexes bytes c.deref.result.now (demultiplexed bytes) _ _ _ _ c.in-Ok.ensures.ok.read refl text
    c.in-Ok-write_bytes.ensures.0 c.in-Ok-write_bytes.ensures.1 (reports_none _ refl)
    (sym (ap (λ (b : Bool). if b then 1 else 0) fault))

pub returns-in-Ok-write_bytes : goal.returns-in-Ok-write_bytes
unfolding demultiplexed
returns-in-Ok-write_bytes g c =
    let bytes = c.in-Ok.ensures.ok.bytes in
    let text : c.deref.result.now ≡ finding_lines (findings_of bytes) = c.deref.ensures.value ∙ c.in-Ok.ensures.ok.lines_are in
    let fault : has_fault (findings_of bytes) ≡ false = sym c.in-Ok.ensures.ok.faults ∙ c.if-faulty.false in
    text_written Demultiplexes bytes c.deref.result.now (demultiplexed bytes) _ _ _ _ c.in-Ok.ensures.ok.read refl text
    c.in-Ok-write_bytes.ensures.0 c.in-Ok-write_bytes.ensures.1 (reports_none _ refl)
    (sym (ap (λ (b : Bool). if b then 1 else 0) fault))

pub returns : goal.returns
unfolding demultiplexed
returns g c =
    let bytes = c.in-Ok.ensures.ok.bytes in
    let text : c.deref.result.now ≡ finding_lines (findings_of bytes) = c.deref.ensures.value ∙ c.in-Ok.ensures.ok.lines_are in
    text_unwritten (Unit {0}) Demultiplexes bytes c.deref.result.now (demultiplexed bytes) _ _ _ _ c.in-Err-write_bytes.halt c.in-Ok.ensures.ok.read refl text
    c.in-Err-write_bytes.ensures c.report_halt-in-Err-write_bytes.ensures.reports c.report_halt-in-Err-write_bytes.ensures.status
