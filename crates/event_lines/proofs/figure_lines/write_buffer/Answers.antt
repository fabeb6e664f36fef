use Rattle.event_lines.proofs.TextParts.{four, on_ok}
use Rattle.event_lines.proofs.figure_lines.write_buffer.Goals as goal

pub returns : goal.returns
returns c =
    on_ok c.write_number_if-3.result
    (λ e. four _ _ _ _ _ _ _ _ _ c.in_ok-write_bytes.ensures c.in_ok-write_number_if.ensures c.in_ok-write_number_if-2.ensures e)
    c.write_number_if-3.ensures
