use Rattle.event_lines.proofs.TextParts.{on_ok, three}
use Rattle.event_lines.proofs.summary_lines.write_check.Goals as goal

pub returns : goal.returns
returns c = on_ok c.write_result.result (λ e. three _ _ _ _ _ _ _ c.in_ok-write_first.ensures c.in_ok-write_check_name.ensures e) c.write_result.ensures
