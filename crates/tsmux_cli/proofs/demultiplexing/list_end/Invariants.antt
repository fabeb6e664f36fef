use Rattle.std.proofs.Common.{◌++◌}
use Rattle.tsmux_cli.specs.Demultiplexing.{found_at_end}
use Rattle.tsmux_cli.specs.FindingLines.{finding_lines, has_fault}
use Rattle.tsmux_cli.proofs.HeaderLines.{AtEnd}
use Rattle.tsmux_cli.proofs.demultiplexing.list_end.Given as goal

abbrev pub invariant-loop-i : goal.invariant-loop-i
invariant-loop-i l =
    AtEnd l.demux.packets l.i l.demux.states l.text.items (l.fn.text.items ++ finding_lines (found_at_end l.demux)) l.faulty (has_fault (found_at_end l.demux))
