use Rattle.laws_view.proofs.Rings.{ring_rows}
use Rattle.laws_view.proofs.KeptTraces.{kept_rows, both_buffers}
use Rattle.laws_view.proofs.trace_laws.kept.Goals as goal

pub returns-clause-last : goal.returns-clause-last
returns-clause-last c = ring_rows

pub returns-clause-around : goal.returns-clause-around
returns-clause-around c = kept_rows

pub returns-clause-both : goal.returns-clause-both
returns-clause-both c = both_buffers
