use Rattle.std.proofs.Common.{sym, ap, ◌∙◌, map, length}
use Rattle.toml.specs.View.{view}
use Rattle.description_parts.specs.Contents.{described, described_program, described_stream, described_table}
use Rattle.description_parts.proofs.Counts.{no_fault, has_counts, counts_of}
use Rattle.description_parts.proofs.building.contents_of.Goals as goal

pub invariant_of-result : goal.invariant_of-result
invariant_of-result c =
    let document = view c.args.document.now in
    counts_of (described document) _
    (ap length (sym (c.in_ok-programs.ensures ∙ ap (map (described_program document)) c.elements.ensures)))
    (sym (c.in_ok-streams.ensures ∙ ap (map described_stream) c.elements-2.ensures))
    (sym (c.in_ok-tables.ensures ∙ ap (map described_table) c.elements-3.ensures))
    (has_counts document (no_fault document c.requires))
