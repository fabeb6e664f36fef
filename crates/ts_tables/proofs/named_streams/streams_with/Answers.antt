use Rattle.std.proofs.Common.{◌∙◌, Global, ap, subst, map, List}
use Rattle.pid_findings.specs.Shown.{finding_view}
use Rattle.pid_findings.specs.Views.{FindingView}
use Rattle.ts_tables.specs.Mapped.{AreTables}
use Rattle.ts_tables.specs.NamedStreams.{streams_at}
use Rattle.ts_tables.proofs.MappedPrograms.{first_part, taken}
use Rattle.ts_tables.proofs.named_streams.streams_with.Goals as goal

pub take-requires : goal.take-requires
take-requires c =
    let part = first_part (finding_view {A = Global}) c.args.demux.now c.push.new.self c.args.bytes.now c.findings-before.result.now
    c.findings-findings.result.now
    c.args.tables.now c.args.mapped.now c.in-Ok.ensures.ok c.findings-before.ensures.found c.findings-findings.ensures.found c.requires in
    record { within = part.within; known = part.known }

pub mapped_programs-requires : goal.mapped_programs-requires
mapped_programs-requires c =
    let part = first_part (finding_view {A = Global}) c.args.demux.now c.push.new.self c.args.bytes.now c.findings-before.result.now
    c.findings-findings.result.now
    c.args.tables.now c.args.mapped.now c.in-Ok.ensures.ok c.findings-before.ensures.found c.findings-findings.ensures.found c.requires in
    taken c.take.new.self (map (finding_view {A = Global}) c.findings-findings.result.now) c.args.mapped.now c.in_ok-take.ensures part.still part.have

pub returns : goal.returns
returns c = record {
  demux = c.in-Ok.ensures.ok;
  tables = subst (λ (found : List FindingView). AreTables c.take.new.self found c.mapped_programs.result) c.findings-findings.ensures.found
      c.mapped_programs.ensures.tables;
  streams = c.in_ok-found.ensures ∙ ap (streams_at c.args.last) c.findings-findings.ensures.found;
}
