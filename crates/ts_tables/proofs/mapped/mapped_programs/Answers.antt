use Rattle.std.proofs.Common.{Global, map}
use Rattle.pid_findings.specs.Shown.{finding_view}
use Rattle.ts_tables.proofs.MappedPrograms.{mapped_are, named_are}
use Rattle.ts_tables.proofs.mapped.mapped_programs.Goals as goal

pub mapped_from-requires : goal.mapped_from-requires
mapped_from-requires c =
    let are = named_are c.args.tables.now (map (finding_view {A = Global}) c.args.findings.now) c.programs.result.now c.args.place c.programs.ensures
    c.requires in
    record { known = are.known; within = are.within; before = are.before }

pub returns : goal.returns
returns c =
    let all = mapped_are c.args.tables.now (map (finding_view {A = Global}) c.args.findings.now) c.programs.result.now c.mapped_from.result c.programs.ensures
    c.requires.known c.mapped_from.ensures in
    record { tables = all.are; all = all.all }
