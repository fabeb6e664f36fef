use Rattle.pid_findings.proofs.LeftOut.{section_left}
use Rattle.pid_findings.proofs.open_unit.OpenUnit.leave_out_body.Goals as goal

pub returns-in-Section : goal.returns-in-Section
returns-in-Section g c =
    let unit = c.self.inside in
    section_left c.args.self.now unit.packet unit.kind unit.access _ c.self.view_is c.in-Section.is
