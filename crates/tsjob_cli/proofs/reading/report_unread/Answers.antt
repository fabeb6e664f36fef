use Rattle.devices.specs.declared.halt.Halt.TheVariants as halt
use Rattle.tsjob_cli.proofs.NamedFiles.{reports_unread}
use Rattle.tsjob_cli.proofs.reading.report_unread.Goals as goal

pub returns-in-Read-clause-reports_text : goal.returns-in-Read-clause-reports_text
returns-in-Read-clause-reports_text g c = reports_unread c.args.name.now c.args.halt halt.Read _ c.in-Read.is c.report_of.ensures

pub returns-in-Write-clause-reports_text : goal.returns-in-Write-clause-reports_text
returns-in-Write-clause-reports_text g c = reports_unread c.args.name.now c.args.halt halt.Write _ c.in-Write.is c.report_of-in-Write.ensures
