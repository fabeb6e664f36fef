use Rattle.devices.specs.declared.files.FileFault.TheVariants as faults
use Rattle.devices.proofs.SavedFiles.{reports_uncreated}
use Rattle.devices.proofs.saving.report_uncreated.Goals as goal

pub returns-in-Missing-clause-reports_text : goal.returns-in-Missing-clause-reports_text
returns-in-Missing-clause-reports_text g c = reports_uncreated c.args.name.now c.args.fault faults.Missing _ c.in-Missing.is c.report_of.ensures

pub returns-in-Denied-clause-reports_text : goal.returns-in-Denied-clause-reports_text
returns-in-Denied-clause-reports_text g c =
    reports_uncreated c.args.name.now c.args.fault faults.Denied _ c.in-Denied.is c.report_of-in-Denied.ensures

pub returns-in-Folder-clause-reports_text : goal.returns-in-Folder-clause-reports_text
returns-in-Folder-clause-reports_text g c =
    reports_uncreated c.args.name.now c.args.fault faults.Folder _ c.in-Folder.is c.report_of-in-Folder.ensures
