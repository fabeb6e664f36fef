use Rattle.laws_view.proofs.SectionFaults.{crc_law, section_law}
use Rattle.laws_view.proofs.monitor_laws.sections.Goals as goal

pub returns-clause-crc : goal.returns-clause-crc
returns-clause-crc c = crc_law

pub returns-clause-section : goal.returns-clause-section
returns-clause-section c = section_law
