use Rattle.laws_view.proofs.StampedLeads.{lead_law}
use Rattle.laws_view.proofs.StampedPackets.{once_law, rise_law}
use Rattle.laws_view.proofs.arrival_laws.stamps_rise.Goals as goal

pub returns-clause-once : goal.returns-clause-once
returns-clause-once c = once_law

pub returns-clause-rises : goal.returns-clause-rises
returns-clause-rises c = rise_law

pub returns-clause-leads : goal.returns-clause-leads
returns-clause-leads c = lead_law
