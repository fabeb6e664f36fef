use Rattle.laws_view.proofs.Leads.{lead_law}
use Rattle.laws_view.proofs.TimedPackets.{each_once, rises_law}
use Rattle.laws_view.proofs.arrival_laws.arrivals_rise.Goals as goal

pub returns-clause-once : goal.returns-clause-once
returns-clause-once c = each_once

pub returns-clause-rises : goal.returns-clause-rises
returns-clause-rises c = rises_law

pub returns-clause-leads : goal.returns-clause-leads
returns-clause-leads c = lead_law
