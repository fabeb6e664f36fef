use Rattle.checked_jobs.proofs.JobTaking.{fault_concluded, plans_concluded}
use Rattle.checked_jobs.proofs.job_taker.JobTaker.finish.Goals as goal

pub returns-in-Plans : goal.returns-in-Plans
returns-in-Plans g c switch bytes t =
    plans_concluded (g.T.RestTaker.has_taken c.args.self.rest) switch c.args.self.switch bytes c.args.self.text.items c.args.self.state c.in-Plans.plans
    c.in-Plans.is t

pub returns-in-Fault : goal.returns-in-Fault
returns-in-Fault g c switch bytes t =
    fault_concluded (g.T.RestTaker.has_taken c.args.self.rest) switch c.args.self.switch bytes c.args.self.text.items c.args.self.state c.in-Fault.fault
    c.in-Fault.is t
