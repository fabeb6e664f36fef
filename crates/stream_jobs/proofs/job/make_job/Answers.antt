use Rattle.std.proofs.Common.{rules, map}
use Rattle.stream_jobs.specs.Jobs.{AllAgree}
use Rattle.es_moments.specs.Merging.{AreMerged}
use Rattle.stream_jobs.proofs.JobUnits.{job_units}
use Rattle.stream_jobs.proofs.JoinedUnits.{joined_units}
use Rattle.stream_jobs.proofs.job.make_job.Goals as goal

pub returns-clause-units : goal.returns-clause-units
returns-clause-units c made findings streams =
    let agree : AllAgree c.args.options.now.clock c.in_ok-planned.planned.plan.description c.args.input = search rules in
    let merged : AreMerged (map (λ t. t.units) c.args.input.streams) c.in_ok-units.units.items = search rules in
    job_units made findings c.in_ok-planned.planned.plan.description c.args.input c.in_ok-units.units.items streams.moved streams.fits agree merged

pub returns-clause-units_in : goal.returns-clause-units_in
returns-clause-units_in c made inputs origins found fits =
    let agree : AllAgree c.args.options.now.clock c.in_ok-planned.planned.plan.description c.args.input = search rules in
    let merged : AreMerged (map (λ t. t.units) c.args.input.streams) c.in_ok-units.units.items = search rules in
    joined_units made inputs origins c.in_ok-planned.planned.plan.description c.args.input c.in_ok-units.units.items found fits agree merged
