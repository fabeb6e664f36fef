use Rattle.std.proofs.Common.{arith, subst}
use Rattle.pes_packet.specs.Units.{units_of}
use Rattle.mux_core.specs.Histories.{bytes_of}
use Rattle.mux_core.specs.Scheduled.{Scheduled}
use Rattle.mux_core.specs.Headline.{Headline}
use Rattle.mux_core.specs.MeasuredRuns.{MeasuresWell}
use Rattle.mux_core.specs.WholeJobs.{plan_schedule, slots_cause, job_history, OnWriting}
use Rattle.mux_core.proofs.JobDone.{early_is, many_slots, few_slots, refuses_as}
use Rattle.mux_core.proofs.multiplexing.multiplex_as.Goals as goal

pub returns-then-slots-gt-MAX_SLOTS-clause-refused : goal.returns-then-slots-gt-MAX_SLOTS-clause-refused
returns-then-slots-gt-MAX_SLOTS-clause-refused g c =
    early_is (slots_cause c.args.slots) (plan_schedule c.args.plan) c.args.units.items _ (many_slots c.args.slots (omega (arith, c.if-slots-gt-MAX_SLOTS.true)))

pub returns-in_default-clause-refused : goal.returns-in_default-clause-refused
returns-in_default-clause-refused g c = few_slots c.args.slots (omega (arith, c.if-slots-gt-MAX_SLOTS.false))

pub returns-clause-refused : goal.returns-clause-refused
returns-clause-refused g c =
    refuses_as (slots_cause c.args.slots) c.in-Ok.mux.schedule (plan_schedule c.args.plan) c.args.units.items c.write_job-written.result
    (few_slots c.args.slots (omega (arith, c.if-slots-gt-MAX_SLOTS.false))) c.in-Ok.ensures.schedule c.write_job-written.ensures.refused

pub returns-clause-headline : goal.returns-clause-headline
returns-clause-headline g c =
    subst (λ (d : Scheduled). OnWriting c.write_job-written.result
    (Headline d (λ k. units_of k c.args.units.items) c.args.slots (bytes_of d (job_history c.args.units.items c.args.slots))))
    c.in-Ok.ensures.schedule c.write_job-written.ensures.headline

pub returns-clause-measured : goal.returns-clause-measured
returns-clause-measured g c =
    subst (λ (d : Scheduled). OnWriting c.write_job-written.result
    (MeasuresWell d c.args.units.items (bytes_of d (job_history c.args.units.items c.args.slots))))
    c.in-Ok.ensures.schedule c.write_job-written.ensures.measured
