use Rattle.std.proofs.Common.{arith, rules, subst, length, ◌∙◌}
use Rattle.pes_packet.specs.Units.{units_of}
use Rattle.mux_core.specs.Histories.{bytes_of}
use Rattle.mux_core.specs.Scheduled.{Scheduled}
use Rattle.mux_core.specs.Headline.{Headline}
use Rattle.mux_core.specs.MeasuredRuns.{MeasuresWell}
use Rattle.mux_core.specs.WholeJobs.{switch_schedule, or_cause, slots_cause, periods_cause, job_history, OnWriting}
use Rattle.mux_core.proofs.JobDone.{early_is, early_first, early_next, wrong_periods, right_periods, refuses_as}
use Rattle.mux_core.proofs.multiplexing.multiplex_switch_as.Goals as goal

pub returns-then-slots-gt-MAX_SLOTS-clause-refused : goal.returns-then-slots-gt-MAX_SLOTS-clause-refused
returns-then-slots-gt-MAX_SLOTS-clause-refused g c =
    early_is (or_cause (slots_cause c.args.slots) (periods_cause (length c.args.switch.first.plan.slots) c.args.periods))
    (switch_schedule c.args.switch c.args.periods) c.args.units.items _
    (early_first c.args.slots _ (omega (arith, c.if-slots-gt-MAX_SLOTS.true)))

pub returns-then-not-is_periods-clause-refused : goal.returns-then-not-is_periods-clause-refused
returns-then-not-is_periods-clause-refused g c =
    early_is (or_cause (slots_cause c.args.slots) (periods_cause (length c.args.switch.first.plan.slots) c.args.periods))
    (switch_schedule c.args.switch c.args.periods) c.args.units.items _
    (early_next c.args.slots _ (omega (arith, c.if-slots-gt-MAX_SLOTS.false))
    ∙ wrong_periods (length c.args.switch.first.plan.slots) c.args.periods (search rules))

pub returns-in_default-clause-refused : goal.returns-in_default-clause-refused
returns-in_default-clause-refused g c =
    early_next c.args.slots _ (omega (arith, c.if-slots-gt-MAX_SLOTS.false))
    ∙ right_periods (length c.args.switch.first.plan.slots) c.args.periods (search rules)

pub returns-clause-refused : goal.returns-clause-refused
returns-clause-refused g c =
    refuses_as (or_cause (slots_cause c.args.slots) (periods_cause (length c.args.switch.first.plan.slots) c.args.periods)) c.in-Ok.mux.schedule
    (switch_schedule c.args.switch c.args.periods) c.args.units.items
    c.write_job-written.result
    (early_next c.args.slots _ (omega (arith, c.if-slots-gt-MAX_SLOTS.false))
    ∙ right_periods (length c.args.switch.first.plan.slots) c.args.periods (search rules))
    c.in-Ok.ensures.schedule c.write_job-written.ensures.refused

pub returns-clause-headline : goal.returns-clause-headline
returns-clause-headline g c =
    subst (λ (d : Scheduled). OnWriting c.write_job-written.result
    (Headline d (λ k. units_of k c.args.units.items) c.args.slots (bytes_of d (job_history c.args.units.items c.args.slots))))
    c.in-Ok.ensures.schedule c.write_job-written.ensures.headline

pub returns-clause-measured : goal.returns-clause-measured
returns-clause-measured g c =
    subst (λ (d : Scheduled). OnWriting c.write_job-written.result
    (MeasuresWell d c.args.units.items (bytes_of d (job_history c.args.units.items c.args.slots))))
    c.in-Ok.ensures.schedule c.write_job-written.ensures.measured
