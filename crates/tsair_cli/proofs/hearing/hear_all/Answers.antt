use Rattle.std.proofs.Common.{ℕ, Bool, Ok, Err, refl, subst, sym, ap, ◌∙◌, ◌||◌}
use Rattle.std.specs.Prelude.{option_map}
use Rattle.counted_io.specs.Device.{Failed}
use Rattle.devices.specs.Devices.{Device, Port, between}
use Rattle.on_air.specs.Airing.{silence}
use Rattle.on_air.specs.declared.answers.Heard.TheVariants.{Ended}
use Rattle.on_air.proofs.HeardRecords.{names_same}
use Rattle.tsair_cli.specs.States.{saving_of}
use Rattle.tsair_cli.proofs.HeardRecords.{ends, fails, first, follow_fails, next, next_change, next_line_up, stops}
use Rattle.tsair_cli.proofs.hearing.hear_all.Goals as goal

pub records-init : goal.records-init
records-init g c = record {
  reads = refl;
  writes = refl;
  stops = λ on. refl;
  known = λ run start h.
      first (saving_of (g.F.OutputFiles.creates c.args.files.now) (g.F.OutputFiles.keeps c.args.files.now) (option_map (λ s. s.now) c.args.asked.state)) run
      (g.R.Read.remaining c.args.input.now) start (g.W.Write.contents c.args.output.now)
      (record { bytes = g.E.Write.contents c.args.faults.now; failed = g.E.Sink.fault_count c.args.faults.now })
      (record { bytes = g.E.Write.contents c.save_state-has_lost.new.faults; failed = g.E.Sink.fault_count c.save_state-has_lost.new.faults })
      c.texts-first.result.now c.save_state-has_lost.result c.none-repeats.result (option_map (λ v. v.items) c.limits_now-limits.result) c.args.on_air.now h
      (c.texts-first.ensures run silence start (g.W.Write.contents c.args.output.now) h) c.save_state-has_lost.ensures c.none-repeats.ensures
      c.limits_now-limits.ensures;
}

pub records-preserved-else-asked : goal.records-preserved-else-asked
records-preserved-else-asked g c =
    let clean = rw c.in-Ok-Refused.field-0-is at c.in-Ok-Refused.ensures.fault in
    record {
      reads = clean.0 ∙ c.records.invariant.reads;
      writes = c.in-Ok.ensures.clean ∙ clean.1 ∙ c.records.invariant.writes;
      stops = λ on. sym on ∙ c.if-asked.false;
      known = λ run start h.
          let m = c.records.invariant.known run start h in
          next (saving_of (g.F.OutputFiles.creates c.args.files.now) (g.F.OutputFiles.keeps c.args.files.now) (option_map (λ s. s.now) c.args.asked.state)) run (g.R.Read.remaining c.args.input.now) (g.R.Read.remaining c.records.input) (g.R.Read.remaining c.hear_on.new.input) start
          (g.W.Write.contents c.records.output) (g.W.Write.contents c.hear_on.new.to) (g.W.Write.contents c.follow.new.to)
          (record { bytes = g.E.Write.contents c.args.faults.now; failed = g.E.Sink.fault_count c.args.faults.now })
          (record { bytes = g.E.Write.contents c.records.faults; failed = g.E.Sink.fault_count c.records.faults })
          (record { bytes = g.E.Write.contents c.report_unlike.new.faults; failed = g.E.Sink.fault_count c.report_unlike.new.faults })
          c.records.has_refused c.records.has_lost c.records.repeats c.with-repeats.result (option_map (λ v. v.items) c.records.limits) c.records.on_air c.hear_on.new.self c.follow.new.self c.in-Ok-Refused.index
          c.in-Ok-Refused.cause m (rw c.in-Ok-Refused.field-0-is at
          (c.in-Ok-Refused.ensures.heard run m.airs.heard_is.count m.airs.came (g.R.Read.remaining c.args.input.now) start m.state
          m.airs.heard_is.heard_is))
          (λ r a on. c.in-Ok.ensures.ok r a start on)
          (λ d are. record { none = c.report_unlike.ensures.none; both = c.report_unlike.ensures.lines d are }) c.with-repeats.ensures;
    }

pub records-preserved-in-Ok-Changed : goal.records-preserved-in-Ok-Changed
records-preserved-in-Ok-Changed g c =
    let clean = rw c.in-Ok-Changed.field-0-is at c.in-Ok-Changed.ensures.fault in
    record {
      reads = clean.0 ∙ c.records.invariant.reads;
      writes = clean.1 ∙ c.records.invariant.writes;
      stops = c.records.invariant.stops;
      known = λ run start h.
          let m = c.records.invariant.known run start h in
          next_change (saving_of (g.F.OutputFiles.creates c.args.files.now) (g.F.OutputFiles.keeps c.args.files.now) (option_map (λ s. s.now) c.args.asked.state)) run (g.R.Read.remaining c.args.input.now) (g.R.Read.remaining c.records.input) (g.R.Read.remaining c.hear_on.new.input) start
          (g.W.Write.contents c.records.output) (g.W.Write.contents c.hear_on.new.to)
          (record { bytes = g.E.Write.contents c.args.faults.now; failed = g.E.Sink.fault_count c.args.faults.now })
          (record { bytes = g.E.Write.contents c.records.faults; failed = g.E.Sink.fault_count c.records.faults })
          (record { bytes = g.E.Write.contents c.report_change-is_lost.new.faults; failed = g.E.Sink.fault_count c.report_change-is_lost.new.faults })
          c.records.has_refused c.records.has_lost c.records.repeats (option_map (λ v. v.items) c.records.limits) (option_map (λ v. v.items) c.limits_now-limits-in-Ok-Changed.result) c.records.on_air c.hear_on.new.self
          c.in-Ok-Changed.index c.in-Ok-Changed.slot c.texts-texts.result.now c.report_change-is_lost.result _ m
          (rw c.in-Ok-Changed.field-0-is at
          (c.in-Ok-Changed.ensures.heard run m.airs.heard_is.count m.airs.came (g.R.Read.remaining c.args.input.now) start m.state
          m.airs.heard_is.heard_is))
          (λ r a on. c.texts-texts.ensures r a start _ on) c.report_change-is_lost.ensures c.either-has_lost.ensures c.limits_now-limits-in-Ok-Changed.ensures;
    }

pub records-preserved-in-Ok-LinedUp : goal.records-preserved-in-Ok-LinedUp
records-preserved-in-Ok-LinedUp g c =
    let clean = rw c.in-Ok-LinedUp.field-0-is at c.in-Ok-LinedUp.ensures.fault in
    record {
      reads = clean.0 ∙ c.records.invariant.reads;
      writes = clean.1 ∙ c.records.invariant.writes;
      stops = c.records.invariant.stops;
      known = λ run start h.
          let m = c.records.invariant.known run start h in
          next_line_up (saving_of (g.F.OutputFiles.creates c.args.files.now) (g.F.OutputFiles.keeps c.args.files.now) (option_map (λ s. s.now) c.args.asked.state)) run (g.R.Read.remaining c.args.input.now) (g.R.Read.remaining c.records.input) (g.R.Read.remaining c.hear_on.new.input) start
          (g.W.Write.contents c.records.output) (g.W.Write.contents c.hear_on.new.to)
          (record { bytes = g.E.Write.contents c.args.faults.now; failed = g.E.Sink.fault_count c.args.faults.now })
          (record { bytes = g.E.Write.contents c.records.faults; failed = g.E.Sink.fault_count c.records.faults })
          (record { bytes = g.E.Write.contents c.report_change-is_gone.new.faults; failed = g.E.Sink.fault_count c.report_change-is_gone.new.faults })
          c.records.has_refused c.records.has_lost c.records.repeats (option_map (λ v. v.items) c.records.limits) (option_map (λ v. v.items) c.limits_now-limits-in-Ok-LinedUp.result) c.records.on_air c.hear_on.new.self
          c.in-Ok-LinedUp.index c.in-Ok-LinedUp.slot c.texts-begun.result.now c.report_change-is_gone.result _ m
          (rw c.in-Ok-LinedUp.field-0-is at
          (c.in-Ok-LinedUp.ensures.heard run m.airs.heard_is.count m.airs.came (g.R.Read.remaining c.args.input.now) start m.state
          m.airs.heard_is.heard_is))
          (λ r a on. c.texts-begun.ensures r a start _ on) c.report_change-is_gone.ensures c.either-has_lost-in-Ok-LinedUp.ensures c.limits_now-limits-in-Ok-LinedUp.ensures;
    }

pub returns-then-asked : goal.returns-then-asked
returns-then-asked g c = λ run start h.
    let clean = rw c.in-Ok-Refused.field-0-is at c.in-Ok-Refused.ensures.fault in
    let m = c.records.invariant.known run start h in
    let input : Device = between (record { bytes = g.R.Read.remaining c.args.input.now; failed = g.R.Source.fault_count c.args.input.now })
    (record { bytes = g.R.Read.remaining c.hear_on.new.input; failed = g.R.Source.fault_count c.hear_on.new.input }) in
    let output : Device = between (record { bytes = g.W.Write.contents c.args.output.now; failed = g.W.Sink.fault_count c.args.output.now })
    (record { bytes = g.W.Write.contents c.follow.new.to; failed = g.W.Sink.fault_count c.follow.new.to }) in
    let before : Port = record { bytes = g.E.Write.contents c.args.faults.now; failed = g.E.Sink.fault_count c.args.faults.now } in
    let said : Port = record { bytes = g.E.Write.contents c.report_unlike.new.faults; failed = g.E.Sink.fault_count c.report_unlike.new.faults } in
    let after : Port = record { bytes = g.E.Write.contents c.report_more.new.faults; failed = g.E.Sink.fault_count c.report_more.new.faults } in
    stops (saving_of (g.F.OutputFiles.creates c.args.files.now) (g.F.OutputFiles.keeps c.args.files.now) (option_map (λ s. s.now) c.args.asked.state)) run c.args.asked.options.stop (g.R.Read.remaining c.records.input) start (g.W.Write.contents c.records.output) (g.W.Write.contents c.hear_on.new.to) input output
    before
    (record { bytes = g.E.Write.contents c.records.faults; failed = g.E.Sink.fault_count c.records.faults }) said after
    c.records.has_refused c.records.has_lost c.records.repeats c.with-repeats.result (option_map (λ v. v.items) c.records.limits) c.records.on_air c.hear_on.new.self c.follow.new.self c.in-Ok-Refused.index c.in-Ok-Refused.cause m
    (rw c.in-Ok-Refused.field-0-is at
    (c.in-Ok-Refused.ensures.heard run m.airs.heard_is.count m.airs.came (g.R.Read.remaining c.args.input.now) start m.state m.airs.heard_is.heard_is))
    (λ r a on. c.in-Ok.ensures.ok r a start on)
    (λ d are. record { none = c.report_unlike.ensures.none; both = c.report_unlike.ensures.lines d are }) c.with-repeats.ensures c.report_more.ensures c.if-asked.true
    c.records.invariant.stops
    (clean.0 ∙ c.records.invariant.reads) (c.in-Ok.ensures.clean ∙ clean.1 ∙ c.records.invariant.writes)

pub returns-in-Err-follow : goal.returns-in-Err-follow
returns-in-Err-follow g c = λ run start h.
    let clean = rw c.in-Ok-Refused.field-0-is at c.in-Ok-Refused.ensures.fault in
    let m = c.records.invariant.known run start h in
    let input : Device = between (record { bytes = g.R.Read.remaining c.args.input.now; failed = g.R.Source.fault_count c.args.input.now })
    (record { bytes = g.R.Read.remaining c.hear_on.new.input; failed = g.R.Source.fault_count c.hear_on.new.input }) in
    let output : Device = between (record { bytes = g.W.Write.contents c.args.output.now; failed = g.W.Sink.fault_count c.args.output.now })
    (record { bytes = g.W.Write.contents c.follow.new.to; failed = g.W.Sink.fault_count c.follow.new.to }) in
    let before : Port = record { bytes = g.E.Write.contents c.args.faults.now; failed = g.E.Sink.fault_count c.args.faults.now } in
    let after : Port = record { bytes = g.E.Write.contents c.report_unlike.new.faults; failed = g.E.Sink.fault_count c.report_unlike.new.faults } in
    follow_fails (saving_of (g.F.OutputFiles.creates c.args.files.now) (g.F.OutputFiles.keeps c.args.files.now) (option_map (λ s. s.now) c.args.asked.state)) run c.args.asked.options.stop (g.R.Read.remaining c.records.input) start (g.W.Write.contents c.records.output) (g.W.Write.contents c.hear_on.new.to)
    input output before
    (record { bytes = g.E.Write.contents c.records.faults; failed = g.E.Sink.fault_count c.records.faults }) after
    c.records.has_refused c.records.has_lost c.records.repeats (option_map (λ v. v.items) c.records.limits) c.records.on_air c.hear_on.new.self c.in-Ok-Refused.index c.in-Ok-Refused.cause c.in-Err-follow.fault.sent m
    (rw c.in-Ok-Refused.field-0-is at
    (c.in-Ok-Refused.ensures.heard run m.airs.heard_is.count m.airs.came (g.R.Read.remaining c.args.input.now) start m.state m.airs.heard_is.heard_is))
    (λ r a on. c.in-Err-follow.ensures.err r a start on)
    (λ d are. record { none = c.report_unlike.ensures.none; both = c.report_unlike.ensures.lines d are }) c.records.invariant.stops
    (clean.0 ∙ c.records.invariant.reads)
    (subst (λ (n : ℕ). Failed n (g.W.Sink.fault_count c.follow.new.to)) (clean.1 ∙ c.records.invariant.writes) c.in-Err-follow.ensures.fault)

pub returns-in-Ok-Ended : goal.returns-in-Ok-Ended
returns-in-Ok-Ended g c = λ run start h.
    let m = c.records.invariant.known run start h in
    let input : Device = between (record { bytes = g.R.Read.remaining c.args.input.now; failed = g.R.Source.fault_count c.args.input.now })
    (record { bytes = g.R.Read.remaining c.hear_on.new.input; failed = g.R.Source.fault_count c.hear_on.new.input }) in
    let output : Device = between (record { bytes = g.W.Write.contents c.args.output.now; failed = g.W.Sink.fault_count c.args.output.now })
    (record { bytes = g.W.Write.contents c.hear_on.new.to; failed = g.W.Sink.fault_count c.hear_on.new.to }) in
    let before : Port = record { bytes = g.E.Write.contents c.args.faults.now; failed = g.E.Sink.fault_count c.args.faults.now } in
    let so_far : Port = record { bytes = g.E.Write.contents c.records.faults; failed = g.E.Sink.fault_count c.records.faults } in
    let after : Port = record { bytes = g.E.Write.contents c.report_more-in-Ok-Ended.new.faults; failed = g.E.Sink.fault_count c.report_more-in-Ok-Ended.new.faults } in
    ends (saving_of (g.F.OutputFiles.creates c.args.files.now) (g.F.OutputFiles.keeps c.args.files.now) (option_map (λ s. s.now) c.args.asked.state)) run c.args.asked.options.stop (g.R.Read.remaining c.records.input) start (g.W.Write.contents c.records.output) input output before so_far after c.records.has_refused
    c.records.has_lost c.records.repeats (option_map (λ v. v.items) c.records.limits) c.records.on_air c.hear_on.new.self
    c.in-Ok-Ended.why m
    (rw c.in-Ok-Ended.field-0-is at
    (c.in-Ok-Ended.ensures.heard run m.airs.heard_is.count m.airs.came (g.R.Read.remaining c.args.input.now) start m.state m.airs.heard_is.heard_is))
    (names_same (Ok (Ended c.in-Ok-Ended.why)) _ _ _ _ _ _ c.records.invariant.reads c.records.invariant.writes
    (rw c.in-Ok-Ended.field-0-is at c.in-Ok-Ended.ensures.fault)) c.report_more-in-Ok-Ended.ensures
    c.records.invariant.stops

pub returns-in-Err : goal.returns-in-Err
returns-in-Err g c = λ run start h.
    let m = c.records.invariant.known run start h in
    let input : Device = between (record { bytes = g.R.Read.remaining c.args.input.now; failed = g.R.Source.fault_count c.args.input.now })
    (record { bytes = g.R.Read.remaining c.hear_on.new.input; failed = g.R.Source.fault_count c.hear_on.new.input }) in
    let output : Device = between (record { bytes = g.W.Write.contents c.args.output.now; failed = g.W.Sink.fault_count c.args.output.now })
    (record { bytes = g.W.Write.contents c.hear_on.new.to; failed = g.W.Sink.fault_count c.hear_on.new.to }) in
    let faults : Device = between (record { bytes = g.E.Write.contents c.args.faults.now; failed = g.E.Sink.fault_count c.args.faults.now })
    (record { bytes = g.E.Write.contents c.records.faults; failed = g.E.Sink.fault_count c.records.faults }) in
    fails (saving_of (g.F.OutputFiles.creates c.args.files.now) (g.F.OutputFiles.keeps c.args.files.now) (option_map (λ s. s.now) c.args.asked.state)) run c.args.asked.options.stop (g.R.Read.remaining c.records.input) start (g.W.Write.contents c.records.output) input output faults c.records.has_refused
    c.records.has_lost c.records.repeats (option_map (λ v. v.items) c.records.limits) c.records.on_air c.hear_on.new.self c.in-Err.fault m
    (c.in-Err.ensures.heard run m.airs.heard_is.count m.airs.came (g.R.Read.remaining c.args.input.now) start m.state m.airs.heard_is.heard_is)
    (names_same (Err c.in-Err.fault) _ _ _ _ _ _ c.records.invariant.reads c.records.invariant.writes c.in-Err.ensures.fault)
    c.records.invariant.stops
