use Rattle.std.proofs.Common.{refl}
use Rattle.mux_core.specs.WholeJobs.{job_history}
use Rattle.mux_core.proofs.JobDone.{cause_is, answers, writes, sends, on_writing, output_short, fed_size, fed_short, fed_headline, fed_measured, fed_writes}
use Rattle.mux_core.proofs.multiplexing.write_job.Goals as goal

pub returns-in-Err-clause-refused : goal.returns-in-Err-clause-refused
returns-in-Err-clause-refused g c =
    cause_is c.args.mux.now.schedule c.args.mux.now.capacity c.args.units.items _ c.requires.capacity (c.in-Err.ensures.fed c.requires.represents)

pub returns-clause-refused : goal.returns-clause-refused
returns-clause-refused g c =
    let fed = c.in-Ok.ensures.fed c.requires.represents in
    let all = c.write_all.ensures.answers (job_history c.args.units.items 0) fed.represents refl in
    answers _ _ _ _ c.write_all.result (cause_is c.args.mux.now.schedule c.args.mux.now.capacity c.args.units.items _ c.requires.capacity fed.none_refused) all

pub returns-clause-written : goal.returns-clause-written
returns-clause-written g c =
    let fed = c.in-Ok.ensures.fed c.requires.represents in
    let all = c.write_all.ensures.answers (job_history c.args.units.items 0) fed.represents refl in
    writes _ _ _ c.write_all.result
    (fed_short c.args.mux.now c.feed_all.new.mux c.args.units.items c.args.hex c.args.slots c.keeps_promises.ensures.ranges c.requires.slots fed)
    (fed_writes c.args.mux.now c.feed_all.new.mux c.args.units.items c.args.hex c.args.slots _ _ c.write_all.result c.in-Ok-new.packets.hex fed
    c.in-Ok-new.ensures.hex all)

pub returns-clause-sent : goal.returns-clause-sent
returns-clause-sent g c =
    let fed = c.in-Ok.ensures.fed c.requires.represents in
    let all = c.write_all.ensures.answers (job_history c.args.units.items 0) fed.represents refl in
    sends _ _ _ _ c.write_all.result (fed_size c.args.mux.now c.feed_all.new.mux c.args.units.items c.args.hex c.args.slots c.keeps_promises.ensures.ranges fed)
    (output_short c.args.hex c.args.slots c.requires.slots)
    (fed_writes c.args.mux.now c.feed_all.new.mux c.args.units.items c.args.hex c.args.slots _ _ c.write_all.result c.in-Ok-new.packets.hex fed
    c.in-Ok-new.ensures.hex all)

pub returns-clause-headline : goal.returns-clause-headline
returns-clause-headline g c =
    on_writing c.write_all.result
    (fed_headline c.args.mux.now c.feed_all.new.mux c.args.units.items c.args.slots c.keeps_promises.ensures.ranges c.keeps_promises.ensures.promised
    (c.in-Ok.ensures.fed c.requires.represents))

pub returns-clause-measured : goal.returns-clause-measured
returns-clause-measured g c =
    on_writing c.write_all.result
    (fed_measured c.args.mux.now c.feed_all.new.mux c.args.units.items c.args.slots c.keeps_promises.ensures.ranges c.keeps_promises.ensures.promised
    (c.in-Ok.ensures.fed c.requires.represents))
