use Rattle.std.proofs.Common.{◌++◌, refl, ◌∙◌, ap, arith}
use Rattle.pes_packet.specs.AccessUnits.{AccessUnit}
use Rattle.mux_core.specs.RecordRuns.{after_records, carried}
use Rattle.mux_core.proofs.ReadBytes.{end_read, own_of, stop_read, unit_read}
use Rattle.mux_core.proofs.Runs.{packet_number, midway_start, midway_more, midway_failed, midway_holds, midway_ended, midway_stopped}
use Rattle.mux_core.proofs.LeftInput.{none_read, one_read, stop_leaves}
use Rattle.mux_core.proofs.carrying.carry_all.Goals as goal

pub records-init : goal.records-init
records-init g c = record {
  index = omega arith;
  last = omega arith;
  counter = omega arith;
  hex = refl;
  reads = refl;
  writes = refl;
  rest = λ xs e. none_read xs _ e;
  midway = λ start all rest h own. (rest, own, midway_start _ _ _ rest start _ _ all h);
}

pub returns-in-Ok-None-clause-ok : goal.returns-in-Ok-None-clause-ok
returns-in-Ok-None-clause-ok g c = λ start all h.
    let e = end_read (g.R.Read.remaining c.records.input) (g.R.Read.remaining c.next_unit.new.input) c.args.id c.records.min_next_dts (λ xs is. rw c.in-Ok-None.field-0-is at (c.in-Ok-None.ensures.known xs is)) in
    let w = c.records.invariant.midway start all e.rest h e.own in (
      w.0,
      w.1,
      midway_ended _ _ _ w.0 _ _ _ e.rest start _ _ all w.2 e.none,
      (midway_holds _ _ _ w.0 _ _ _ e.rest start _ _ all w.2).1,
    )

pub returns-in-Err-clause-ok : goal.returns-in-Err-clause-ok
returns-in-Err-clause-ok g c = λ start all h.
    let e = stop_read (g.R.Read.remaining c.records.input) (g.R.Read.remaining c.next_unit.new.input) c.args.id c.records.min_next_dts c.in-Err.stop
    c.in-Err.ensures.known c.in-Err.ensures.judges in
    let w = c.records.invariant.midway start all e.rest h e.own in (
      w.0,
      w.1,
      midway_stopped _ _ _ w.0 _ _ _ e.rest start _ _ all c.in-Err.stop w.2 e.stops,
      (midway_holds _ _ _ w.0 _ _ _ e.rest start _ _ all w.2).1,
    )

pub returns-in-Ok-None-clause-left : goal.returns-in-Ok-None-clause-left
returns-in-Ok-None-clause-left g c = λ xs e.
    (rw c.in-Ok-None.field-0-is at (c.in-Ok-None.ensures.known (after_records c.records.index xs) (c.records.invariant.rest xs e))).1

pub returns-in-Err-clause-left : goal.returns-in-Err-clause-left
returns-in-Err-clause-left g c = λ xs e.
    stop_leaves xs c.records.index c.args.id c.records.min_next_dts _ c.in-Err.stop
    (c.in-Err.ensures.known (after_records c.records.index xs) (c.records.invariant.rest xs e))

pub returns-in-Err-push_unit-clause-err : goal.returns-in-Err-push_unit-clause-err
returns-in-Err-push_unit-clause-err g c = λ start all h.
    let later = own_of (g.R.Read.remaining c.next_unit.new.input) in
    let e = unit_read (g.R.Read.remaining c.records.input) (g.R.Read.remaining c.next_unit.new.input) c.args.id c.records.min_next_dts c.in-Ok-Some.unit later.0
    (λ xs is. rw c.in-Ok-Some.field-0-is at (c.in-Ok-Some.ensures.known xs is)) (rw c.in-Ok-Some.field-0-is at c.in-Ok-Some.ensures.judges) later.1 in
    let w = c.records.invariant.midway start all e.rest h e.own in (
      w.0,
      w.1,
      midway_failed _ _ _ c.records.packets.hex w.0 _ _ _ c.in-Err-push_unit.fault.sent e.rest start _ _ _ all c.in-Ok-Some.unit w.2 e.holds
          c.records.invariant.hex
          (c.in-Err-push_unit.ensures.err start (all ++ carried c.args.packets.now.hex c.args.pid c.args.id w.2.done) (packet_number c.args.id w.2.done) w.2.holds
          w.2.counter_is),
    )

pub records-preserved : goal.records-preserved
records-preserved g c =
    let accepted = rw c.in-Ok-Some.field-0-is at c.in-Ok-Some.ensures.accepted in
    let dts = ap (λ (u : AccessUnit). u.dts) c.unit.view_is in
    record {
      index = omega (arith, accepted.later, dts, c.records.invariant.index);
      last = omega (arith, accepted.last, dts);
      counter = c.in-Ok.ensures.next;
      hex = c.in-Ok.ensures.hex ∙ c.records.invariant.hex;
      reads = c.in-Ok-Some.ensures.fault ∙ c.records.invariant.reads;
      writes = c.in-Ok.ensures.clean ∙ c.records.invariant.writes;
      rest = λ xs e.
          one_read xs c.records.index c.args.id c.records.min_next_dts _ c.in-Ok-Some.unit
          (rw c.in-Ok-Some.field-0-is at (c.in-Ok-Some.ensures.known (after_records c.records.index xs) (c.records.invariant.rest xs e)));
      midway = λ start all rest h own.
          let e = unit_read (g.R.Read.remaining c.records.input) (g.R.Read.remaining c.next_unit.new.input) c.args.id c.records.min_next_dts
          c.in-Ok-Some.unit rest (λ xs is. rw c.in-Ok-Some.field-0-is at (c.in-Ok-Some.ensures.known xs is))
          (rw c.in-Ok-Some.field-0-is at c.in-Ok-Some.ensures.judges) own in
          let w = c.records.invariant.midway start all e.rest h e.own in (
            w.0,
            w.1,
            rw dts
                (midway_more _ _ _ c.records.packets.hex w.0 _ _ _ c.in-Ok.next e.rest rest start _ _ _ _ all c.in-Ok-Some.unit w.2 (e.holds, e.later_is)
                c.records.invariant.hex
                (c.in-Ok.ensures.ok start (all ++ carried c.args.packets.now.hex c.args.pid c.args.id w.2.done) (packet_number c.args.id w.2.done) w.2.holds
                w.2.counter_is)),
          );
    }
