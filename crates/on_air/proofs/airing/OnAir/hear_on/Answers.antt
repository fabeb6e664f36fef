use Rattle.std.proofs.Common.{Ok, refl, ◌∙◌, arith}
use Rattle.on_air.specs.declared.answers.Heard.TheVariants.{Ended}
use Rattle.on_air.proofs.HeardRecords.{midway_begins, next_taken, next_changed, next_lined_up, next_refused, next_ended, next_failed, names_same}
use Rattle.on_air.proofs.airing.OnAir.hear_on.Goals as goal

pub records-init : goal.records-init
records-init g c = record {
  rises = omega (arith, c.let_out.ensures.records);
  out = c.in-Ok.ensures.out;
  reads = refl;
  writes = c.in-Ok.ensures.clean;
  known = λ first n d origin start h has. midway_begins first n d origin start _ _ _ (c.in-Ok.ensures.ok d.run d.air start h) has;
}

pub records-preserved : goal.records-preserved
records-preserved g c =
    let counts = rw c.in-Ok-Taken.field-0-is at c.in-Ok-Taken.ensures.counts in
    let clean = rw c.in-Ok-Taken.field-0-is at c.in-Ok-Taken.ensures.fault in
    record {
      rises = omega (arith, c.records.invariant.rises, counts.1);
      out = rw c.in-Ok-Taken.field-0-is at c.in-Ok-Taken.ensures.out;
      reads = clean.0 ∙ c.records.invariant.reads;
      writes = clean.1 ∙ c.records.invariant.writes;
      known = λ first n d origin start h has.
          let w = c.records.invariant.known first n d origin start h has in
          next_taken first d origin start (g.R.Read.remaining c.records.input) (g.R.Read.remaining c.hear.new.input) (g.W.Write.contents c.records.to)
          (g.W.Write.contents c.hear.new.to) c.records.self c.hear.new.self w
          (rw c.in-Ok-Taken.field-0-is at (c.in-Ok-Taken.ensures.heard d.run w.so_far start w.state));
    }

pub returns-in-Ok-Refused-clause-heard : goal.returns-in-Ok-Refused-clause-heard
returns-in-Ok-Refused-clause-heard g c = λ first n d origin start h has.
    let w = c.records.invariant.known first n d origin start h has in
    next_refused first d origin start (g.R.Read.remaining c.records.input) (g.R.Read.remaining c.hear.new.input) (g.W.Write.contents c.records.to)
    (g.W.Write.contents c.hear.new.to) c.records.self c.hear.new.self c.in-Ok-Refused.index c.in-Ok-Refused.cause w
    (rw c.in-Ok-Refused.field-0-is at (c.in-Ok-Refused.ensures.heard d.run w.so_far start w.state))

pub returns-in-Ok-Changed-clause-heard : goal.returns-in-Ok-Changed-clause-heard
returns-in-Ok-Changed-clause-heard g c = λ first n d origin start h has.
    let w = c.records.invariant.known first n d origin start h has in
    next_changed first d origin start (g.R.Read.remaining c.records.input) (g.R.Read.remaining c.hear.new.input) (g.W.Write.contents c.records.to)
    (g.W.Write.contents c.hear.new.to) c.records.self c.hear.new.self c.in-Ok-Changed.index c.in-Ok-Changed.slot w
    (rw c.in-Ok-Changed.field-0-is at (c.in-Ok-Changed.ensures.heard d.run w.so_far start w.state))

pub returns-in-Ok-LinedUp-clause-heard : goal.returns-in-Ok-LinedUp-clause-heard
returns-in-Ok-LinedUp-clause-heard g c = λ first n d origin start h has.
    let w = c.records.invariant.known first n d origin start h has in
    next_lined_up first d origin start (g.R.Read.remaining c.records.input) (g.R.Read.remaining c.hear.new.input) (g.W.Write.contents c.records.to)
    (g.W.Write.contents c.hear.new.to) c.records.self c.hear.new.self c.in-Ok-LinedUp.index c.in-Ok-LinedUp.slot w
    (rw c.in-Ok-LinedUp.field-0-is at (c.in-Ok-LinedUp.ensures.heard d.run w.so_far start w.state))

pub returns-in-Ok-Ended-clause-heard : goal.returns-in-Ok-Ended-clause-heard
returns-in-Ok-Ended-clause-heard g c = λ first n d origin start h has.
    let w = c.records.invariant.known first n d origin start h has in
    next_ended first d origin start (g.R.Read.remaining c.records.input) (g.R.Read.remaining c.hear.new.input) (g.W.Write.contents c.records.to)
    (g.W.Write.contents c.hear.new.to) c.records.self c.hear.new.self c.in-Ok-Ended.why w
    (rw c.in-Ok-Ended.field-0-is at (c.in-Ok-Ended.ensures.heard d.run w.so_far start w.state))

pub returns-in-Err-hear-clause-heard : goal.returns-in-Err-hear-clause-heard
returns-in-Err-hear-clause-heard g c = λ first n d origin start h has.
    let w = c.records.invariant.known first n d origin start h has in
    next_failed first d origin start (g.R.Read.remaining c.records.input) (g.R.Read.remaining c.hear.new.input) (g.W.Write.contents c.records.to)
    (g.W.Write.contents c.hear.new.to) c.records.self c.hear.new.self c.in-Err-hear.fault w (c.in-Err-hear.ensures.heard d.run w.so_far start w.state)

pub returns-in-Ok-Refused-clause-counts : goal.returns-in-Ok-Refused-clause-counts
returns-in-Ok-Refused-clause-counts g c =
    let counts = rw c.in-Ok-Refused.field-0-is at c.in-Ok-Refused.ensures.counts in
    (omega (arith, c.records.invariant.rises, counts.1), omega (arith, counts.0, counts.1))

pub returns-in-Ok-Changed-clause-counts : goal.returns-in-Ok-Changed-clause-counts
returns-in-Ok-Changed-clause-counts g c =
    let counts = rw c.in-Ok-Changed.field-0-is at c.in-Ok-Changed.ensures.counts in
    (omega (arith, c.records.invariant.rises, counts.1), omega (arith, counts.0, counts.1))

pub returns-in-Ok-LinedUp-clause-counts : goal.returns-in-Ok-LinedUp-clause-counts
returns-in-Ok-LinedUp-clause-counts g c =
    let counts = rw c.in-Ok-LinedUp.field-0-is at c.in-Ok-LinedUp.ensures.counts in
    (omega (arith, c.records.invariant.rises, counts.1), omega (arith, counts.0, counts.1))

pub returns-in-Ok-Ended-clause-counts : goal.returns-in-Ok-Ended-clause-counts
returns-in-Ok-Ended-clause-counts g c =
    let counts = rw c.in-Ok-Ended.field-0-is at c.in-Ok-Ended.ensures.counts in omega (arith, c.records.invariant.rises, counts)

pub returns-in-Ok-Ended-clause-fault : goal.returns-in-Ok-Ended-clause-fault
returns-in-Ok-Ended-clause-fault g c =
    names_same (Ok (Ended c.in-Ok-Ended.why)) _ _ _ _ _ _ c.records.invariant.reads c.records.invariant.writes
    (rw c.in-Ok-Ended.field-0-is at c.in-Ok-Ended.ensures.fault)

pub returns-in-Err-clause-heard : goal.returns-in-Err-clause-heard
returns-in-Err-clause-heard g c = λ first n d origin start h has.
    (d, record { count = n; heard_is = has }, refl, c.in-Err.ensures.err d.run d.air start h)
