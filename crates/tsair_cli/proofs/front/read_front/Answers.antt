use Rattle.std.proofs.Common.{◌≡◌, ◌≤◌, [], length, arith, inl, inr}
use Rattle.devices.specs.Devices.{Port}
use Rattle.tsair_cli.specs.Fronts.{max_front}
use Rattle.tsair_cli.proofs.FrontLines.{all_ended, ended_more, few_ended}
use Rattle.tsair_cli.proofs.Fronts.{front_ended, front_read, grown_on}
use Rattle.tsair_cli.proofs.front.read_front.Goals as goal

pub lines-preserved : goal.lines-preserved
lines-preserved g c =
    let old : Port = record { bytes = g.R.Read.remaining c.args.input.now; failed = g.R.Source.fault_count c.args.input.now } in
    let mid : Port = record { bytes = g.R.Read.remaining c.lines.input; failed = g.R.Source.fault_count c.lines.input } in
    let new : Port = record { bytes = g.R.Read.remaining c.read_line.new.input; failed = g.R.Source.fault_count c.read_line.new.input } in
    let read = rw c.in-Ok-true.field-0-test at c.in-Ok-true.ensures in
    let at : c.len-from.result ≡ length c.lines.text.items = omega (arith, c.len-from.ensures) in
    let short : length c.lines.text.items ≤ max_front = omega (arith, c.lines-test.true, c.len.ensures) in
    record {
      grows = grown_on old mid new [] c.lines.text.items c.read_line.new.text.items c.lines.invariant.grows read.0;
      lined = read.2;
      ended = ended_more c.lines.text.items c.read_line.new.text.items read.0.bytes c.deref-in-lines.result.now c.lines.ended c.ended_after-ended.result
          c.len-from.result read.0.grown short
          c.lines.invariant.lined c.lines.invariant.ended c.deref-in-lines.ensures.value at c.ended_after-ended.ensures;
      few = few_ended c.args.switch c.ended_after-ended.result c.have_ended.result c.have_ended.ensures c.if-have_ended.false;
    }

pub returns-then-have_ended : goal.returns-then-have_ended
returns-then-have_ended g c =
    let old : Port = record { bytes = g.R.Read.remaining c.args.input.now; failed = g.R.Source.fault_count c.args.input.now } in
    let mid : Port = record { bytes = g.R.Read.remaining c.lines.input; failed = g.R.Source.fault_count c.lines.input } in
    let new : Port = record { bytes = g.R.Read.remaining c.read_line.new.input; failed = g.R.Source.fault_count c.read_line.new.input } in
    let read = rw c.in-Ok-true.field-0-test at c.in-Ok-true.ensures in
    let at : c.len-from.result ≡ length c.lines.text.items = omega (arith, c.len-from.ensures) in
    let short : length c.lines.text.items ≤ max_front = omega (arith, c.lines-test.true, c.len.ensures) in
    let text = c.read_line.new.text.items in
    let ended = ended_more c.lines.text.items text read.0.bytes c.deref-in-lines.result.now c.lines.ended c.ended_after-ended.result c.len-from.result
    read.0.grown short
    c.lines.invariant.lined c.lines.invariant.ended c.deref-in-lines.ensures.value at c.ended_after-ended.ensures in
    front_read c.args.switch old new text c.deref-then-have_ended.result.now c.plans_of-then-have_ended.result
    (grown_on old mid new [] c.lines.text.items text c.lines.invariant.grows read.0)
    (inl (all_ended c.args.switch text c.ended_after-ended.result c.have_ended.result ended c.have_ended.ensures c.if-have_ended.true))
    c.deref-then-have_ended.ensures.value c.plans_of-then-have_ended.ensures

pub returns-in-Ok-false : goal.returns-in-Ok-false
returns-in-Ok-false g c =
    let old : Port = record { bytes = g.R.Read.remaining c.args.input.now; failed = g.R.Source.fault_count c.args.input.now } in
    let mid : Port = record { bytes = g.R.Read.remaining c.lines.input; failed = g.R.Source.fault_count c.lines.input } in
    let new : Port = record { bytes = g.R.Read.remaining c.read_line.new.input; failed = g.R.Source.fault_count c.read_line.new.input } in
    let read = rw c.in-Ok-false.field-0-test at c.in-Ok-false.ensures in
    let text = c.read_line.new.text.items in
    front_read c.args.switch old new text c.deref.result.now c.plans_of.result
    (grown_on old mid new [] c.lines.text.items text c.lines.invariant.grows read.0)
    (inr (front_ended old mid new [] c.lines.text.items text c.lines.invariant.grows read.1))
    c.deref.ensures.value c.plans_of.ensures
