use Rattle.std.proofs.Common.{◌≡◌, inl, inr, length, arith}
use Rattle.devices.specs.Devices.{Port}
use Rattle.tsair_cli.proofs.FrontLines.{whole_line}
use Rattle.tsair_cli.proofs.Fronts.{byte_on, end_on, longer, zero_last}
use Rattle.tsair_cli.proofs.front.read_line.Goals as goal

pub returns-in-Ok-eq0 : goal.returns-in-Ok-eq0
returns-in-Ok-eq0 g c =
    let old : Port = record { bytes = g.R.Read.remaining c.args.input.now; failed = g.R.Source.fault_count c.args.input.now } in
    let mid : Port = record { bytes = g.R.Read.remaining c.bytes.input; failed = g.R.Source.fault_count c.bytes.input } in
    let new : Port = record { bytes = g.R.Read.remaining c.read_part.new.from; failed = g.R.Source.fault_count c.read_part.new.from } in
    let size : length c.read_part.new.part ≡ 1 = omega (arith, c.read_part.auto.part, c.bytes.invariant.size) in
    let ends = end_on old mid new c.args.text.now.items c.bytes.text.items c.read_part.new.part c.in-Ok-eq0.field-0 (omega (arith, c.in-Ok-eq0.field-0-test)) size
    c.bytes.invariant.grows
    c.in-Ok-eq0.ensures.known c.in-Ok-eq0.ensures.clean in
    (ends.0, inl ends.1)

pub returns-then-next-eq10 : goal.returns-then-next-eq10
returns-then-next-eq10 g c =
    let old : Port = record { bytes = g.R.Read.remaining c.args.input.now; failed = g.R.Source.fault_count c.args.input.now } in
    let mid : Port = record { bytes = g.R.Read.remaining c.bytes.input; failed = g.R.Source.fault_count c.bytes.input } in
    let new : Port = record { bytes = g.R.Read.remaining c.read_part.new.from; failed = g.R.Source.fault_count c.read_part.new.from } in
    let size : length c.read_part.new.part ≡ 1 = omega (arith, c.read_part.auto.part, c.bytes.invariant.size) in (
      byte_on old mid new c.args.text.now.items c.bytes.text.items c.push.new.self.items c.read_part.new.part c.in-Ok.field-0 size
          (omega (arith, c.in-Ok.ensures.bound, size))
          (omega (arith, c.in-Ok.field-0-test)) c.bytes.invariant.grows c.in-Ok.ensures.known c.in-Ok.ensures.clean c.in-Ok-push.ensures.items,
      λ within. longer old mid c.args.text.now.items c.bytes.text.items c.push.new.self.items _ c.bytes.invariant.grows c.in-Ok-push.ensures.items,
      inr (whole_line c.bytes.text.items c.push.new.self.items _ c.in-Ok-push.ensures.items c.if-next-eq10.true),
    )

pub returns-then-next-eq0 : goal.returns-then-next-eq0
returns-then-next-eq0 g c =
    let old : Port = record { bytes = g.R.Read.remaining c.args.input.now; failed = g.R.Source.fault_count c.args.input.now } in
    let mid : Port = record { bytes = g.R.Read.remaining c.bytes.input; failed = g.R.Source.fault_count c.bytes.input } in
    let new : Port = record { bytes = g.R.Read.remaining c.read_part.new.from; failed = g.R.Source.fault_count c.read_part.new.from } in
    let size : length c.read_part.new.part ≡ 1 = omega (arith, c.read_part.auto.part, c.bytes.invariant.size) in (
      byte_on old mid new c.args.text.now.items c.bytes.text.items c.push.new.self.items c.read_part.new.part c.in-Ok.field-0 size
          (omega (arith, c.in-Ok.ensures.bound, size))
          (omega (arith, c.in-Ok.field-0-test)) c.bytes.invariant.grows c.in-Ok.ensures.known c.in-Ok.ensures.clean c.in-Ok-push.ensures.items,
      inr (zero_last c.bytes.text.items c.push.new.self.items _ c.in-Ok-push.ensures.items c.if-next-eq0.true),
    )

pub bytes-preserved : goal.bytes-preserved
bytes-preserved g c =
    let old : Port = record { bytes = g.R.Read.remaining c.args.input.now; failed = g.R.Source.fault_count c.args.input.now } in
    let mid : Port = record { bytes = g.R.Read.remaining c.bytes.input; failed = g.R.Source.fault_count c.bytes.input } in
    let new : Port = record { bytes = g.R.Read.remaining c.read_part.new.from; failed = g.R.Source.fault_count c.read_part.new.from } in
    let size : length c.read_part.new.part ≡ 1 = omega (arith, c.read_part.auto.part, c.bytes.invariant.size) in
    record {
      size = size;
      grows = byte_on old mid new c.args.text.now.items c.bytes.text.items c.push.new.self.items c.read_part.new.part c.in-Ok.field-0 size
          (omega (arith, c.in-Ok.ensures.bound, size))
          (omega (arith, c.in-Ok.field-0-test)) c.bytes.invariant.grows c.in-Ok.ensures.known c.in-Ok.ensures.clean c.in-Ok-push.ensures.items;
    }
