use Rattle.std.proofs.Common.{◌<◌, ◌≤◌, ◌^◌, ◌∙◌, length, refl, sym, arith}
use Rattle.devices.specs.Devices.{Port}
use Rattle.es_feed.proofs.PassedStreams.{fed_piece, none_read, piece_lost}
use Rattle.es_feed.proofs.passing.feed_piece.Goals as goal

pub returns-in-Ok-eq0 : goal.returns-in-Ok-eq0
returns-in-Ok-eq0 g c =
    let i1 : Port = record { bytes = g.R.Read.remaining c.args.input.now; failed = g.R.Source.fault_count c.args.input.now } in
    let i2 : Port = record { bytes = g.R.Read.remaining c.read_some.new.self; failed = g.R.Source.fault_count c.read_some.new.self } in
    let some : 0 < length c.read_some.new.part = omega (arith, c.requires.some, c.read_some.auto.part) in (
      none_read i1.bytes i2.bytes c.in-Ok-eq0.field-0 c.read_some.new.part c.in-Ok-eq0.field-0-test c.in-Ok-eq0.ensures.bytes.0,
      c.in-Ok-eq0.ensures.counts,
      c.in-Ok-eq0.ensures.bytes.1 c.in-Ok-eq0.field-0-test some,
      refl,
    )

pub returns-then-is_err : goal.returns-then-is_err
returns-then-is_err g c =
    let i1 : Port = record { bytes = g.R.Read.remaining c.args.input.now; failed = g.R.Source.fault_count c.args.input.now } in
    let i2 : Port = record { bytes = g.R.Read.remaining c.read_some.new.self; failed = g.R.Source.fault_count c.read_some.new.self } in
    let most : length c.read_some.new.part ≤ 2 ^ 16 = omega (arith, c.requires.most, c.read_some.auto.part) in
    piece_lost c.args.stream.now c.push.new.self i1 i2 c.read_some.new.part c.in-Ok.n c.push.new.fed.items most c.in-Ok.ensures.bound.0
    c.in-Ok.ensures.bytes.0 c.in-Ok.ensures.counts

pub returns : goal.returns
returns g c =
    let i1 : Port = record { bytes = g.R.Read.remaining c.args.input.now; failed = g.R.Source.fault_count c.args.input.now } in
    let i2 : Port = record { bytes = g.R.Read.remaining c.read_some.new.self; failed = g.R.Source.fault_count c.read_some.new.self } in
    let some : 0 < c.in-Ok.n = omega (arith, c.in-Ok.n-test) in
    let most : length c.read_some.new.part ≤ 2 ^ 16 = omega (arith, c.requires.most, c.read_some.auto.part) in
    fed_piece c.args.stream.now c.push.new.self i1 i2 c.read_some.new.part c.in-Ok.n c.push.new.fed.items c.push.result most c.in-Ok.ensures.bound.0 some
    c.in-Ok.ensures.bytes.0 c.in-Ok.ensures.counts (sym c.is_err.ensures.value ∙ c.if-is_err.false) c.push.ensures.taken c.push.ensures.held
