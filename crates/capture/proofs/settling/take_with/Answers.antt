use Rattle.std.proofs.Common.{sym, arith, length-take-le}
use Rattle.capture.proofs.settling.take_with.Goals as goal

pub slice_bounds-take_plain-end : goal.slice_bounds-take_plain-end
slice_bounds-take_plain-end g c = sym (length-take-le 188 c.args.bytes.now (omega (arith, c.requires)))

pub take_plain-requires : goal.take_plain-requires
take_plain-requires g c = length-take-le 188 c.args.bytes.now (omega (arith, c.requires))
