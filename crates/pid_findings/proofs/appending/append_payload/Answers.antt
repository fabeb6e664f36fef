use Rattle.std.proofs.Common.{◌++◌, ◌+◌, ◌<◌, length, replicate, ap, arith}
use Rattle.std.specs.Prelude.{is_ok}
use Rattle.pid_findings.specs.OpenUnits.{OpenUnit}
use Rattle.pid_findings.proofs.HeadedUnits.{grown_if}
use Rattle.pid_findings.proofs.appending.append_payload.Goals as goal

pub invariant_of-unit : goal.invariant_of-unit
invariant_of-unit g c =
    let unit = c.unit.inside in
    let zeros = replicate unit.left_out 0 in
    let few : length (unit.front.items ++ (zeros ++ unit.bytes.items)) + length c.args.payload.now < unit.least =
    omega (arith, c.len.ensures.len, c.if-len-payload.true, ap (λ (u : OpenUnit). length u.bytes) c.unit.view_is) in (
      grown_if (is_ok c.extend_from_slice.result) unit.header unit.kind unit.front.items zeros unit.bytes.items c.args.payload.now
          c.extend_from_slice.new.self.items unit.least
          c.extend_from_slice.ensures.items c.unit.invariant.0 few,
      c.unit.invariant.1,
    )
