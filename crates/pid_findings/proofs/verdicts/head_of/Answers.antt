use Rattle.std.proofs.Common.{◌≡◌, Ok, arith, rules}
use Rattle.pes_packet.specs.Reading.{header_at}
use Rattle.pid_findings.proofs.HeadedUnits.{waits_for}
use Rattle.pid_findings.proofs.HeaderFronts.{header_size, header_there}
use Rattle.pid_findings.proofs.verdicts.head_of.Goals as goal

pub split_at-requires : goal.split_at-requires
split_at-requires c =
    let read : header_at c.args.bytes.now ≡ Ok (c.in-Ok.header, c.in-Ok.size) = search rules in
    header_there c.args.bytes.now (c.in-Ok.header, c.in-Ok.size) read

pub returns-in-Ok-clause-waits : goal.returns-in-Ok-clause-waits
returns-in-Ok-clause-waits c =
    let read : header_at c.args.bytes.now ≡ Ok (c.in-Ok.header, c.in-Ok.size) = search rules in
    waits_for c.args.bytes.now c.in-Ok.header c.in-Ok.size c.least_size.result read c.least_size.ensures.size

pub returns-in-Ok-clause-short : goal.returns-in-Ok-clause-short
returns-in-Ok-clause-short c =
    let read : header_at c.args.bytes.now ≡ Ok (c.in-Ok.header, c.in-Ok.size) = search rules in
    let few = header_size c.args.bytes.now (c.in-Ok.header, c.in-Ok.size) (λ i. (c.type_inv.bytes i).fits) read in
    omega (arith, few, c.split_at.ensures.front_len)
