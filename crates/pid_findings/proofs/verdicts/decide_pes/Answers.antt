use Rattle.std.proofs.Common.{◌≡◌, Err, arith, rules}
use Rattle.pes_packet.specs.Reading.{header_at}
use Rattle.pes_packet.specs.declared.refusal.PesError.TheVariants as errors
use Rattle.pid_findings.proofs.ShortReads.{header_bound}
use Rattle.pid_findings.proofs.verdicts.decide_pes.Goals as goal

pub returns-in-Err-Short-clause-bounded : goal.returns-in-Err-Short-clause-bounded
returns-in-Err-Short-clause-bounded c =
    let short : header_at c.args.bytes.now ≡ Err errors.Short = search rules in
    let few = header_bound c.args.bytes.now (λ i. (c.type_inv.bytes i).fits) short in
    λ none. omega arith
