use Rattle.std.proofs.Common.{◌≡◌, Err, arith, rules}
use Rattle.psi_tables.specs.Reading.{section_at}
use Rattle.psi_tables.specs.declared.error.SectionError.TheVariants as errors
use Rattle.pid_findings.proofs.ShortReads.{section_bound}
use Rattle.pid_findings.proofs.verdicts.decide_section.Goals as goal

pub returns-in-Err-Short-clause-bounded : goal.returns-in-Err-Short-clause-bounded
returns-in-Err-Short-clause-bounded c =
    let short : section_at c.args.bytes.now ≡ Err errors.Short = search rules in
    let few = section_bound c.args.bytes.now (λ i. (c.type_inv.bytes i).fits) short in
    λ none. omega arith
