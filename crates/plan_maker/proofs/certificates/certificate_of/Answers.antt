use Rattle.std.proofs.Common.{◌≤◌, length, arith, refl}
use Rattle.plan_maker.specs.Certificates.{stream_entry_of, program_entry_of}
use Rattle.plan_maker.proofs.PlanParts.{length_numbered, no_error}
use Rattle.plan_maker.proofs.certificates.certificate_of.Goals as goal

pub returns-clause-fits : goal.returns-clause-fits
returns-clause-fits g c =
    let d = c.args.description.now in
    let slots = c.args.slots.now in
    let streams : length c.in_ok-streams.streams.items ≤ 256 =
    rw c.in_ok-streams.ensures.entries (omega (arith, length_numbered (stream_entry_of d slots) 0 d.streams, c.keeps_ranges.ensures.most_streams)) in
    let programs : length c.in_ok-programs.programs.items ≤ 256 =
    rw c.in_ok-programs.ensures.entries
    (omega (arith, length_numbered (λ i _. program_entry_of d slots i) 0 d.programs, c.keeps_ranges.ensures.most_programs)) in
    no_error slots (record { streams = c.in_ok-streams.streams.items; programs = c.in_ok-programs.programs.items }) (omega (arith, c.requires)) streams programs
    (rw (c.in_ok-streams.ensures.small, c.in_ok-programs.ensures.small) refl)
